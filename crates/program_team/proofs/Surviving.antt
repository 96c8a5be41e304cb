-- What was acknowledged is in what a crash leaves.
use Rattle.std.proofs.Common.{◌≡◌, ◌∙◌, ◌+◌, ◌++◌, ◌≤◌, ◌∷◌, [], zero, suc, ⊎_elim, ◌⊎◌, All, Bool, List, Some, ℕ, ap, arith, cond, false, filter, inl, inr}
use Rattle.std.proofs.Common.{map, refl, subst, sym, take, true}
use Rattle.std.proofs.Math.Logic.{∥∥₁_map}
use Rattle.std.proofs.lemmas.Bool.{le-leb}
use Rattle.std.proofs.lemmas.List.Elements.{All-from_recursion, All-weaker, recursion_from_All}
use Rattle.std.specs.List.{AllByRecursion}
use Rattle.std.specs.Prelude.{flat_map, nat_le, slice_get, ◌==◌}
use Rattle.record_values.specs.GeometryValue.{GeometryValue}
use Rattle.records.specs.RecordValue.{RecordValue}
use Rattle.model.specs.Given.{given_after}
use Rattle.core_model.specs.Histories.{Opened}
use Rattle.core_parts.specs.declared.parts.Ticket.{Ticket}
use Rattle.threads_register.specs.Register.{Commits, made_by}
use Rattle.sector_device.specs.Disk.{CrashState}
use Rattle.threads_sessions.specs.Values.{CommitValue, SessionValue}
use Rattle.shared.specs.Seats.{AckValue, SeatValue}
use Rattle.threads_lifetime.specs.Closing.{GivesSome, up_to}
use Rattle.threads_lifetime.specs.Gathered.{sessions_of}
use Rattle.program_team.proofs.Orders.{get_first, in_mapped}
use Rattle.program_team.specs.Kept.{HasTicket, KeepsTold, LeavesOpened, told_ticket}
use Rattle.program_team.specs.Private.{AllTell, HasMade}
use Rattle.program_team.specs.declared.writer.Acknowledged.{Acknowledged}

head_is : {X : Type 0} {x y : X} {xs ys : List X} → x ∷ xs ≡ y ∷ ys → x ≡ y
head_is same = cc

tail_is : {X : Type 0} {x y : X} {xs ys : List X} → x ∷ xs ≡ y ∷ ys → xs ≡ ys
tail_is same = cc

-- ---- where a commit is

-- it is one of these
pub record IsIn {X : Type 0} (x : X) (xs : List X) : Type 0 where
  pub before : List X
  pub after : List X
  pub there : xs ≡ before ++ x ∷ after

in_first : {X : Type 0} (x : X) (xs : List X) → IsIn x (x ∷ xs)
in_first x xs = record { before = []; after = xs; there = refl }

in_later : {X : Type 0} (x y : X) (xs : List X) → IsIn x xs → IsIn x (y ∷ xs)
in_later x y xs is = record { before = y ∷ is.before; after = is.after; there = ap (λ zs. y ∷ zs) is.there }

in_nothing : {X P : Type 0} (x : X) → IsIn x [] → P
in_nothing x is = none is.before is.there
  where
    none : {P : Type 0} (before : List _) → [] ≡ before ++ x ∷ is.after → P
    none [] same = absurd cc
    none (y ∷ ys) same = absurd cc

in_more : {X : Type 0} (x y : X) (xs : List X) → IsIn x (y ∷ xs) → (y ≡ x) ⊎ IsIn x xs
in_more x y xs is = by is.before is.there
  where
    by : (before : List _) → y ∷ xs ≡ before ++ x ∷ is.after → (y ≡ x) ⊎ IsIn x xs
    by [] same = inl (head_is same)
    by (z ∷ zs) same = inr (record { before = zs; after = is.after; there = tail_is same })

-- what a seat made is among all
made_in : (seat : ℕ) (c : CommitValue) (cs : Commits) → IsIn c (made_by seat cs) → IsIn c (map (λ x. x.1) cs)
made_in seat c [] is = in_nothing c is
made_in seat c (x ∷ xs) is = by (seat == x.0) (made_in seat c xs) is
  where
    by : (b : Bool) → (IsIn c (made_by seat xs) → IsIn c (map (λ y. y.1) xs)) → IsIn c (cond b (x.1 ∷ made_by seat xs) (made_by seat xs))
        → IsIn c (x.1 ∷ map (λ y. y.1) xs)
    by true rest found = ⊎_elim
        (λ same. subst (λ d. IsIn c (d ∷ map (λ y. y.1) xs)) (sym same) (in_first c (map (λ y. y.1) xs)))
        (λ later. in_later c x.1 _ (rest later))
        (in_more c x.1 (made_by seat xs) found)
    by false rest found = in_later c x.1 _ (rest found)

-- and so of those that pass a test, where it passes
in_filter : {X : Type 0} (p : X → Bool) (x : X) (xs : List X) → p x ≡ true → IsIn x xs → IsIn x (filter p xs)
in_filter p x [] passes is = in_nothing x is
in_filter p x (y ∷ ys) passes is = ⊎_elim
    (λ same. subst (λ b. IsIn x (cond b (y ∷ filter p ys) (filter p ys))) (sym (ap p same ∙ passes))
    (subst (λ z. IsIn x (z ∷ filter p ys)) (sym same) (in_first x (filter p ys))))
    (λ later. by (p y) (in_filter p x ys passes later))
    (in_more x y ys is)
  where
    by : (b : Bool) → IsIn x (filter p ys) → IsIn x (cond b (y ∷ filter p ys) (filter p ys))
    by true rest = in_later x y (filter p ys) rest
    by false rest = rest

-- ---- one commit

-- one of the seats has the commit of this ticket, and its record is at most this one
pub record HasCommit (seats : List SeatValue) (floor : ℕ) (ticket : Ticket) : Type 0 where
  pub seat : ℕ
  pub session : SessionValue
  pub here : slice_get (sessions_of seats) seat ≡ Some session
  pub commit : CommitValue
  pub among : IsIn commit session.commits
  pub is : commit.ticket ≡ ticket
  pub low : commit.ticket.«record» ≤ floor

-- the table of what was opened with their commits set over it
abbrev leaves_of : (o : Opened) (g : GeometryValue) (seats : List SeatValue) (popped : List RecordValue) (floor : ℕ) (image : CrashState)
    → GivesSome o g seats popped floor image → LeavesOpened o image
leaves_of o g seats popped floor image some = record {
  geometry = g;
  given = given_after o.given (take some.count (some.pushed ++ some.core.outbox));
  gives = some.gives;
  seats = seats;
  core = some.core;
  pushed = some.pushed;
  shared = some.shared;
  commits = some.commits;
  gathered = some.all;
  number = o.given.last + some.count;
  table = some.table;
}

keeps_commit : (o : Opened) (g : GeometryValue) (seats : List SeatValue) (popped : List RecordValue) (floor : ℕ) (image : CrashState) (ticket : Ticket)
    → HasCommit seats floor ticket → (some : GivesSome o g seats popped floor image)
    → HasTicket (λ (c : CommitValue). c.ticket) (up_to (o.given.last + some.count) some.commits) ticket
keeps_commit o g seats popped floor image ticket has some =
    let all = some.all.all in
    let c = has.commit in
    let number : ℕ = o.given.last + some.count in
    let low : c.ticket.«record» ≤ number = omega (arith, has.low, some.least) in
    let of_seat : IsIn c (made_by has.seat all.commits) = subst (λ cs. IsIn c cs) (all.in_sessions has.seat has.session has.here) has.among in
    let of_all : IsIn c some.commits = subst (λ cs. IsIn c cs) (sym some.all.by_number) (made_in has.seat c all.commits of_seat) in
    let is = in_filter (λ (d : CommitValue). nat_le d.ticket.«record» number) c some.commits (le-leb _ _ low) of_all in
    record { before = is.before; one = c; after = is.after; there = is.there; is = has.is }

-- ---- all writers

all_middle : {X : Type 0} (P : X → Type 0) (before : List X) (x : X) (after : List X) → AllByRecursion P (before ++ x ∷ after) → P x
all_middle P [] x after all = all.0
all_middle P (y ∷ ys) x after all = all_middle P ys x after all.1

all_append : {X : Type 0} (P : X → Type 0) (xs ys : List X) → AllByRecursion P xs → AllByRecursion P ys → AllByRecursion P (xs ++ ys)
all_append P [] ys first second = second
all_append P (x ∷ xs) ys first second = (first.0, all_append P xs ys first.1 second)

all_first : {X : Type 0} (P : X → Type 0) (xs ys : List X) → AllByRecursion P (xs ++ ys) → AllByRecursion P xs
all_first P [] ys all = tt
all_first P (x ∷ xs) ys all = (all.0, all_first P xs ys all.1)

all_rest : {X : Type 0} (P : X → Type 0) (xs ys : List X) → AllByRecursion P (xs ++ ys) → AllByRecursion P ys
all_rest P [] ys all = all
all_rest P (x ∷ xs) ys all = all_rest P xs ys all.1

pub all_of_flat : {W X : Type 0} (P : X → Type 0) (f : W → List X) (ws : List W) → ((k : ℕ) (w : W) → slice_get ws k ≡ Some w → AllByRecursion P (f w))
    → AllByRecursion P (flat_map f ws)
all_of_flat P f [] each = tt
all_of_flat P f (w ∷ ws) each = all_append P (f w) (flat_map f ws) (each zero w refl) (all_of_flat P f ws (λ k v at. each (suc k) v at))

pub all_in_flat : {W X : Type 0} (P : X → Type 0) (f : W → List X) (ws : List W) → AllByRecursion P (flat_map f ws) → (k : ℕ) (w : W) → slice_get ws k ≡ Some w
    → AllByRecursion P (f w)
all_in_flat P f [] all k w at = absurd cc
all_in_flat P f (v ∷ ws) all zero w at =
    let same : v ≡ w = cc in
    subst (λ x. AllByRecursion P (f x)) same (all_first P (f v) (flat_map f ws) all)
all_in_flat P f (v ∷ ws) all (suc k) w at = all_in_flat P f ws (all_rest P (f v) (flat_map f ws) all) k w at

-- the record of a ticket that was acknowledged
low_ticket : (floor : ℕ) (acks : List AckValue) (ticket : Ticket) → AllByRecursion (λ a. a.ticket.«record» ≤ floor) acks → HasTicket (λ a. a.ticket) acks ticket
    → ticket.«record» ≤ floor
low_ticket floor acks ticket low has =
    subst (λ (t : Ticket). t.«record» ≤ floor) has.is
    (all_middle (λ (a : AckValue). a.ticket.«record» ≤ floor) has.before has.one has.after
    (subst (λ (list : List AckValue). AllByRecursion (λ a. a.ticket.«record» ≤ floor) list) has.there low))

module _ {W : Type 0} (seat : W → SeatValue) (acks : W → List AckValue) (told : W → List Acknowledged) (floor : ℕ) (writers : List W) (last : SeatValue) where
  abbrev all_seats : List SeatValue
  all_seats = map seat writers ++ last ∷ []

  commits_of_one : AllByRecursion (λ a. a.ticket.«record» ≤ floor) (flat_map acks writers) → AllTell seat acks told writers → (k : ℕ) (w : W)
      → slice_get writers k ≡ Some w → AllByRecursion (λ made. HasCommit all_seats floor (told_ticket made)) (told w)
  commits_of_one low tell k w at =
      let here : slice_get (sessions_of all_seats) k ≡ Some (seat w).session =
      in_mapped (λ (s : SeatValue). s.session) all_seats k (seat w) (get_first (map seat writers) last (seat w) k (in_mapped seat writers k w at)) in
      recursion_from_All (λ (made : Acknowledged). HasCommit all_seats floor (told_ticket made)) (told w)
      (All-weaker (λ (made : Acknowledged). HasMade (seat w) (told_ticket made) × HasTicket (λ (a : AckValue). a.ticket) (acks w) (told_ticket made))
      (λ (made : Acknowledged). HasCommit all_seats floor (told_ticket made))
      (λ made has.
      let reached = low_ticket floor (acks w) (told_ticket made) (all_in_flat (λ (a : AckValue). a.ticket.«record» ≤ floor) acks writers low k w at) has.1 in
      record {
        seat = k;
        session = (seat w).session;
        here = here;
        commit = has.0.one;
        among = record { before = has.0.before; after = has.0.after; there = has.0.there };
        is = has.0.is;
        low = subst (λ (t : Ticket). t.«record» ≤ floor) (sym has.0.is) reached;
      })
      (told w) (tell k w at))

  all_commits : AllByRecursion (λ a. a.ticket.«record» ≤ floor) (flat_map acks writers) → AllTell seat acks told writers
      → AllByRecursion (λ made. HasCommit all_seats floor (told_ticket made)) (flat_map told writers)
  all_commits low tell = all_of_flat (λ (made : Acknowledged). HasCommit all_seats floor (told_ticket made)) told writers (commits_of_one low tell)

-- what each writer was told is kept
pub all_kept : {W : Type 0} (seat : W → SeatValue) (acks : W → List AckValue) (told : W → List Acknowledged) (writers : List W) (last : SeatValue)
    (seats : List SeatValue) (all_acks : List AckValue) (all_told : List Acknowledged)
    → seats ≡ map seat writers ++ last ∷ [] → all_acks ≡ flat_map acks writers → all_told ≡ flat_map told writers
    → (o : Opened) (g : GeometryValue) (popped : List RecordValue) (floor : ℕ) (image : CrashState)
    → All (λ a. a.ticket.«record» ≤ floor) all_acks → AllTell seat acks told writers → ∥ GivesSome o g seats popped floor image ∥₁
    → ∥ KeepsTold o image all_told ∥₁
all_kept seat acks told writers last seats all_acks all_told seats_are acks_are told_are o g popped floor image low tell some =
    let lows = recursion_from_All (λ (a : AckValue). a.ticket.«record» ≤ floor) (flat_map acks writers)
    (subst (λ (list : List AckValue). All (λ a. a.ticket.«record» ≤ floor) list) acks_are low) in
    let have = subst (λ (ss : List SeatValue). AllByRecursion (λ (made : Acknowledged). HasCommit ss floor (told_ticket made)) (flat_map told writers))
    (sym seats_are) (all_commits seat acks told floor writers last lows tell) in
    let each = All-from_recursion (λ (made : Acknowledged). HasCommit seats floor (told_ticket made)) all_told
    (subst (λ (ts : List Acknowledged). AllByRecursion (λ (made : Acknowledged). HasCommit seats floor (told_ticket made)) ts) (sym told_are) have) in
    ∥∥₁_map some (λ (gives : GivesSome o g seats popped floor image). record {
      leaves = leaves_of o g seats popped floor image gives;
      each = All-weaker (λ (made : Acknowledged). HasCommit seats floor (told_ticket made))
          (λ (made : Acknowledged). HasTicket (λ (c : CommitValue). c.ticket) (up_to (o.given.last + gives.count) gives.commits) (told_ticket made))
          (λ made has. keeps_commit o g seats popped floor image (told_ticket made) has gives)
          all_told each;
    })

-- The commits of seats, by number, are one list; a core has them all.
use Rattle.std.proofs.Common.{◌≡◌, ℕ, ◌+◌, ◌≤◌, ◌<◌, Bool, true, false, cond, eqb, eq-eqb, List, [], ◌∷◌, length, map, Some, refl, subst, sym, ap, ◌∙◌, arith}
use Rattle.std.proofs.lemmas.Bool.{eqb-true, le-leb}
use Rattle.std.proofs.lemmas.List.{length-map}
use Rattle.core_model.specs.Histories.{Opened}
use Rattle.core_parts.specs.View.{CoreValue}
use Rattle.records.specs.RecordValue.{RecordValue}
use Rattle.nsf.specs.Seats.{SeatValue}
use Rattle.threads_register.specs.History.{AreRisingTo}
use Rattle.threads_register.specs.Register.{AreBySeats, AreNumbered, Commits, made_by}
use Rattle.threads_sessions.specs.Values.{CommitValue}
use Rattle.nsf.specs.Closing.{IsCoreOf, up_to}
use Rattle.nsf.specs.Gathered.{AreCommitsOf, sessions_of}
use Rattle.nsf.proofs.SeatOrders.{some_at}

some_is : (a b : ℕ) → Some a ≡ Some b → a ≡ b
some_is a b e = cc

first_is : {X : Type 0} (x y : X) (xs ys : List X) → x ∷ xs ≡ y ∷ ys → x ≡ y
first_is x y xs ys e = cc

rest_is : {X : Type 0} (x y : X) (xs ys : List X) → x ∷ xs ≡ y ∷ ys → xs ≡ ys
rest_is x y xs ys e = cc

no_first : {X : Type 0} (x : X) (xs : List X) → [] ≡ x ∷ xs → ⊥
no_first x xs e = cc

-- the first one's seat has made it
own_first : (c : ℕ × CommitValue) (commits : Commits) → made_by c.0 (c ∷ commits) ≡ c.1 ∷ made_by c.0 commits
own_first c commits = ap (λ (b : Bool). cond b (c.1 ∷ made_by c.0 commits) (made_by c.0 commits)) (eq-eqb c.0 c.0 refl)

-- what a seat made has no lower numbers
above : (n k : ℕ) (commits : Commits) (c : CommitValue) (rest : List CommitValue) (number : ℕ) → AreNumbered n commits → made_by k commits ≡ c ∷ rest
    → c.ticket.commit ≡ Some number → n ≤ number
above n k [] c rest number h e is = absurd (no_first c rest e)
above n k (x ∷ xs) c rest number h e is = by (eqb k x.0) e (λ later. above (n + 1) k xs c rest number h.1 later is)
  where
    by : (b : Bool) → cond b (x.1 ∷ made_by k xs) (made_by k xs) ≡ c ∷ rest → (made_by k xs ≡ c ∷ rest → n + 1 ≤ number) → n ≤ number
    by true e later =
        let same : n ≡ number = some_is n number (sym h.0 ∙ (ap (λ (y : CommitValue). y.ticket.commit) (first_is x.1 c (made_by k xs) rest e) ∙ is)) in
        omega (arith, same)
    by false e later = let r = later e in omega (arith, r)

-- two lists with these numbers are one, where each seat made the same of both
one_list : (seats n : ℕ) (commits others : Commits) → AreNumbered n commits → AreNumbered n others → AreBySeats seats commits → AreBySeats seats others
    → ((k : ℕ) → k < seats → made_by k commits ≡ made_by k others) → commits ≡ others
one_list seats n [] [] h g b d same = refl
one_list seats n [] (y ∷ ys) h g b d same = absurd (no_first y.1 (made_by y.0 ys) (same y.0 d.0 ∙ own_first y ys))
one_list seats n (x ∷ xs) [] h g b d same = absurd (no_first x.1 (made_by x.0 xs) (sym (same x.0 b.0) ∙ own_first x xs))
one_list seats n (x ∷ xs) (y ∷ ys) h g b d same =
    let first = heads (eqb x.0 y.0) (eqb-true x.0 y.0) (sym (own_first x xs) ∙ same x.0 b.0) in
    let rest : xs ≡ ys = one_list seats (n + 1) xs ys h.1 g.1 b.1 d.1 (λ k within.
    tails k (eqb k x.0) (same k within ∙ ap (λ (m : ℕ). cond (eqb k m) (y.1 ∷ made_by k ys) (made_by k ys)) (sym first.0))) in
    λ i. (first.0 i, first.1 i) ∷ rest i
  where
    heads : (t : Bool) → (t ≡ true → x.0 ≡ y.0) → x.1 ∷ made_by x.0 xs ≡ cond t (y.1 ∷ made_by x.0 ys) (made_by x.0 ys) → (x.0 ≡ y.0) × (x.1 ≡ y.1)
    heads true seat is = (seat refl, first_is x.1 y.1 (made_by x.0 xs) (made_by x.0 ys) is)
    heads false seat is = let r = above (n + 1) x.0 ys x.1 (made_by x.0 xs) n g.1 (sym is) h.0 in absurd (omega (arith, r))

    tails : (k : ℕ) (t : Bool) → cond t (x.1 ∷ made_by k xs) (made_by k xs) ≡ cond t (y.1 ∷ made_by k ys) (made_by k ys)
        → made_by k xs ≡ made_by k ys
    tails k true is = rest_is x.1 y.1 (made_by k xs) (made_by k ys) is
    tails k false is = is

pub one_commits : (seats : List SeatValue) (commits others : List CommitValue) → AreCommitsOf seats commits → AreCommitsOf seats others → commits ≡ others
one_commits seats commits others are too =
    are.by_number ∙ (ap (λ (l : Commits). map (λ (c : ℕ × CommitValue). c.1) l) same ∙ sym too.by_number)
  where
    same : are.all.commits ≡ too.all.commits
    same =
        one_list (length (sessions_of seats)) 1 are.all.commits too.all.commits are.all.numbered too.all.numbered are.all.by_seats too.all.by_seats
        (λ k within.
        let there = some_at (sessions_of seats) k within in
        sym (are.all.in_sessions k there.0 there.1) ∙ too.all.in_sessions k there.0 there.1)

-- the commits, without the seats that made them
abbrev commits_in : Commits → List CommitValue
commits_in commits = map (λ (c : ℕ × CommitValue). c.1) commits

rising_within : (from to : ℕ) (commits : Commits) → AreRisingTo from to commits → from ≤ to
rising_within from to [] h = h
rising_within from to (c ∷ cs) h = let r = rising_within c.1.ticket.«record» to cs h.1 in omega (arith, r, h.0)

rising_up_to : (from to : ℕ) (commits : Commits) → AreRisingTo from to commits → up_to to (commits_in commits) ≡ commits_in commits
rising_up_to from to [] h = refl
rising_up_to from to (c ∷ cs) h =
    ap (λ b. cond b (c.1 ∷ up_to to (commits_in cs)) (up_to to (commits_in cs))) (le-leb c.1.ticket.«record» to (rising_within c.1.ticket.«record» to cs h.1))
    ∙ ap (λ (l : List CommitValue). c.1 ∷ l) (rising_up_to c.1.ticket.«record» to cs h.1)

-- the records of all commits are among those of the core
pub core_has_all : (o : Opened) (seats : List SeatValue) (popped : List RecordValue) (core : CoreValue) (commits : List CommitValue)
    → AreCommitsOf seats commits
    → IsCoreOf o seats popped core commits → up_to core.last commits ≡ commits
core_has_all o seats popped core commits are is =
    let all = is.shared.register.commits in
    let its : AreCommitsOf seats (commits_in all.commits) = record {
      all = record {
        commits = all.commits;
        numbered = all.numbered;
        counted = length-map all.commits (λ (c : ℕ × CommitValue). c.1);
        by_seats = all.by_seats;
        in_sessions = all.in_sessions;
      };
      by_number = refl;
    } in
    subst (λ (cs : List CommitValue). up_to core.last cs ≡ cs) (one_commits seats (commits_in all.commits) commits its are)
    (rising_up_to o.given.last core.last all.commits is.shared.register.history.rising)

-- What a store is found with that clients used, until it stopped.
use Rattle.std.proofs.Common.{zero, suc, ◌∷◌}
use Rattle.std.proofs.Common.{◌≡◌, ◌≢◌, ⊎_elim, inl, inr, ℕ, ◌+◌, ◌≤◌, ◌<◌, ◌++◌, Bool, true, false, List, [], length, take, refl, sym, ap, subst, ◌∙◌}
use Rattle.std.proofs.Common.{arith, cond, map, Result, Ok, Err, IfErr, OnOk, Option, None, Some, IfSome, length-take}
use Rattle.std.specs.Prelude.{nat_lt, option_and_then, slice_get, slice_index_or}
use mathlib.Core.Logic.{dite}
use native.Mathlib.Decide.{ℕ_discrete}
use Rattle.std.proofs.Math.Logic.{∥∥₁_elim, ∥∥₁_map, ∥∥₁_prop}
use Rattle.std.proofs.lemmas.Bool.{cases_lt, ltb-true}
use Rattle.std.specs.Coded.{le_prop}
use Rattle.record_values.specs.GeometryValue.{GeometryValue}
use Rattle.records.specs.RecordValue.{RecordValue}
use Rattle.record_values.specs.declared.error.Error.{Error}
use Rattle.record_values.specs.declared.error.Error.TheVariants.{TooManyTxns}
use Rattle.model.specs.Given.{Given, given_after}
use Rattle.core_model.specs.Histories.{CanOpen, Opened}
use Rattle.core_model.proofs.ReplyLaws.{served_recovers}
use Rattle.core_parts.specs.View.{CoreValue}
use Rattle.sector_device.specs.Disk.{CrashState, IsCrashState, Disk}
use Rattle.sector_device.specs.DevicePast.{DevicePast, LeavesOnly}
use Rattle.sector_device.proofs.Moments.{content_at_end}
use Rattle.sector_device.proofs.Sectors.{content_is_image}
use Rattle.store_reader.specs.Contents.{Gives}
use Rattle.nsf.specs.Seats.{SeatValue}
use Rattle.nsf.specs.Part.{IsKeptSince, IsSafeSince, Publication}
use Rattle.std.proofs.lemmas.List.Elements.{All-contains}
use Rattle.std.proofs.lemmas.Option.{get_or_from_slice_get, slice_get_within}
use Rattle.threads_sessions.specs.Values.{CommitValue}
use Rattle.nsf.specs.Closing.{GivesAll, GivesSome, IsCoreOf, table_with, up_to}
use Rattle.nsf.specs.Gathered.{AreCommitsOf}
use Rattle.nsf.specs.Openings.{IsNotShared, Opens}
use Rattle.nsf.specs.Serving.{IsNotServed}
use Rattle.nsf.specs.OpenErrors.{OpenError}
use Rattle.nsf.specs.OpenErrors.TheVariants.{NoThread, Refused, Unsound}
use Rattle.nsf.specs.Serving.{HadEnded, HoldsAll, WhyUnwritten, LeavesWork, TellsBuild}
use Rattle.restart.specs.declared.parts.EngineParts.{EngineParts}
use Rattle.restart.specs.Building.{BuildsWhole, HasCome}
use Rattle.restart.specs.Parts.{core_of}
use Rattle.restart.specs.Reopening.{IsNotOpened, IsTurned}
use Rattle.restart.specs.Store.{over}
use Rattle.headline.specs.declared.day.Day.{Day}
use Rattle.headline.specs.declared.shared_day.End.{End}
use Rattle.headline.specs.declared.shared_day.End.TheVariants.{Behind, Closing, Opening, Since}
use Rattle.headline.specs.declared.shared_day.SharedAnswer.{SharedAnswer}
use Rattle.headline.specs.declared.shared_day.SharedDay.{SharedDay}
use Rattle.headline.specs.AtRest.{AtRest, resting}
use Rattle.headline.specs.Beside.{HasLivedBeside, IsNotLivedBeside, known_safe}
use Rattle.headline.specs.Days.{Answer, IsUnopened}
use Rattle.headline.specs.Held.{HasLived, IsNotBuilt, IsNotReopened, IsUnbuilt}
use Rattle.headline.specs.Kept.{EndsBuild, FindsShared, GivesDays, IsBegun, KeepsDays}
use Rattle.headline.specs.Stops.{StopsAt, mark_read}
use Rattle.headline.proofs.Commits.{core_has_all, one_commits}
use Rattle.headline.proofs.Holding.{behind, not_reopened, unbuilt}
use Rattle.headline.proofs.Stopped.{GivesBack, Images, between, now_gives, why_unopened}

-- what the clients left of one opening they left of another that is the same, and the device was marked as they had ended
pub worked_over : {C D : Type 0} (past_of : D → DevicePast) (works : C → C → SeatValue → SeatValue → Type 0) (marks : ℕ → ℕ → Type 0) (mark : ℕ)
    (clients after : List C) (opened device : D) (written : Result Unit Error) (shown : D → Type 0) (read : List ℕ) (x y : Opened) → x ≡ y
    → (work : LeavesWork past_of marks works x clients after opened device written)
    → (ended : HadEnded past_of shown x work.leaves.geometry work.seats work.leaves.popped work.floor opened device)
    → marks mark (past_of ended.was).moment → read ≡ map (λ (s : SeatValue). s.sight.mark) work.seats
    → (work : LeavesWork past_of marks works y clients after opened device written)
    × (ended : HadEnded past_of shown y work.leaves.geometry work.seats work.leaves.popped work.floor opened device)
    × marks mark (past_of ended.was).moment × (read ≡ map (λ (s : SeatValue). s.sight.mark) work.seats)
worked_over past_of works marks mark clients after opened device written shown read x y same work ended marked are =
    subst (λ (o : Opened). (work : LeavesWork past_of marks works o clients after opened device written)
    × (ended : HadEnded past_of shown o work.leaves.geometry work.seats work.leaves.popped work.floor opened device)
    × marks mark (past_of ended.was).moment × (read ≡ map (λ (s : SeatValue). s.sight.mark) work.seats)) same (work, ended, marked, are)

-- ---- what a client has read

at_mark : {X : Type 0} (f : X → ℕ) (xs : List X) (k : ℕ) → slice_index_or (map f xs) k 0 ≢ 0
    → (x : X) × (slice_get xs k ≡ Some x) × (f x ≡ slice_index_or (map f xs) k 0)
at_mark f [] k not = absurd (not refl)
at_mark f (x ∷ xs) zero not = (x, refl, refl)
at_mark f (x ∷ xs) (suc k) not = at_mark f xs k not

mark_at : {X : Type 0} (f : X → ℕ) (xs : List X) (k : ℕ) (x : X) → slice_get xs k ≡ Some x → slice_index_or (map f xs) k 0 ≡ f x
mark_at f [] k x at = absurd cc
mark_at f (y ∷ xs) zero x at = ap f cc
mark_at f (y ∷ xs) (suc k) x at = mark_at f xs k x at

some_is : {X : Type 0} (a b : X) → Some a ≡ Some b → a ≡ b
some_is a b e = cc

-- what is known to be safe since a client had read a mark
since_read : (P : ℕ → Type 0) (seats : List SeatValue) (k horizon : ℕ)
    → ((s : SeatValue) → slice_get seats k ≡ Some s → s.sight.mark ≢ 0 → P s.sight.safe) → IfSome (known_safe (Since k) seats horizon) P
since_read P seats k horizon = by (slice_get seats k)
  where
    by_mark : (s : SeatValue) (b : Bool) → (b ≡ true → 0 < s.sight.mark) → (s.sight.mark ≢ 0 → P s.sight.safe)
        → IfSome (cond b (Some s.sight.safe) None) P
    by_mark s true less safe = let some = less refl in safe (λ none. omega (arith, none, some))
    by_mark s false less safe = tt

    by : (o : Option SeatValue) → ((s : SeatValue) → o ≡ Some s → s.sight.mark ≢ 0 → P s.sight.safe)
        → IfSome (option_and_then (λ (s : SeatValue). cond (nat_lt 0 s.sight.mark) (Some s.sight.safe) None) o) P
    by None read = tt
    by (Some s) read = by_mark s (nat_lt 0 s.sight.mark) (ltb-true 0 s.sight.mark) (read s refl)

-- nothing is
none_known : (o : Option ℕ) → IfSome o (λ number. ⊥) → o ≡ None
none_known None nothing = refl
none_known (Some number) nothing = absurd nothing

on_ok : {T E : Type 0} (P Q : Type 0) (r : Result T E) → (P → Q) → OnOk r P → OnOk r Q
on_ok P Q (Ok x) more is = more is
on_ok P Q (Err e) more is = tt

module _ {D M : Type 0} (past_of : D → DevicePast) (failures : D → ℕ) (g : GeometryValue) (began : AtRest)
    (days : List (Day M)) (answers : List (Answer M)) (before : D) (keeps : KeepsDays past_of failures g began days answers before)
    (images : Images) where
  -- what it opens with
  pub opens_so : (x : Opened) → Opens (past_of before).disk.content x → x ≡ over g (now_gives past_of failures g began days answers before keeps).given
  opens_so x opens =
      let now = now_gives past_of failures g began days answers before keeps in
      let content = (past_of before).disk.content in
      opens.opened
      ∙ ap (λ (h : GeometryValue). over h opens.given) (images.geometry content opens.geometry g opens.given now.given opens.gives now.gives)
      ∙ ap (over g) (images.given content opens.geometry g opens.given now.given opens.gives now.gives)

module _ {D M C : Type 0} (past_of : D → DevicePast) (failures : D → ℕ) (works : C → C → SeatValue → SeatValue → Type 0) (g : GeometryValue) (began : AtRest)
    (days : List (Day M)) (answers : List (Answer M)) (before : D) (keeps : KeepsDays past_of failures g began days answers before)
    (images : Images) (back : GivesBack) where
  abbrev first : Given
  first = (now_gives past_of failures g began days answers before keeps).given

  abbrev o : Opened
  o = over g first

  -- the seat has read a mark of this moment, since which all is kept up to the horizon that it had seen
  pub record ReadsAt (h : GeometryValue) (seats : List SeatValue) (popped : List RecordValue) (opened after : D) (moment : ℕ) (s : SeatValue) : Type 0 where
    published : Publication
    is : published.moment ≡ moment
    behind : (past_of opened).moment ≤ published.moment
    reaches : s.sight.safe ≤ published.horizon
    kept : IsKeptSince (λ floor image. ∥ GivesSome o h seats popped floor image ∥₁) (past_of after) published

  -- the moment of the mark that the day's client has read, or that of the opening, where it has read none
  pub read_at : (end : End) (marks : ℕ → ℕ → Type 0) (clients others : List C) (opened after : D) (written : Result Unit Error)
      (work : LeavesWork past_of marks works o clients others opened after written) (read : List ℕ) (opening mark : ℕ)
      → read ≡ map (λ (s : SeatValue). s.sight.mark) work.seats → (mark_read end read ≡ 0 → mark ≡ opening)
      → (mark_read end read ≢ 0 → mark ≡ mark_read end read)
      → marks opening (past_of before).moment → (past_of before).moment ≤ (past_of opened).moment
      → (moment : ℕ) × marks mark moment × ((past_of before).moment ≤ moment) × (moment ≤ (past_of after).moment)
      × ((k : ℕ) (s : SeatValue) → end ≡ Since k → slice_get work.seats k ≡ Some s → s.sight.mark ≢ 0
      → ReadsAt work.leaves.geometry work.seats work.leaves.popped opened after moment s)
  read_at Behind marks clients others opened after written work read opening mark are none one marked low =
      let m = (past_of before).moment in
      (m, subst (λ (n : ℕ). marks n m) (sym (none refl)) marked, omega arith, omega (arith, low, work.since.later), λ k s same at not. absurd cc)
  read_at Closing marks clients others opened after written work read opening mark are none one marked low =
      let m = (past_of before).moment in
      (m, subst (λ (n : ℕ). marks n m) (sym (none refl)) marked, omega arith, omega (arith, low, work.since.later), λ k s same at not. absurd cc)
  read_at Opening marks clients others opened after written work read opening mark are none one marked low =
      let m = (past_of before).moment in
      (m, subst (λ (n : ℕ). marks n m) (sym (none refl)) marked, omega arith, omega (arith, low, work.since.later), λ k s same at not. absurd cc)
  read_at (Since k) marks clients others opened after written work read opening mark are none one marked low =
      let m = (past_of before).moment in
      let f : SeatValue → ℕ = λ s. s.sight.mark in
      let so : slice_index_or read k 0 ≡ slice_index_or (map f work.seats) k 0 = ap (λ (l : List ℕ). slice_index_or l k 0) are in
      dite (ℕ_discrete (slice_index_or read k 0) 0)
      (λ no. (
        m,
        subst (λ (n : ℕ). marks n m) (sym (none no)) marked,
        omega arith,
        omega (arith, low, work.since.later),
        λ j s same at not.
            let here : k ≡ j = cc in
            absurd (not (sym (mark_at f work.seats j s at) ∙ (ap (λ (i : ℕ). slice_index_or (map f work.seats) i 0) (sym here) ∙ (sym so ∙ no)))),
      ))
      (λ some.
      let at = at_mark f work.seats k (λ no. some (so ∙ no)) in
      let s = at.0 in
      let mark_is : mark ≡ s.sight.mark = one some ∙ (so ∙ sym at.2) in
      let not : s.sight.mark ≢ 0 = λ no. some (so ∙ (sym at.2 ∙ no)) in
      let known = subst (λ (z : SeatValue). IsSafeSince marks work.publications z.sight.safe z.sight.mark) (get_or_from_slice_get work.seats k s s at.1)
      (work.marked k s (slice_get_within work.seats k s at.1)) in
      ⊎_elim (λ both. absurd (not both.1))
      (λ published.
      let p : Publication = published.0 in
      let Kept : Publication → Type 0 =
      IsKeptSince (λ floor image. ∥ GivesSome o work.leaves.geometry work.seats work.leaves.popped floor image ∥₁) (past_of after) in
      let kept : Kept p = All-contains Kept work.publications p work.leaves.published published.1 in
      let behind : (past_of opened).moment ≤ p.moment =
      All-contains (λ (q : Publication). (past_of opened).moment ≤ q.moment) work.publications p work.behind published.1 in (
        p.moment,
        subst (λ (n : ℕ). marks n p.moment) (sym mark_is) (published.3 not),
        omega (arith, low, behind),
        kept.later,
        λ j z same there nonzero.
            let here : k ≡ j = cc in
            let is-s : z ≡ s = some_is z s (sym there ∙ (ap (slice_get work.seats) (sym here) ∙ at.1)) in
            record {
              published = p;
              is = refl;
              behind = behind;
              reaches = subst (λ (y : SeatValue). y.sight.safe ≤ p.horizon) (sym is-s) published.2;
              kept = kept;
            },
      ))
      known)

  module _ (day : SharedDay C) (answer : SharedAnswer C) (opened after found : D) (turned : IsTurned past_of before opened)
      (marks : ℕ → ℕ → Type 0) (work : LeavesWork past_of marks works o day.clients.items answer.clients.items opened after answer.written)
      (built : TellsBuild o answer.built)
      (rises : failures before ≤ failures after) (why : IfErr answer.written (WhyUnwritten (failures before) (failures after)))
      (quiet : OnOk answer.written (failures after ≡ failures before))
      (count : failures found ≡ failures after) (shown : D → Type 0)
      (ended : HadEnded past_of shown o work.leaves.geometry work.seats work.leaves.popped work.floor opened after)
      (last-read : ℕ) (reads : (k : ℕ) (s : SeatValue) → day.end ≡ Since k → slice_get work.seats k ≡ Some s → s.sight.mark ≢ 0
      → ReadsAt work.leaves.geometry work.seats work.leaves.popped opened after last-read s)
      (stops : StopsAt day.end (past_of before).moment (past_of ended.was).moment last-read (past_of after) (past_of found)) where
    abbrev t : ℕ
    t = stops.stop.moment

    abbrev image : CrashState
    image = (past_of found).disk.content

    crash : IsCrashState ((past_of after).disk_at t) image
    crash = stops.stop.found-as.left image (content_is_image (past_of found).disk (past_of found).whole)

    opening : LeavesOnly (past_of before) (past_of opened) (GivesDays failures g began days answers (failures before))
    opening = between past_of failures g began days answers before keeps back opened turned

    why_now : IfErr answer.written (WhyUnwritten (failures before) (failures found))
    why_now = subst (λ (n : ℕ). IfErr answer.written (WhyUnwritten (failures before) n)) (sym count) why

    quiet_now : OnOk answer.written (failures found ≡ failures before)
    quiet_now = subst (λ (n : ℕ). OnOk answer.written (n ≡ failures before)) (sym count) quiet

    later_now : failures before ≤ failures found
    later_now = omega (arith, rises, count)

    -- ---- it stopped within the opening

    early : t < (past_of opened).moment → FindsShared works failures g began days answers day answer (failures found) image
    early less = record {
      store = resting gave.given (failures found);
      lived = record {
        before = resting gave.given (failures before);
        days-are = gave.days-are;
        seats = work.seats;
        horizon = work.floor;
        worked = work.worked;
        served = inr (none_known (known_safe day.end work.seats work.floor) (none day.end refl), refl);
        later = later_now;
        why = why_now;
        quiet = quiet_now;
      };
      given = gave.given;
      gives = gave.gives;
      rests = refl;
      opens = gave.opens;
    }
      where
        gave : GivesDays failures g began days answers (failures before) image
        gave =
            opening.each t image stops.stop.from (omega (arith, less))
            (subst (λ (d : Disk). IsCrashState d image) (work.since.kept t (omega (arith, less))) crash)

        none : (end : End) → day.end ≡ end → IfSome (known_safe end work.seats work.floor) (λ number. ⊥)
        none Behind is = omega (arith, less, stops.at-end is, work.since.later)
        none Closing is = omega (arith, less, stops.closing is, ended.before.later)
        none (Since k) is = since_read (λ number. ⊥) work.seats k work.floor (λ s at not.
            let read = reads k s is at not in
            omega (arith, less, stops.since k is, read.is, read.behind))
        none Opening is = tt

    -- ---- it stopped since

    abbrev h : GeometryValue
    h = work.leaves.geometry

    abbrev Some-of : GeometryValue → ℕ → CrashState → Type 0
    Some-of x floor i = ∥ GivesSome o x work.seats work.leaves.popped floor i ∥₁

    -- the store is as large as it was opened
    same_size : ∥ h ≡ g ∥₁
    same_size =
        let disk = (past_of opened).disk in
        let content = disk.content in
        let there : IsCrashState ((past_of after).disk_at (past_of opened).moment) content =
        subst (λ (d : Disk). IsCrashState d content) (sym (work.since.kept (past_of opened).moment (omega arith) ∙ (past_of opened).now))
        (content_is_image disk (past_of opened).whole) in
        let gave = content_at_end (past_of before) (past_of opened) (GivesDays failures g began days answers (failures before)) opening in
        ∥∥₁_map (work.since.each (past_of opened).moment content (omega arith) work.since.later there)
        (λ (some : GivesSome o h work.seats work.leaves.popped first.last content). images.geometry content h g _ gave.given some.gives gave.gives)

    record AllKept : Type 0 where
      commits : List CommitValue
      of-seats : AreCommitsOf work.seats commits
      given : Given
      gives : Gives image h given
      table : given.table ≡ table_with first.table commits
      core : CoreValue
      left : ∥ IsCoreOf o work.seats work.leaves.popped core commits ∥₁
      has-all : up_to core.last commits ≡ commits
      life : given.life ≡ core.life
      last : given.last ≡ core.last

    -- with all commits, where it stopped behind all that was done and all was written
    abbrev All-written : Type 0
    All-written = HoldsAll o h work.seats work.leaves.popped (past_of after).disk

    all_kept : (end : End) → (end ≡ Behind → t ≡ (past_of after).moment) → (written : Result Unit Error)
        → OnOk written ∥ All-written ∥₁ → ∥ (end ≡ Behind → OnOk written AllKept) ∥₁
    all_kept end at (Err e) all = ∣ (λ behind. tt) ∣₁
    all_kept Closing at (Ok u) all = ∣ (λ behind. absurd cc) ∣₁
    all_kept (Since k) at (Ok u) all = ∣ (λ behind. absurd cc) ∣₁
    all_kept Opening at (Ok u) all = ∣ (λ behind. absurd cc) ∣₁
    all_kept Behind at (Ok u) all =
        let last : IsCrashState (past_of after).disk image =
        subst (λ (d : Disk). IsCrashState d image) (ap (past_of after).disk_at (at refl) ∙ (past_of after).now) crash in
        ∥∥₁_map all (λ (is : All-written).
        let left : GivesAll o h is.core is.commits image = is.gives image last in
        (λ behind. record {
          commits = is.commits;
          of-seats = is.of_seats;
          given = left.given;
          gives = left.gives;
          table = left.table;
          core = is.core;
          left = ∣ is.left ∣₁;
          has-all = core_has_all o work.seats work.leaves.popped is.core is.commits is.of_seats is.left;
          life = left.life;
          last = left.last;
        }))

    module _ (since : (past_of opened).moment ≤ t) (size : h ≡ g) (kept : day.end ≡ Behind → OnOk answer.written AllKept)
        (some : GivesSome o g work.seats work.leaves.popped first.last image) where
      abbrev records : List RecordValue
      records = some.pushed ++ some.core.outbox

      abbrev last-given : Given
      last-given = given_after first (take some.count records)

      can : CanOpen (over g last-given)
      can =
          let so = some.shared.register.kept.replied in
          (served_recovers o some.shared.opens records some.shared.register.kept.calls so.state so.standing so.served some.count some.most).1

      last : last-given.last ≡ first.last + some.count
      last =
          let so : last-given.last ≡ first.last + length (take some.count records) = refl in
          omega (arith, so, length-take some.count records, some.most)

      -- all up to this horizon is kept by a crash at any moment since this one
      abbrev Keeps : (moment floor : ℕ) → Type 0
      Keeps moment floor = (u : ℕ) (i : CrashState) → moment ≤ u → u ≤ (past_of after).moment → IsCrashState ((past_of after).disk_at u) i → Some-of h floor i

      reached : (moment floor : ℕ) → Keeps moment floor → moment ≤ t → floor ≤ last-given.last
      reached moment floor keeps from =
          ∥∥₁_elim (subst (λ (x : GeometryValue). Some-of x floor image) size (keeps t image from stops.stop.until crash)) le_prop
          (λ (other : GivesSome o g work.seats work.leaves.popped floor image).
          let all = other.pushed ++ other.core.outbox in
          let so : (given_after first (take other.count all)).last ≡ first.last + length (take other.count all) = refl in
          let same = ap (λ (x : Given). x.last) (images.given image g g (given_after first (take other.count all)) last-given other.gives some.gives) in
          omega (arith, so, same, length-take other.count all, other.most, other.least))

      -- so is all that is safe of a day that ends so
      safe : (end : End) → day.end ≡ end → IfSome (known_safe end work.seats work.floor) (λ number. number ≤ last-given.last)
      safe Behind is = reached (past_of ended.was).moment work.floor ended.since.each (omega (arith, stops.at-end is, ended.since.later))
      safe Closing is = reached (past_of ended.was).moment work.floor ended.since.each (stops.closing is)
      safe (Since k) is = since_read (λ number. number ≤ last-given.last) work.seats k work.floor (λ s at not.
          let read = reads k s is at not in
          let low = reached read.published.moment read.published.horizon read.kept.each (omega (arith, read.is, stops.since k is)) in
          omega (arith, low, read.reaches))
      safe Opening is = tt

      all_of : AllKept → up_to last-given.last some.commits ≡ some.commits
      all_of is =
          let same : last-given.last ≡ is.core.last = ap (λ (x : Given). x.last) (images.given image g h last-given is.given some.gives is.gives) ∙ is.last in
          subst (λ (cs : List CommitValue). up_to last-given.last cs ≡ cs) (one_commits work.seats is.commits some.commits is.of-seats some.all)
          (ap (λ (n : ℕ). up_to n is.commits) same ∙ is.has-all)

      all_left : AllKept → (left : CoreValue) × (popped : List RecordValue) × (commits : List CommitValue)
          × ∥ IsCoreOf o work.seats popped left commits ∥₁ × (last-given.life ≡ left.life) × (last-given.last ≡ left.last)
      all_left is =
          let same = images.given image g h last-given is.given some.gives is.gives in
          (is.core, work.leaves.popped, is.commits, is.left, ap (λ (x : Given). x.life) same ∙ is.life, ap (λ (x : Given). x.last) same ∙ is.last)

      late_so : FindsShared works failures g began days answers day answer (failures found) image
      late_so = record {
        store = resting last-given (failures found);
        lived = record {
          before = resting first (failures before);
          days-are = (now_gives past_of failures g began days answers before keeps).days-are;
          seats = work.seats;
          horizon = work.floor;
          worked = work.worked;
          served = inl (record {
            commits = some.commits;
            of-seats = some.all;
            rows = some.table ∙ ap (λ (n : ℕ). table_with first.table (up_to n some.commits)) (sym last);
            safe = safe day.end refl;
            whole = λ behind. on_ok _ _ answer.written all_of (kept behind);
            found = record {
              given = first;
              began = refl;
              core = some.core;
              pushed = some.pushed;
              shared = some.shared;
              count = some.count;
              most = some.most;
              kept = refl;
              all = λ behind. on_ok _ _ answer.written all_left (kept behind);
              told = built;
            };
          });
          later = later_now;
          why = why_now;
          quiet = quiet_now;
        };
        given = last-given;
        gives = some.gives;
        rests = refl;
        opens = can;
      }

    late : (past_of opened).moment ≤ t → ∥ FindsShared works failures g began days answers day answer (failures found) image ∥₁
    late since =
        ∥∥₁_elim same_size ∥∥₁_prop (λ (size : h ≡ g).
        ∥∥₁_elim (all_kept day.end stops.at-end answer.written work.leaves.all) ∥∥₁_prop (λ (kept : day.end ≡ Behind → OnOk answer.written AllKept).
        ∥∥₁_map (subst (λ (x : GeometryValue). Some-of x first.last image) size (work.since.each t image since stops.stop.until crash))
        (λ (some : GivesSome o g work.seats work.leaves.popped first.last image). late_so since size kept some)))

    pub finds : ∥ FindsShared works failures g began days answers day answer (failures found) image ∥₁
    finds = ⊎_elim (λ less. ∣ early less ∣₁) late (cases_lt t (past_of opened).moment)

-- ---- what is opened behind that

module _ {D M C : Type 0} (past_of : D → DevicePast) (failures : D → ℕ) (works : C → C → SeatValue → SeatValue → Type 0) (g : GeometryValue) (began : AtRest)
    (days : List (Day M)) (answers : List (Answer M)) (day : SharedDay C) (answer : SharedAnswer C) (found : D) (images : Images)
    (finds : ∥ FindsShared works failures g began days answers day answer (failures found) (past_of found).disk.content ∥₁) where
  abbrev Found : Type 0
  Found = FindsShared works failures g began days answers day answer (failures found) (past_of found).disk.content

  gives_on : (is : Found) → GivesDays {M = M} failures g is.store [] [] (failures found) (past_of found).disk.content
  gives_on is = record { given = is.given; gives = is.gives; days-are = sym is.rests; opens = is.opens }

  pub lived_on : (engine : EngineParts D M) → IsBegun past_of failures found engine → (build : Bool) (after : EngineParts D M) (why : Option Error)
      → (build ≡ false → after ≡ engine) → (build ≡ true → EndsBuild past_of why engine after)
      → (build ≡ true → BuildsWhole (core_of engine) (core_of after))
      → ∥ ((store : AtRest) × HasLivedBeside works failures g began days answers day answer store × HasLived {M = M} failures g store [] [] build after) ∥₁
  lived_on engine begun build after why same ends whole =
      ∥∥₁_map finds (λ (is : Found).
      (is.store, is.lived, behind past_of failures g is.store [] [] found (gives_on is) images engine begun build after why same ends whole))

  pub unbuilt_on : (engine : EngineParts D M) → IsBegun past_of failures found engine → (build : Bool) (after : EngineParts D M) (why : Option Error)
      → (build ≡ true → EndsBuild past_of why engine after) → IfSome why (λ e. build ≡ true)
      → IfSome why (λ e. HasCome (core_of engine) → IsNotBuilt e (core_of engine) (core_of after))
      → IfSome why (λ e. (build ≡ true) × ∥ ((store : AtRest) × HasLivedBeside works failures g began days answers day answer store
      × IsUnbuilt {M = M} failures g store [] [] e after) ∥₁)
  unbuilt_on engine begun build after None ends wanted refused = tt
  unbuilt_on engine begun build after (Some e) ends wanted refused = (
    wanted,
    ∥∥₁_map finds (λ (is : Found).
        (is.store, is.lived, (unbuilt past_of failures g is.store [] [] found (gives_on is) images engine begun build after (Some e) ends wanted refused).1)),
  )

  pub unopened_on : (after : D) (e : Error) → IsNotOpened past_of failures found after e
      → IsNotLivedBeside works failures g began days answers day (Some answer) (Refused e) (failures after)
  unopened_on after e not = (
    e,
    refl,
    ∥∥₁_map finds (λ (is : Found). (
      is.store,
      is.lived,
      omega (arith, ap (λ (s : AtRest). s.failed) is.rests, not.later),
      subst (λ (n : ℕ). IsUnopened e n (failures after)) (sym (ap (λ (s : AtRest). s.failed) is.rests))
          (why_unopened past_of failures g is.store [] [] found (gives_on is) images after e not),
    )),
  )

-- ---- a store that wasn't opened for the clients

module _ {D M C : Type 0} (past_of : D → DevicePast) (failures : D → ℕ) (works : C → C → SeatValue → SeatValue → Type 0) (g : GeometryValue) (began : AtRest)
    (days : List (Day M)) (answers : List (Answer M)) (day : SharedDay C) where
  pub not_lived : (shared : Option (SharedAnswer C)) (e : OpenError) (error : Error) (now : ℕ) → shared ≡ None → e ≡ Refused error
      → IsNotReopened failures g began days answers error now → IsNotLivedBeside works failures g began days answers day shared e now
  not_lived shared e error now none is why =
      subst (λ (s : Option (SharedAnswer C)). IsNotLivedBeside works failures g began days answers day s e now) (sym none) (inl (error, is, why))

  module _ (before : D) (keeps : KeepsDays past_of failures g began days answers before) (images : Images) where
    abbrev gives : GivesDays failures g began days answers (failures before) (past_of before).disk.content
    gives = now_gives past_of failures g began days answers before keeps

    sound : (x : Opened) → Opens (past_of before).disk.content x → CanOpen x
    sound x opens = subst CanOpen (sym (opens_so past_of failures g began days answers before keeps images x opens)) gives.opens

    not_shared : (count : ℕ) (after : D) (e : OpenError) → count ≤ 16 → IsNotShared past_of failures before count after e
        → IsNotLivedBeside works failures g began days answers day None e (failures after)
    not_shared count after (Refused e) few not =
        let why : IsUnopened e (failures before) (failures after) = ⊎_elim
        (λ not-opened. why_unopened past_of failures g began days answers before gives images after e not-opened)
        (λ rest. ⊎_elim (λ lacks. inl (lacks.0, lacks.1.quiet)) (λ many. absurd (omega (arith, few, many.1))) rest)
        not in
        inl (e, refl, not_reopened past_of failures g began days answers before gives images e (failures after) why)
    not_shared count after Unsound few not = absurd (not.unsound (sound not.opened not.opens))
    not_shared count after NoThread few not = absurd not

    pub not_served : (count : ℕ) (after : D) (e : OpenError) → count ≤ 16 → IsNotServed past_of failures before count after e
        → IsNotLivedBeside works failures g began days answers day None e (failures after)
    not_served count after e few (inl not) = not_shared count after e few not
    not_served count after e few (inr none) = inr (none.0, (resting gives.given (failures before), gives.days-are, none.1.quiet))

  -- no other refusal comes behind the formatting
  refused_same : (a b : Error) → Refused a ≡ Refused b → a ≡ b
  refused_same a b same = cc

  pub never : (x : Error) → ((e : Error) (before now : ℕ) → IsUnopened e before now → e ≡ x → ⊥) → (shared : Option (SharedAnswer C)) (e : OpenError) (now : ℕ)
      → IsNotLivedBeside works failures g began days answers day shared e now → e ≡ Refused x → ⊥
  never x other None e now (inl is) same = other is.0 is.2.store.failed now is.2.why (refused_same is.0 x (sym is.1 ∙ same))
  never x other None e now (inr none) same = let both : NoThread ≡ Refused x = sym none.0 ∙ same in absurd (cc)
  never x other (Some answer) e now is same =
      ∥∥₁_elim is.2 (λ (a b : ⊥). absurd a) (λ it. other is.0 it.0.failed now it.3 (refused_same is.0 x (sym is.1 ∙ same)))

pub unopened_many : (e : Error) (before now : ℕ) → IsUnopened e before now → e ≡ TooManyTxns → ⊥
unopened_many e before now (inl memory) many = let it = memory.0 in cc
unopened_many e before now (inr failed) many = let it = failed.0 in cc

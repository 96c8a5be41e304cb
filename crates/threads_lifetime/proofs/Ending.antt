-- What is left at the end.
use Rattle.std.proofs.Common.{◌≡◌, ◌+◌, ◌-◌, ◌++◌, ◌≤◌, ◌⊎◌, ℕ, Bool, List, [], length, map, None, Some, take, true, false, inl, inr, refl, sym, ap, ◌∙◌, subst}
use Rattle.std.proofs.Common.{arith, append-nil, length-append, length-take}
use Rattle.std.proofs.Math.Logic.{∥∥₁_map}
use Rattle.std.proofs.lemmas.Bool.{false≢true}
use Rattle.std.proofs.lemmas.List.{take-append-le, take-take, take_all}
use Rattle.std.proofs.lemmas.List.Elements.{All-weaker}
use Rattle.std.specs.List.{All}
use Rattle.std.specs.Prelude.{IfSome, Option, slice_get}
use Rattle.std.specs.declared.vec.Vec.{Vec}
use Rattle.record_values.specs.GeometryValue.{GeometryValue}
use Rattle.records.specs.RecordValue.{RecordValue}
use Rattle.record_values.specs.declared.error.Error.{Error}
use Rattle.record_values.specs.declared.error.Error.TheVariants.{DeviceFailed, NoMemory}
use Rattle.core_copies.specs.Shown.{IsCellsOf}
use Rattle.core_laws.proofs.Laws.{holds}
use Rattle.core_model.specs.Histories.{Opened}
use Rattle.store_image_model.specs.Run.{cells_at, end_of}
use Rattle.model.specs.Cells.{cells_after}
use Rattle.model.specs.Given.{given_after, opening_cells, recovered}
use Rattle.core_parts.specs.View.{CoreValue}
use Rattle.sector_device.proofs.Moments.{weaker}
use Rattle.sector_device.specs.Disk.{CrashState, IsCrashState}
use Rattle.sector_device.specs.DevicePast.{DevicePast, LeavesOnly, Rises}
use Rattle.store_reader.specs.Contents.{Gives}
use Rattle.threads_sessions.specs.Values.{CommitValue, SessionValue}
use Rattle.threads_sessions.specs.Halves.{HalfValue, shown}
use Rattle.threads_register.specs.History.{commits_up_to, with_commits}
use Rattle.threads_register.specs.Register.{AreAllCommits, Commits}
use Rattle.locked_core.specs.Locked.{LockedValue}
use Rattle.locked_core.specs.Made as lock
use Rattle.locked_core.specs.Names.{IsShared}
use Rattle.store_writer.specs.Parts.{device_of, halves_of, has_failed, synced_of}
use Rattle.threads_flusher.specs.Part.{FlushValue, GivesBeginning, FlushLeaves, IsFlusher, IsKeptSince, last_handed}
use Rattle.threads_flusher.proofs.Publications.{KeptBelow, all_kept_on, since_weaker}
use Rattle.shared.specs.Seats.{SeatValue}
use Rattle.threads_lifetime.proofs.Gathering.{commits_in}
use Rattle.threads_lifetime.proofs.Lists.{map_count, map_get, same_list}
use Rattle.threads_lifetime.proofs.Tables.{all_up_to, cells_alone, first_commits, rows_alone, with_all}
use Rattle.threads_lifetime.specs.Closing.{GivesAll, GivesSome, IsClosed, IsCoreOf, table_with}
use Rattle.threads_lifetime.specs.Gathered.{AreAllSeats, AreCommitsOf, AreSeen, sessions_of}
use Rattle.threads_lifetime.specs.Written.{WritesOn}

-- the book under the lock has the sessions of all seats
pub same_book : (count : ℕ) (book : List SessionValue) (seats : List SeatValue) → length book ≡ count → AreAllSeats count seats → AreSeen book seats
    → book ≡ sessions_of seats
same_book count book seats size all seen =
    same_list book (sessions_of seats) (size ∙ (sym all.counted ∙ sym (map_count (λ (s : SeatValue). s.session) seats)))
    (λ k session at.
    let its = map_get (λ (s : SeatValue). s.session) seats k session at in
    ap (slice_get book) (sym (all.each k its.0 its.1)) ∙ (seen k its.0 its.1 ∙ ap Some (sym its.2)))

-- so it is to the end
pub book_is : (count : ℕ) (first last : List SessionValue) (halves : List HalfValue) (seats : List SeatValue) → length halves ≡ count → map shown halves ≡ last
    → last ≡ first → AreAllSeats count seats → AreSeen first seats → last ≡ sessions_of seats
book_is count first last halves seats size is same all seen =
    same ∙ same_book count first seats (ap length (sym same) ∙ (ap length (sym is) ∙ (map_count shown halves ∙ size))) all seen

all_commits : (seats : List SeatValue) (count : ℕ) (all : AreAllCommits (sessions_of seats) count) (commits : List CommitValue)
    → commits ≡ commits_in all.commits → AreCommitsOf seats commits
all_commits seats count all commits is = record {
  all = record {
    commits = all.commits;
    numbered = all.numbered;
    counted = ap length is ∙ map_count (λ (c : ℕ × CommitValue). c.1) all.commits;
    by_seats = all.by_seats;
    in_sessions = all.in_sessions;
  };
  by_number = is;
}

module _ (o : Opened) (seats : List SeatValue) (core : CoreValue) (pushed popped : List RecordValue) (first_popped : popped ≡ take (length popped) pushed) where
  abbrev made : List RecordValue
  made = pushed ++ core.outbox

  -- ---- what a crash leaves meanwhile

  some_given : (g : GeometryValue) (handed : List RecordValue) (floor : ℕ) → handed ≡ take (length handed) pushed → IsShared o core pushed (sessions_of seats)
      → (image : CrashState) → GivesBeginning o g handed floor image → GivesSome o g seats popped floor image
  some_given g handed floor begins shared image left =
      let within : length handed ≤ length pushed = omega (arith, ap length begins, length-take (length handed) pushed) in
      let below : left.count ≤ length pushed = omega (arith, within, left.most) in
      let first : take left.count handed ≡ take left.count made =
      ap (take left.count) begins ∙ (take-take left.count (length handed) pushed left.most ∙ sym (take-append-le left.count pushed core.outbox below)) in
      let so_many : (o.given.last + left.count) - o.given.last ≡ left.count = omega arith in
      let commits : Commits = shared.register.commits.commits in
      record {
        core = core;
        pushed = pushed;
        shared = shared;
        begins = first_popped;
        count = left.count;
        most = omega (arith, below, length-append pushed core.outbox);
        least = left.least;
        gives = subst (λ (rs : List RecordValue). Gives image g (given_after o.given rs)) first left.gives;
        commits = commits_in commits;
        all = all_commits seats core.commits shared.register.commits (commits_in commits) refl;
        table =
            subst (λ (n : ℕ). (given_after o.given (take n made)).table ≡ with_commits o.given.table (commits_up_to (o.given.last + left.count) commits))
            so_many (shared.tables.recovered (o.given.last + left.count) (omega arith))
            ∙ (sym (with_all o.given.table (commits_up_to (o.given.last + left.count) commits))
            ∙ ap (table_with o.given.table) (sym (first_commits (o.given.last + left.count) commits)));
      }

  -- ---- what the core and the device are

  module _ (none : core.outbox ≡ []) (shared : IsShared o core pushed (sessions_of seats)) where
    abbrev gathered : List CommitValue
    gathered = commits_in shared.register.commits.commits

    table_is : with_commits o.given.table shared.register.commits.commits ≡ table_with o.given.table gathered
    table_is = sym (with_all o.given.table shared.register.commits.commits)

    core_of : IsCoreOf o seats popped core gathered
    core_of =
        let is = shared.tables.committed ∙ table_is in
        record {
          pushed = pushed;
          shared = shared;
          holds = holds o shared.opens shared.register.kept.calls pushed core shared.register.kept.replied;
          none_waits = none;
          begins = first_popped;
          committed = is;
          rows = λ alone. sym (rows_alone core alone) ∙ is;
        }

    all_given : (g : GeometryValue) (handed : List RecordValue) (floor : ℕ) → handed ≡ pushed → floor ≡ o.given.last + length handed
        → core.last ≡ o.given.last + length made → IsCellsOf core (cells_after (opening_cells o.given) made)
        → (image : CrashState) → GivesBeginning o g handed floor image → GivesAll o g core gathered image
    all_given g handed floor same synced last cells image left =
        let all_made : made ≡ handed = ap (λ l. pushed ++ l) none ∙ (append-nil pushed ∙ sym same) in
        let whole : take left.count handed ≡ made = take_all left.count handed (omega (arith, left.least, synced)) ∙ sym all_made in
        let number : o.given.last + length made ≡ core.last = sym last in
        let so_many : take (core.last - o.given.last) made ≡ made = take_all (core.last - o.given.last) made (omega (arith, last)) in
        let is : given_after o.given made ≡ recovered (cells_after (opening_cells o.given) made) core.last =
        ap (recovered (cells_after (opening_cells o.given) made)) number in
        record {
          given = given_after o.given made;
          gives = subst (λ (rs : List RecordValue). Gives image g (given_after o.given rs)) whole left.gives;
          table =
              ap (λ (rs : List RecordValue). (given_after o.given rs).table) (sym so_many)
              ∙ (shared.tables.recovered core.last (omega (arith, last))
              ∙ (ap (with_commits o.given.table) (all_up_to o.given.last core.last shared.register.commits.commits shared.register.history.rising)
              ∙ table_is));
          life = cells.life;
          last = number;
          cells = cells_after (opening_cells o.given) made;
          of_core = cells;
          recovers = is;
          alone = λ none_active. is ∙ cells_alone core (cells_after (opening_cells o.given) made) cells none_active;
        }

    -- where commits were kept, it is these
    kept_is : {A : Type 0} (kept : Option (Vec CommitValue A))
        → IfSome kept (λ v. (count : ℕ) (all : AreAllCommits (sessions_of seats) count) → v.items ≡ commits_in all.commits)
        → IfSome kept (λ v. v.items ≡ gathered)
    kept_is None from = tt
    kept_is (Some v) from = from core.commits shared.register.commits

-- ---- answers

module _ {D : Type 0} (past_of : D → DevicePast) (o : Opened) (seats : List SeatValue) (l : LockedValue) (book : l.book ≡ sessions_of seats)
    (under : ∥ IsShared o l.core l.pushed l.book ∥₁) (popped : List RecordValue) (first_popped : popped ≡ take (length popped) l.pushed) where
  shared : ∥ IsShared o l.core l.pushed (sessions_of seats) ∥₁
  shared = subst (λ (b : List SessionValue). ∥ IsShared o l.core l.pushed b ∥₁) book under

  -- what a crash leaves of what was handed in is of what was made
  pub some_left : (g now : GeometryValue) (handed : List RecordValue) (floor : ℕ) → now ≡ g → handed ≡ take (length handed) l.pushed
      → (image : CrashState) → GivesBeginning o now handed floor image → ∥ GivesSome o g seats popped floor image ∥₁
  some_left g now handed floor same begins image left = ∥∥₁_map shared (λ (h : IsShared o l.core l.pushed (sessions_of seats)).
      some_given o seats l.core l.pushed popped first_popped g handed floor begins h image
      (subst (λ (x : GeometryValue). GivesBeginning o x handed floor image) same left))

  pub images_left : (old new : D) (g now : GeometryValue) (handed : List RecordValue) (floor : ℕ) → now ≡ g → handed ≡ take (length handed) l.pushed
      → LeavesOnly (past_of old) (past_of new) (GivesBeginning o now handed floor)
      → LeavesOnly (past_of old) (past_of new) (λ image. ∥ GivesSome o g seats popped floor image ∥₁)
  images_left old new g now handed floor same begins =
      weaker (past_of old) (past_of new) (GivesBeginning o now handed floor) (λ image. ∥ GivesSome o g seats popped floor image ∥₁)
      (some_left g now handed floor same begins)

  module _ (core : CoreValue) (is : core ≡ l.core) (none : l.core.outbox ≡ []) where
    pub all_closed : (last : (g : GeometryValue) → l.core.last ≡ end_of (lock.run_of g o l)) (cells : (g : GeometryValue)
        → IsCellsOf l.core (cells_at (lock.run_of g o l) l.core.last)) (g now : GeometryValue) (handed : List RecordValue) (floor : ℕ) → now ≡ g
        → handed ≡ l.pushed
        → floor ≡ o.given.last + length handed → (device : D)
        → ((image : CrashState) → IsCrashState (past_of device).disk image → GivesBeginning o now handed floor image)
        → {A : Type 0} (kept : Option (Vec CommitValue A))
        → IfSome kept (λ v. (count : ℕ) (all : AreAllCommits (sessions_of seats) count) → v.items ≡ commits_in all.commits)
        → ∥ IsClosed past_of o g seats popped core device kept ∥₁
    all_closed last cells g now handed floor same all synced device left kept from =
        let made : List RecordValue = l.pushed ++ l.core.outbox in
        let so_many : take (l.core.last - o.given.last) made ≡ made = take_all (l.core.last - o.given.last) made (omega (arith, last g)) in
        let of_core : IsCellsOf l.core (cells_after (opening_cells o.given) made) =
        subst (λ (rs : List RecordValue). IsCellsOf l.core (cells_after (opening_cells o.given) rs)) so_many (cells g) in
        subst (λ (v : CoreValue). ∥ IsClosed past_of o g seats popped v device kept ∥₁) (sym is)
        (∥∥₁_map shared (λ (h : IsShared o l.core l.pushed (sessions_of seats)). record {
          commits = commits_in h.register.commits.commits;
          of_seats = all_commits seats l.core.commits h.register.commits (commits_in h.register.commits.commits) refl;
          of_core = core_of o seats l.core l.pushed popped first_popped none h;
          gives = λ image crash. all_given o seats l.core l.pushed popped first_popped none h g handed floor all synced (last g) of_core image
              (subst (λ (x : GeometryValue). GivesBeginning o x handed floor image) same (left image crash));
          given = kept_is o seats l.core l.pushed popped first_popped none h kept from;
        }))

    pub horizon_closed : (last : (g : GeometryValue) → l.core.last ≡ end_of (lock.run_of g o l)) (g : GeometryValue) (handed : List RecordValue) (horizon : ℕ)
        → handed ≡ l.pushed → horizon ≡ o.given.last + length handed → horizon ≡ core.last
    horizon_closed last g handed horizon all synced =
        omega (arith, synced, ap length all, last g, ap (λ (v : CoreValue). v.last) is, length-append l.pushed l.core.outbox, ap length none)

module _ {D A : Type 0} (past_of : D → DevicePast) (failures : D
    → ℕ) (o : Opened) (seats : List SeatValue) (l : LockedValue) (book : l.book ≡ sessions_of seats) (under : ∥ IsShared o l.core l.pushed l.book ∥₁)
    (popped : List RecordValue) (first_popped : popped ≡ take (length popped) l.pushed) (old f : FlushValue D A) (writes : WritesOn past_of failures o old f)
    (device : D) (is : device ≡ device_of f.writer) where
  pub left_at_end : f.handed ≡ take (length f.handed) l.pushed
      → LeavesOnly (past_of (device_of old.writer)) (past_of device) (λ image.
      ∥ GivesSome o (halves_of old.writer).geometry seats popped (synced_of old.writer) image ∥₁)
  left_at_end begins =
      subst (λ (d : D). LeavesOnly (past_of (device_of old.writer)) (past_of d) (λ image.
      ∥ GivesSome o (halves_of old.writer).geometry seats popped (synced_of old.writer) image ∥₁)) (sym is)
      (images_left past_of o seats l book under popped first_popped (device_of old.writer) (device_of f.writer) (halves_of old.writer).geometry
      (halves_of f.writer).geometry f.handed (synced_of old.writer) writes.geometry begins writes.images)

  -- what was published before is kept at every moment since
  pub kept_at_end : {marks : ℕ → ℕ → Type 0} → IsFlusher past_of marks o old → f.handed ≡ take (length f.handed) l.pushed
      → All (IsKeptSince (λ floor image. ∥ GivesSome o (halves_of old.writer).geometry seats popped floor image ∥₁) (past_of device)) old.publications
  kept_at_end stands begins =
      let g : GeometryValue = (halves_of old.writer).geometry in
      let now : GeometryValue = (halves_of f.writer).geometry in
      let Q : ℕ → CrashState → Type 0 = λ floor image. ∥ GivesSome o g seats popped floor image ∥₁ in
      subst (λ (d : D). All (IsKeptSince Q (past_of d)) old.publications) (sym is)
      (All-weaker (KeptBelow o now f.handed (synced_of f.writer) (past_of (device_of f.writer))) (IsKeptSince Q (past_of (device_of f.writer)))
      (λ p kept. since_weaker (GivesBeginning o now f.handed) Q (past_of (device_of f.writer)) p
      (λ floor. some_left past_of o seats l book under popped first_popped g now f.handed floor writes.geometry begins) kept.1) old.publications
      (all_kept_on o g now old.handed writes.more f.handed (synced_of old.writer) (synced_of f.writer) (past_of (device_of old.writer))
      (past_of (device_of f.writer)) writes.handed writes.geometry writes.rises writes.images old.publications stands.kept))

  pub failed_at_end : (e told : Error) → (e ≡ NoMemory) ⊎ ((e ≡ DeviceFailed) × (has_failed f.writer ≡ true))
      → (has_failed f.writer ≡ true → told ≡ DeviceFailed) → (has_failed f.writer ≡ false → told ≡ e)
      → ((told ≡ NoMemory) × (has_failed old.writer ≡ false) × (failures device ≡ failures (device_of old.writer)))
      ⊎ ((told ≡ DeviceFailed) × (has_failed old.writer ≡ false → Rises (failures (device_of old.writer)) (failures device)))
  failed_at_end e told why failed sound = by (has_failed f.writer) refl
    where
      memory : has_failed f.writer ≡ false → (e ≡ NoMemory) ⊎ ((e ≡ DeviceFailed) × (has_failed f.writer ≡ true)) → e ≡ NoMemory
      memory is_sound (inl none) = none
      memory is_sound (inr device) = absurd (false≢true (sym is_sound ∙ device.1))

      by : (b : Bool) → has_failed f.writer ≡ b → ((told ≡ NoMemory) × (has_failed old.writer ≡ false) × (failures device ≡ failures (device_of old.writer)))
          ⊎ ((told ≡ DeviceFailed) × (has_failed old.writer ≡ false → Rises (failures (device_of old.writer)) (failures device)))
      by true has = inr (failed has, λ before. subst (λ (d : D). Rises (failures (device_of old.writer)) (failures d)) (sym is) (writes.counted has before))
      by false has = inl (sound has ∙ memory has why, writes.stays has, ap failures is ∙ writes.quiet has)

  module _ (core : CoreValue) (core_is : core ≡ l.core) (none : l.core.outbox ≡ []) where
    pub closed_at_end : (last : (g : GeometryValue) → l.core.last ≡ end_of (lock.run_of g o l)) (cells : (g : GeometryValue)
        → IsCellsOf l.core (cells_at (lock.run_of g o l) l.core.last)) → f.handed ≡ l.pushed → synced_of f.writer ≡ last_handed o f
        → ((image : CrashState) → IsCrashState (past_of device).disk image → FlushLeaves o f image) → {X : Type 0} (kept : Option (Vec CommitValue X))
        → IfSome kept (λ v. (count : ℕ) (all : AreAllCommits (sessions_of seats) count) → v.items ≡ commits_in all.commits)
        → ∥ IsClosed past_of o (halves_of old.writer).geometry seats popped core device kept ∥₁
    closed_at_end last cells all synced left kept from =
        all_closed past_of o seats l book under popped first_popped core core_is none last cells (halves_of old.writer).geometry
        (halves_of f.writer).geometry f.handed (synced_of f.writer) writes.geometry all synced device left kept from

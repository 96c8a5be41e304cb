-- What is left of an engine that was opened and taken apart.
use Rattle.std.proofs.Common.{◌≡◌, ℕ, List, [], ◌∷◌, false, refl, sym, ap, subst, ◌∙◌, arith}
use Rattle.std.proofs.lemmas.List.{nil_from_length}
use Rattle.atomic_table.specs.Seated.{TableId}
use Rattle.board.specs.Views.{FlusherCount}
use Rattle.record_values.specs.GeometryValue.{GeometryValue}
use Rattle.records.specs.RecordValue.{RecordValue}
use Rattle.model.specs.Given.{opening_cells}
use Rattle.core_model.specs.Histories.{CanOpen, Opened, opened}
use Rattle.core_model.specs.States.{State}
use Rattle.core_model.specs.Events.{Standing, standing_at}
use Rattle.core_model.specs.Served.{ServesAll, nothing}
use Rattle.core_laws.specs.Calls.{BeginsWith}
use Rattle.core_copies.specs.Loaded.{holding}
use Rattle.core_parts.specs.View.{CoreValue, IsState}
use Rattle.sector_device.specs.Disk.{IsSynced}
use Rattle.sector_device.specs.DevicePast.{DevicePast}
use Rattle.store_writer.specs.declared.writer.Writer.{Writer}
use Rattle.store_writer.specs.Parts.{copying_of, has_failed, image_of, log_of, synced_of}
use Rattle.store_writer.specs.Writer.{IsWriter}
use Rattle.restart.specs.declared.parts.EngineParts.{EngineParts}
use Rattle.restart.specs.Parted.{ArePartsOf, LeavesParts, LeavesPartsOf}
use Rattle.core_parts.specs.Opening as held
use Rattle.restart.specs.Parts.{core_of, device_of}
use Rattle.restart.specs.Reopening.{IsEmptied, IsOpened, IsTurned, opening}
use Rattle.restart.specs.Store.{Past, over, run_of}
use Rattle.shared.specs.Openings.{IsJustOpened, opened_of}
use Rattle.threads_flusher.specs.Part.{FlushValue, IsMarkOf, count_of, publication_of}
use Rattle.threads_lifetime.specs.Openings.{IsNewFlusher, IsNewWriter, IsUnsound, IsGivenBack, Opens}

-- nothing was served
both_same : {made : List RecordValue} {s new : State} {k next : Standing} → ServesAll s k [] made new next → (new ≡ s) × (next ≡ k)
both_same nothing = (refl, refl)

module _ {D A : Type 0} (past_of : D → DevicePast) (before : D) (engine : EngineParts D A) (is : IsOpened past_of before engine) where
  pub opens : Opens (past_of before).disk.content (over is.geometry is.given)
  opens = record { geometry = is.geometry; given = is.given; gives = is.gives; opened = refl }

  -- where there was no memory behind the opening, and the device is given back
  pub given_back : (failures : D → ℕ) (after : D) → CanOpen (over is.geometry is.given) → after ≡ device_of engine
      → failures (device_of engine) ≡ failures before → IsGivenBack past_of failures before after
  given_back failures after can same quiet = record {
    opened = over is.geometry is.given;
    opens = opens;
    sound = can;
    device = subst (λ (d : D). IsTurned past_of before d) (sym same) is.device;
    synced = subst (λ (d : D). IsSynced (past_of d).disk) (sym same) is.synced;
    quiet = ap failures same ∙ quiet;
  }

-- what the core that was opened holds is what the store opened with
held_is : {D A : Type 0} (past_of : D → DevicePast) (before : D) (engine : EngineParts D A) (is : IsOpened past_of before engine) (core : CoreValue)
    → core ≡ core_of engine → held.opened_of core ≡ over is.geometry is.given
held_is past_of before engine is core same = ap held.opened_of (same ∙ is.core)

-- the core was tested, and a core may begin with what it holds
pub sound_opened : {D A : Type 0} (past_of : D → DevicePast) (before : D) (engine : EngineParts D A) (is : IsOpened past_of before engine) (core : CoreValue)
    → core ≡ core_of engine → CanOpen (held.opened_of core) → CanOpen (over is.geometry is.given)
sound_opened past_of before engine is core same can = subst CanOpen (held_is past_of before engine is core same) can

-- the core was tested, and no core may begin with what it holds
pub unsound_opened : {D A : Type 0} (past_of : D → DevicePast) (before : D) (engine : EngineParts D A) (is : IsOpened past_of before engine) (core : CoreValue)
    → core ≡ core_of engine → (CanOpen (held.opened_of core) → ⊥)
    → (failures : D → ℕ) (after : D) → after ≡ device_of engine → failures (device_of engine) ≡ failures before → IsUnsound past_of failures before after
unsound_opened past_of before engine is core held_by cannot failures after same quiet = record {
  opened = over is.geometry is.given;
  opens = opens past_of before engine is;
  unsound = λ can. cannot (subst CanOpen (sym (held_is past_of before engine is core held_by)) can);
  device = subst (λ d. IsTurned past_of before d) (sym same) is.device;
  synced = subst (λ d. IsSynced (past_of d).disk) (sym same) is.synced;
  quiet = ap failures same ∙ quiet;
}

module _ {D A : Type 0} (past_of : D → DevicePast) (before : D) (engine : EngineParts D A) (is : IsOpened past_of before engine)
    (emptied : IsEmptied past_of before engine)
    (can : CanOpen (over is.geometry is.given))
    (core : CoreValue) (records : List RecordValue) (w : Writer D A) (parts : ArePartsOf engine core records w)
    (left : LeavesPartsOf past_of engine core records w) where
  abbrev o : Opened
  o = over is.geometry is.given

  -- the run that has not begun
  abbrev past : Past A
  past = opening is.geometry is.given

  begun : LeavesParts past_of past core records w
  begun = left past (is.begins can)

  none_made : begun.made ≡ []
  none_made = nil_from_length begun.made (omega (arith, begun.many))

  core_is : core ≡ holding is.geometry is.given
  core_is = parts.core-is ∙ is.core

  pub opened_is : opened_of core ≡ o
  opened_is = ap opened_of core_is

  stands : IsState core (opened o) (standing_at o.given.last)
  stands =
      let same = both_same begun.served.served in
      subst (λ (k : Standing). IsState core (opened o) k) same.1 (subst (λ (s : State). IsState core s begun.standing) same.0 begun.shown)

  pub just_opened : IsJustOpened core
  just_opened = record {
    opens = subst CanOpen (sym opened_is) can;
    begins = subst (λ (x : Opened). BeginsWith x core) (sym opened_is) (record { stands = stands; none_waits = ap (λ (v : CoreValue). v.outbox) core_is });
  }

  writes : IsWriter past_of (run_of past []) is.given.last w
  writes =
      let over_none : IsWriter past_of (run_of past []) begun.handed w =
      subst (λ (made : List RecordValue). IsWriter past_of (run_of past made) begun.handed w) none_made begun.writer in
      subst (λ (n : ℕ). IsWriter past_of (run_of past []) n w) (omega (arith, over_none.opened, over_none.reached, over_none.made)) over_none

  new_writer : IsNewWriter past_of o w
  new_writer = record {
    writer = subst (λ (g : GeometryValue). IsWriter past_of
        (record { geometry = g; last = is.given.last; cells = opening_cells is.given; records = [] }) is.given.last w) (sym writes.geometry-is) writes;
    pages = ap (λ (g : GeometryValue). g.pages) writes.geometry-is;
    places = ap (λ (g : GeometryValue). g.entries) writes.geometry-is;
    fits = can.fits.room;
    synced = ap (λ (x : Writer D A). synced_of x) parts.writer-is ∙ is.horizon;
    sound = ap (λ (x : Writer D A). has_failed x) parts.writer-is ∙ is.sound;
    empty = ap (λ (x : Writer D A). (log_of x).open_slots) parts.writer-is ∙ emptied.1;
    idle = ap (λ (x : Writer D A). image_of x) parts.writer-is;
    copying = ap (λ (x : Writer D A). copying_of x) parts.writer-is;
  }

  pub new_over_core : IsNewWriter past_of (opened_of core) w
  new_over_core = subst (λ (x : Opened). IsNewWriter past_of x w) (sym opened_is) new_writer

-- a part that is new, over a new writer and a board of which nothing was published
pub new_flusher : {D A : Type 0} (past_of : D → DevicePast) (marks : ℕ → ℕ → Type 0) (board : TableId) (o : Opened) (w : Writer D A) → IsNewWriter past_of o w
    → (before : FlusherCount) → before ≡ record { board = board; horizon = 0; failed = false; stopped = false; notes = [] }
    → (mark : ℕ) → IsMarkOf marks mark (publication_of past_of w).moment → (f : FlushValue D A)
    → f ≡ record { handed = []; held = []; writer = w; published = count_of before w mark; publications = publication_of past_of w ∷ [] }
    → IsNewFlusher past_of marks board o f
new_flusher past_of marks board o w is before begins mark marked f new = subst (IsNewFlusher past_of marks board o) (sym new)
    (record {
      handed = refl;
      held = refl;
      mark = mark;
      marked = marked;
      published = ap (λ (c : FlusherCount). count_of c w mark) begins ∙ (λ i. record {
        board = board;
        horizon = is.synced i;
        failed = is.sound i;
        stopped = false;
        notes = record { horizon = is.synced i; mark = mark } ∷ [];
      });
      synced = is.synced;
      sound = is.sound;
      empty = is.empty;
      idle = is.idle;
      copying = is.copying;
      publications = refl;
    })

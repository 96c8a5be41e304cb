-- What becomes of an image where a group is carried into its log, or isn't.
use Rattle.std.proofs.Common.{◌≡◌, ◌≢◌, ◌↔◌, ℕ, ◌+◌, ◌-◌, ◌/◌, ◌<◌, ◌≤◌, List, [], ◌∷◌, ◌++◌, length, drop, Option, Some, None, Result, Ok, Err, refl, sym}
use Rattle.std.proofs.Common.{ap, subst, ◌∙◌, arith, length-append}
use Rattle.sector_device.specs.Disk.{CrashState, IsSynced, SameOutside}
use Rattle.sector_device.specs.DevicePast.{DevicePast, LeavesOnly}
use Rattle.sector_device.proofs.Moments.{started}
use Rattle.records.specs.RecordValue.{RecordValue}
use Rattle.record_values.specs.declared.error.Error.{Error}
use Rattle.record_values.specs.GeometryValue.{sectors_of}
use Rattle.gate_log.specs.Area.{Area, InSlot, IsAppended, IsAreaInside}
use Rattle.gate_log.specs.Group.{IsGroup}
use Rattle.gate_log.specs.declared.area.Appended.{Appended}
use Rattle.gate_log.specs.declared.area.Appended.TheVariants.{Done, Full}
use Rattle.flip_image.specs.declared.half.Half.{Half}
use Rattle.store_image_model.specs.Run.{Run}
use Rattle.store_writer.specs.declared.image.NewImage.{NewImage}
use Rattle.store_writer.specs.Image.{BecomesImage, InNewLog, InNewSlot, IsUnderway}
use Rattle.store_writer.specs.Writer.{WritesOnly}
use Rattle.store_writer.proofs.Alone.{none_alone, slot_alone}
use Rattle.store_writer.proofs.Halves.{log_room}
use Rattle.store_writer.proofs.Underway.{append_outside, append_leaves}

-- ---- what is written

module _ {D : Type 0} (past_of : D → DevicePast) (image : Option NewImage) (old new : D) (synced : IsSynced (past_of old).disk) where
  -- in the log, at any moment, and in the slot
  abbrev WritesLog : D → Option NewImage → Type 0
  WritesLog d t = SameOutside (InNewLog t) (past_of old).disk.content (past_of d).disk.content
      × LeavesOnly (past_of old) (past_of d) (SameOutside (InNewLog t) (past_of old).disk.content)
      × WritesOnly past_of (InNewSlot t) old d

  -- nothing
  pub untouched : new ≡ old → IsSynced (past_of new).disk × WritesLog new image
  untouched same = subst (λ (d : D). IsSynced (past_of d).disk × WritesLog d image) (sym same) (
    synced,
    (
      record { sectors = refl; same = λ k out. refl },
      started (past_of old) (SameOutside (InNewLog image) (past_of old).disk.content) (λ c crash.
          record { sectors = crash.sectors; same = λ k out. crash.kept k (synced k) }),
      none_alone past_of (InNewSlot image) old,
    ),
  )

  -- a group, or a part of it
  pub appended : (i : NewImage) → image ≡ Some i → i.log.open_slots < i.log.area.slots → (records : List RecordValue)
      → SameOutside (InSlot i.log.area i.log.open_slots) (past_of old).disk.content (past_of new).disk.content
      → LeavesOnly (past_of old) (past_of new) (IsAppended i.log (past_of old).disk records) → WritesLog new image
  appended i there room records outside run = subst (WritesLog new) (sym there) (
    append_outside i.log (past_of old) synced room (past_of new).disk.content outside,
    append_leaves i.log (past_of old) synced room (past_of new) records run,
    slot_alone past_of i.log old new records outside run,
  )

-- a slot is closed where a group was added, and where adding it failed
pub room_where_done : (r : Result Appended Error) (n m : ℕ) → n ≤ m → ((r ≡ Ok Full) ↔ (n ≡ m)) → r ≡ Ok Done → n < m
room_where_done r n m most full done =
    let not_all : n ≢ m = λ all. cc (full.1 all, done) in
    omega (arith, most, not_all)

pub room_where_failed : (r : Result Appended Error) (e : Error) (n m : ℕ) → n ≤ m → ((r ≡ Ok Full) ↔ (n ≡ m)) → r ≡ Err e → n < m
room_where_failed r e n m most full failed =
    let not_all : n ≢ m = λ all. cc (full.1 all, failed) in
    omega (arith, most, not_all)

-- ---- what was planned

module _ (slots synced : ℕ) (group : List RecordValue) where
  -- the records above the image's base are to be carried, and its log has room for them
  abbrev IsToCarry : NewImage → List ℕ → Type 0
  IsToCarry i body = (i.base - synced < length group) × (i.log.open_slots < slots / 2) × IsGroup (drop (i.base - synced) group) body

  pub to_carry : (image : Option NewImage) (new : NewImage) → image ≡ Some new → (items body : List ℕ) → body ≡ items
      → ((i : NewImage) × (image ≡ Some i) × (i.base - synced < length group) × (i.log.open_slots < slots / 2)
      × IsGroup (drop (i.base - synced) group) items)
      → IsToCarry new body
  to_carry image new there items body is (i, came, above, early, spelled) =
      let same : i ≡ new = cc (came, there) in
      subst (λ (j : NewImage). IsToCarry j body) same (subst (IsToCarry i) (sym is) (above, early, spelled))

-- ---- what becomes of it

module _ (slots synced count : ℕ) (image : Option NewImage) where
  -- no record is above its base
  pub becomes_same : 0 < count → ((i : NewImage) → image ≡ Some i → count ≤ i.base - synced) → BecomesImage slots synced count image image
  becomes_same some keep = record {
    none = λ none. none;
    stays = λ i it below. refl;
    given-up = λ i it above late. absurd (omega (arith, keep i it, above, some));
    carried = λ i it above early. absurd (omega (arith, keep i it, above, some));
  }

  -- there was none
  pub becomes_none : image ≡ None → BecomesImage slots synced count image None
  becomes_none was = record {
    none = λ none. refl;
    stays = λ i it below. sym was;
    given-up = λ i it above late. refl;
    carried = λ i it above early. absurd (cc (was, it));
  }

  -- it is given up: its log has groups in half the slots
  pub gives_up : (g : NewImage) → image ≡ Some g → g.base - synced < count → slots / 2 ≤ g.log.open_slots → BecomesImage slots synced count image None
  gives_up g there more late = record {
    none = λ none. refl;
    stays = λ i it below. absurd (let same : g ≡ i = cc (there, it) in omega (arith, more, ap (λ (x : NewImage). x.base) same, below));
    given-up = λ i it above late. refl;
    carried = λ i it above early. absurd (let same : g ≡ i = cc (there, it) in
        omega (arith, late, ap (λ (x : NewImage). x.log.open_slots) same, early));
  }

  -- its log has one group more
  pub becomes_more : (new now : NewImage) → image ≡ Some new → new.base - synced < count → new.log.open_slots < slots / 2 → now.base ≡ new.base
      → now.number ≡ new.number → now.stage ≡ new.stage → now.log.open_slots ≡ new.log.open_slots + 1 → BecomesImage slots synced count image (Some now)
  becomes_more new now there more early base number stage counted = record {
    none = λ none. absurd (cc (there, none));
    stays = λ i it below. absurd (let same : new ≡ i = cc (there, it) in omega (arith, more, ap (λ (x : NewImage). x.base) same, below));
    given-up = λ i it above late. absurd (let same : new ≡ i = cc (there, it) in
        omega (arith, early, ap (λ (x : NewImage). x.log.open_slots) same, late));
    carried = λ i it above soon.
        let same : new ≡ i = cc (there, it) in (
          now,
          refl,
          base ∙ ap (λ (x : NewImage). x.base) same,
          number ∙ ap (λ (x : NewImage). x.number) same,
          stage ∙ ap (λ (x : NewImage). x.stage) same,
          counted ∙ ap (λ (x : NewImage). x.log.open_slots + 1) same,
        );
  }

-- the open slots of a log, with one group more
pub one_more_open : (groups : List (List RecordValue)) (records : List RecordValue) (n m : ℕ) → n ≡ length groups → m ≡ length (groups ++ records ∷ [])
    → m ≡ n + 1
one_more_open groups records n m counted now = now ∙ length-append groups (records ∷ []) ∙ ap (λ (k : ℕ). k + 1) (sym counted)

-- ---- the log of an image under way

module _ (run : Run) (half : Half) (image : CrashState) (synced : ℕ) (new : NewImage) (is : IsUnderway run half image synced new) where
  pub new_log_room : sectors_of run.geometry ≤ length image → IsAreaInside new.log.area image
  new_log_room room = subst (λ (a : Area). IsAreaInside a image) (sym is.area-is) (omega (arith, room, log_room run.geometry half))

  pub new_log_open : new.log.open_slots ≤ new.log.area.slots
  new_log_open = omega (arith, is.stands.counted, is.stands.held.room)

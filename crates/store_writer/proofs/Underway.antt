-- What becomes of an image under way where the records above its base are carried on.
use Rattle.std.proofs.Common.{◌≡◌, ◌⊎◌, ⊎_elim, ℕ, ◌+◌, ◌-◌, ◌/◌, ◌<◌, ◌≤◌, List, [], ◌∷◌, ◌++◌, length, take, drop, Option, Some, None, IfSome, refl, sym, ap}
use Rattle.std.proofs.Common.{subst, ◌∙◌, arith, length-drop, length-append}
use Rattle.std.proofs.lemmas.Bool.{false≢true}
use Rattle.std.specs.List.{flat_map}
use Rattle.std.proofs.lemmas.List.{take-append-drop}
use Rattle.std.proofs.Math.Seq.{take-length}
use Rattle.std.proofs.lemmas.List.Concat.{flat_map-append}
use Rattle.sector_device.specs.Disk.{CrashState, IsSynced, SameOutside}
use Rattle.sector_device.specs.DevicePast.{DevicePast, LeavesOnly}
use Rattle.sector_device.proofs.Moments.{weaker}
use Rattle.sector_device.proofs.Sectors.{same_outside_wider}
use Rattle.records.specs.RecordValue.{RecordValue}
use Rattle.records.specs.Spelling.{spelling}
use Rattle.gate_log.specs.Group.{FitsGroup, spellings}
use Rattle.gate_log.specs.Area.{Area, Log, InArea, InSlot, Stands, IsAppended}
use Rattle.gate_log.proofs.Readings.{records_of_one_more, told_by_its_sectors}
use Rattle.record_values.specs.declared.pair.Pair.{Pair}
use Rattle.model.specs.declared.life.Life.{Life}
use Rattle.store_image_half.proofs.PartByPart.{part_told}
use Rattle.flip_image.specs.declared.half.Half.{Half}
use Rattle.flip_image.specs.Layout.{InHalf, InHalfImage, InLog}
use Rattle.flip_image.proofs.Sides.{image_inside, log_inside, parts_apart}
use Rattle.store_image_model.specs.Run.{Run, end_of, records_between}
use Rattle.store_reader.specs.Contents.{log_area}
use Rattle.store_writer.specs.declared.image.NewImage.{NewImage}
use Rattle.store_writer.specs.declared.image.Stage.{Stage}
use Rattle.store_writer.specs.declared.image.Stage.TheVariants.{Whole, Partly}
use Rattle.store_writer.specs.Image.{IsImageWhole, IsPart, IsContent, IsUnderway, InNewLog, reach}
use Rattle.store_writer.proofs.Numbers.{between_split, back_between}
use Rattle.store_writer.proofs.Halves.{SameIn, in_from_outside, image_apart}

-- ---- an append, seen from outside

module _ (log : Log) (h : DevicePast) (all : IsSynced h.disk) (room : log.open_slots < log.area.slots) where
  slot_in_area : (n : ℕ) → InSlot log.area log.open_slots n → InArea log.area n
  slot_in_area n slot = (omega (arith, slot.0), omega (arith, slot.1, room))

  pub append_outside : (c : CrashState) → SameOutside (InSlot log.area log.open_slots) h.disk.content c → SameOutside (InArea log.area) h.disk.content c
  append_outside c same = same_outside_wider _ (InArea log.area) h.disk.content c slot_in_area same

  pub append_leaves : (new : DevicePast) (records : List RecordValue) → LeavesOnly h new (IsAppended log h.disk records)
      → LeavesOnly h new (SameOutside (InArea log.area) h.disk.content)
  append_leaves new records run = weaker h new _ _ (λ c appended. same_outside_wider _ (InArea log.area) h.disk.content c
      (λ n either. ⊎_elim (λ slot. slot_in_area n slot) (λ unsynced. absurd (false≢true (sym (all n) ∙ unsynced))) either) appended.outside) run

-- ---- the last records of a group fit one

pub last_fit : (group : List RecordValue) (k : ℕ) → FitsGroup group → k < length group → FitsGroup (drop k group)
unfolding spellings
last_fit group k fits less = record {
  some = omega (arith, length-drop k group);
  short =
      let parts = ap (λ (l : List RecordValue). length (flat_map spelling l)) (take-append-drop k group) in
      let sum = ap length (flat_map-append spelling (take k group) (drop k group))
      ∙ length-append (flat_map spelling (take k group)) (flat_map spelling (drop k group)) in
      omega (arith, fits.short, parts, sum);
}

-- ---- an image under way

-- where the sectors of the half's image stay
whole_apart : (run : Run) (half : Half) (image c : CrashState) → SameIn (InHalfImage run.geometry half) image c → (base to : ℕ)
    → IsImageWhole run half image base to
    → IsImageWhole run half c base to
whole_apart run half image c same base to is = record {
  copied = is.copied;
  imaged = image_apart run.geometry half image c same base is.copied is.imaged;
  copies = is.copies;
}

part_apart : (run : Run) (half : Half) (image c : CrashState) → SameIn (InHalfImage run.geometry half) image c
    → (base to pages count : ℕ) (highest : Option Pair) (life : Life) → IsPart run half image base to pages count highest life
    → IsPart run half c base to pages count highest life
part_apart run half image c same base to pages count highest life is = record {
  rows = is.rows;
  entries = is.entries;
  copied = is.copied;
  part = part_told run.geometry _ image c same.sectors same.same pages _ is.part;
  life-is = is.life-is;
  inside = is.inside;
  counted = is.counted;
  full = is.full;
}

pub content_apart : (run : Run) (half : Half) (image c : CrashState) → SameIn (InHalfImage run.geometry half) image c → (base to : ℕ) (stage : Stage)
    → IsContent run half image base to stage → IsContent run half c base to stage
content_apart run half image c same base to Whole is = whole_apart run half image c same base to is
content_apart run half image c same base to (Partly pages count highest life) is = part_apart run half image c same base to pages count highest life is

module _ (run : Run) (half : Half) (image c : CrashState) (synced : ℕ) (new : NewImage) (is : IsUnderway run half image synced new) where
  log_sector : (n : ℕ) → InArea new.log.area n → InArea (log_area run.geometry half) n
  log_sector n inside = subst (λ (a : Area). InArea a n) is.area-is inside

  -- other sectors changed
  pub underway_apart : SameIn (InHalf run.geometry half) image c → IsUnderway run half c synced new
  underway_apart same = record {
    low = is.low;
    rise = is.rise;
    made = is.made;
    content = content_apart run half image c (record { sectors = same.sectors; same = λ n inside. same.same n (image_inside run.geometry half n inside) })
        new.base new.number new.stage is.content;
    area-is = is.area-is;
    groups = is.groups;
    stands = record {
      held = told_by_its_sectors new.log.area image c is.groups same.sectors (λ n inside.
          same.same n (log_inside run.geometry half n (log_sector n inside))) is.stands.held;
      counted = is.stands.counted;
    };
    carried = is.carried;
    half-open = is.half-open;
  }

  -- the last synced record is later, and still no later than the base
  pub not_carried : (n : ℕ) → synced ≤ n → n ≤ new.base → IsUnderway run half image n new
  not_carried n rise below = record {
    low = is.low;
    rise = is.rise;
    made = is.made;
    content = is.content;
    area-is = is.area-is;
    groups = is.groups;
    stands = is.stands;
    carried = is.carried ∙ ap (records_between run new.base) (let e : reach new synced ≡ reach new n = omega arith in e);
    half-open = is.half-open;
  }

  -- the records above the base are carried
  pub carried_more : (log : Log) (group : List RecordValue) (count : ℕ) → run.last ≤ synced → group ≡ records_between run synced (synced + count)
      → synced + count ≤ end_of run → new.base < synced + count → new.log.open_slots < run.geometry.slots / 2
      → SameOutside (InArea new.log.area) image c → log.area ≡ new.log.area → Stands log c (is.groups ++ drop (new.base - synced) group ∷ [])
      → IsUnderway run half c (synced + count) (record { base = new.base; number = new.number; stage = new.stage; log = log })
  carried_more log group count opened group_is made above room same area stands = record {
    low = is.low;
    rise = is.rise;
    made = is.made;
    content = content_apart run half image c (in_from_outside (InHalfImage run.geometry half) _ image c (λ n inside log.
        parts_apart run.geometry half n inside (log_sector n log)) same) new.base new.number new.stage is.content;
    area-is = area ∙ is.area-is;
    groups = is.groups ++ drop (new.base - synced) group ∷ [];
    stands = stands;
    carried =
        let mid = reach new synced in
        let last : reach (record { base = new.base; number = new.number; stage = new.stage; log = log }) (synced + count) ≡ synced + count = omega arith in
        let from : synced + (new.base - synced) ≡ mid = omega arith in
        let rest : drop (new.base - synced) group ≡ records_between run mid (synced + count) =
        ap (drop (new.base - synced)) group_is ∙ back_between run synced (synced + count) opened (omega arith) made (new.base - synced) (omega arith)
        ∙ ap (λ k. records_between run k (synced + count)) from in
        records_of_one_more is.groups (drop (new.base - synced) group)
        ∙ ap (λ (t : List RecordValue). t ++ drop (new.base - synced) group) is.carried
        ∙ ap (λ (t : List RecordValue). records_between run new.base mid ++ t) rest
        ∙ sym (between_split run new.base mid (synced + count) is.low (omega arith) (omega arith))
        ∙ ap (records_between run new.base) (sym last);
    half-open = omega (
      arith,
      stands.counted,
      is.stands.counted,
      length-append is.groups (drop (new.base - synced) group ∷ []),
      room,
    );
  }

-- the rest of a list, as a slice of it
pub rest_is : (k : ℕ) (group : List RecordValue) → take (length group - k) (drop k group) ≡ drop k group
rest_is k group = ap (λ n. take n (drop k group)) (sym (length-drop k group)) ∙ take-length (drop k group)

pub if_underway_apart : (run : Run) (half : Half) (image c : CrashState) (synced : ℕ) (new : Option NewImage) → SameIn (InHalf run.geometry half) image c
    → IfSome new (IsUnderway run half image synced) → IfSome new (IsUnderway run half c synced)
if_underway_apart run half image c synced None same is = is
if_underway_apart run half image c synced (Some new) same is = underway_apart run half image c synced new is same

-- a sector of an image's log is one of its half's log
pub new_log_in_log : (run : Run) (half : Half) (image : CrashState) (synced n : ℕ) (new : Option NewImage) → IfSome new (IsUnderway run half image synced)
    → InNewLog new n → InLog run.geometry half n
new_log_in_log run half image synced n None is inside = absurd inside
new_log_in_log run half image synced n (Some new) is inside = subst (λ (a : Area). InArea a n) is.area-is inside

-- and of its half
pub new_log_in_half : (run : Run) (half : Half) (image : CrashState) (synced n : ℕ) (new : Option NewImage) → IfSome new (IsUnderway run half image synced)
    → InNewLog new n → InHalf run.geometry half n
new_log_in_half run half image synced n None is inside = absurd inside
new_log_in_half run half image synced n (Some new) is inside = log_inside run.geometry half n (subst (λ (a : Area). InArea a n) is.area-is inside)

-- no record of a group is above an image's base
pub if_not_carried : (run : Run) (half : Half) (image : CrashState) (synced n : ℕ) (new : Option NewImage) → synced ≤ n
    → ((i : NewImage) → new ≡ Some i → n ≤ i.base ⊎ (n ≡ synced)) → IfSome new (IsUnderway run half image synced) → IfSome new (IsUnderway run half image n)
if_not_carried run half image synced n None rise below is = is
if_not_carried run half image synced n (Some new) rise below is = ⊎_elim
    (λ low. not_carried run half image image synced new is n rise low)
    (λ same. subst (λ k. IsUnderway run half image k new) (sym same) is)
    (below new refl)

-- An image under way in the half that isn't current.
use Rattle.std.specs.Prelude.{◌≡◌, ℕ, ◌+◌, ◌-◌, ◌/◌, ◌%◌, ◌≤◌, ◌<◌, max, List, length, drop, Option, Some, None}
use Rattle.std.specs.FinMap as map
use Rattle.sector_device.specs.Disk.{CrashState}
use Rattle.records.specs.RecordValue.{RecordValue}
use Rattle.record_values.specs.declared.pair.Pair.{Pair}
use Rattle.record_values.specs.declared.geometry.TheConstants.{ENTRIES_PER_SECTOR}
use Rattle.model.specs.Cells.{Cells}
use Rattle.model.specs.Inside.{AreInside}
use Rattle.model.specs.Table.{Table}
use Rattle.record_values.specs.Entries.{Index}
use Rattle.model.specs.declared.life.Life.{Life}
use Rattle.gate_log.specs.Area.{InArea, InSlot, Stands, records_of}
use Rattle.gate_log.specs.Group.{IsGroup}
use Rattle.store_image_half.specs.Part.{IsImagePart}
use Rattle.flip_image.specs.declared.half.Half.{Half}
use Rattle.flip_image.specs.Layout.{header_sector}
use Rattle.flip_image.specs.Store.{HoldsImage}
use Rattle.store_image_model.specs.Partly.{IsPartlyCopied}
use Rattle.store_image_model.specs.Run.{Run, IsCopiedFrom, end_of, cells_at, records_above, records_between}
use Rattle.store_reader.specs.Contents.{log_area}
use Rattle.store_writer.specs.declared.image.NewImage.{NewImage}
use Rattle.store_writer.specs.declared.image.Stage.{Stage}
use Rattle.store_writer.specs.declared.image.Stage.TheVariants.{Whole, Partly}
use Rattle.store_writer.specs.declared.image.Plan.{Plan}
use Rattle.store_writer.specs.declared.image.Plan.TheVariants.{Keep, GiveUp, Carry}

-- the last record that this image would give with its log: its base, or the last one synced
abbrev pub reach : NewImage → ℕ → ℕ
reach image synced = max image.base synced

-- The half holds an image, whose cells were copied from the record `base` on up to the record `to`.
pub record IsImageWhole (run : Run) (half : Half) (image : CrashState) (base to : ℕ) : Type 0 where
  pub copied : Cells
  pub imaged : HoldsImage run.geometry half image base copied
  pub copies : IsCopiedFrom run base to copied

-- The half holds a part of an image that was begun at the record `base`: its lists, and the life at the base. The rows
-- of the first pages are as they were at some records from `base` to `to`, and so are the first entries: as many as
-- counted, which fill their sectors, and all up to the highest pair.
pub record IsPart (run : Run) (half : Half) (image : CrashState) (base to pages count : ℕ) (highest : Option Pair)
    (life : Life) : Type 0 where
  pub rows : Table
  pub entries : Index
  pub copied : IsPartlyCopied (cells_at run base) (records_above run base) (to - base) pages highest rows entries
  pub part : IsImagePart run.geometry (header_sector run.geometry half) image pages
      (record (cells_at run base) { rows = rows; entries = entries })
  pub life-is : life ≡ (cells_at run base).life
  pub inside : AreInside run.geometry.pages (cells_at run base)
  pub counted : count ≡ length (map.entries entries)
  pub full : count % ENTRIES_PER_SECTOR ≡ 0

-- what the half holds of an image at a stage
abbrev pub IsContent : Run → Half → CrashState → (base to : ℕ) → Stage → Type 0
IsContent run half image base to Whole = IsImageWhole run half image base to
IsContent run half image base to (Partly pages count highest life) =
    IsPart run half image base to pages count highest life

-- The image is in this half, and the half's log has the records above its base that are synced, in half its slots at
-- most.
pub record IsUnderway (run : Run) (half : Half) (image : CrashState) (synced : ℕ) (new : NewImage) : Type 0 where
  pub low : run.last ≤ new.base
  pub rise : new.base ≤ new.number
  pub made : new.number ≤ end_of run
  pub content : IsContent run half image new.base new.number new.stage
  pub area-is : new.log.area ≡ log_area run.geometry half
  pub groups : List (List RecordValue)
  pub stands : Stands new.log image groups
  pub carried : records_of groups ≡ records_between run new.base (reach new synced)
  pub half-open : new.log.open_slots ≤ run.geometry.slots / 2

-- a sector of the log of an image's half
abbrev pub InNewLog : Option NewImage → ℕ → Type 0
InNewLog None n = ⊥
InNewLog (Some image) n = InArea image.log.area n

-- a sector of the slot that the next group of that log opens
abbrev pub InNewSlot : Option NewImage → ℕ → Type 0
InNewSlot None n = ⊥
InNewSlot (Some image) n = InSlot image.log.area image.log.open_slots n

-- What becomes of an image when a group is flushed behind the record `synced`: it is kept where no record of the group
-- is above its base, and else given up where its log has groups in half the slots, and else the records above its base
-- are carried.
abbrev pub IsPlan : {M : Type 0} → Option NewImage → (slots synced : ℕ) → List RecordValue → Plan M → Type 0
IsPlan image slots synced group Keep = (i : NewImage) → image ≡ Some i → length group ≤ i.base - synced
IsPlan image slots synced group GiveUp = (i : NewImage) × (image ≡ Some i) × (i.base - synced < length group)
    × (slots / 2 ≤ i.log.open_slots)
IsPlan image slots synced group (Carry body) = (i : NewImage) × (image ≡ Some i) × (i.base - synced < length group)
    × (i.log.open_slots < slots / 2) × IsGroup (drop (i.base - synced) group) body.items

-- What flushing this many records behind the record `synced` makes of an image: it stays where none of them is above
-- its base, and else is given up where its log had groups in half the slots, and else its log has one group more.
pub record BecomesImage (slots synced count : ℕ) (old new : Option NewImage) : Type 0 where
  pub none : old ≡ None → new ≡ None
  pub stays : (i : NewImage) → old ≡ Some i → synced + count ≤ i.base → new ≡ old
  pub given-up : (i : NewImage) → old ≡ Some i → i.base < synced + count → slots / 2 ≤ i.log.open_slots → new ≡ None
  pub carried : (i : NewImage) → old ≡ Some i → i.base < synced + count → i.log.open_slots < slots / 2
      → (n : NewImage) × (new ≡ Some n) × (n.base ≡ i.base) × (n.number ≡ i.number) × (n.stage ≡ i.stage)
      × (n.log.open_slots ≡ i.log.open_slots + 1)

-- an image that is there now was there, at the stage that it is at (no public clause cites this)
abbrev pub StaysAtStage : (old new : Option NewImage) → Type 0
StaysAtStage old new = (n : NewImage) → new ≡ Some n → (i : NewImage) × (old ≡ Some i) × (n.stage ≡ i.stage)

-- What a half of a store has, and what a crash leaves of a run of records.
use Rattle.std.specs.Prelude.{◌≡◌, ℕ, ◌+◌, ◌≤◌, List, length}
use Rattle.std.specs.FinMap.{len}
use Rattle.sector_device.specs.Disk.{CrashState}
use Rattle.records.specs.RecordValue.{RecordValue}
use Rattle.record_values.specs.GeometryValue.{GeometryValue}
use Rattle.model.specs.Cells.{Cells, cells_after}
use Rattle.model.specs.Following.{AreFollowing}
use Rattle.model.specs.Given.{recovered}
use Rattle.gate_log.specs.Area.{HoldsGroups, records_of}
use Rattle.flip_image.specs.declared.half.Half.{Half}
use Rattle.flip_image.specs.Store.{IsStore, HoldsImage}
use Rattle.store_image_model.specs.Run.{Run, cells_at}
use Rattle.store_reader.specs.Contents.{Gives, log_area}

-- The half holds an image, and its log records that follow it: with them over the image the cells are these, after
-- record `last`.
pub record HalfHas (g : GeometryValue) (half : Half) (image : CrashState) (last : ℕ) (cells : Cells) : Type 0 where
  pub base : ℕ
  pub copied : Cells
  pub imaged : HoldsImage g half image base copied
  pub groups : List (List RecordValue)
  pub held : HoldsGroups (log_area g half) image groups
  pub following : AreFollowing g.pages base copied (records_of groups)
  pub last-is : last ≡ base + length (records_of groups)
  pub cells-are : cells ≡ cells_after copied (records_of groups)

-- the content is of a store, whose current half has these cells after record `last`
pub record StoreHas (g : GeometryValue) (image : CrashState) (last : ℕ) (cells : Cells) : Type 0 where
  pub half : Half
  pub store : IsStore g half image
  pub has : HalfHas g half image last cells

-- The crash state has the cells after some record of the run, no earlier than `floor` and no later than `handed`. A
-- reader finds what is recovered of them, where the geometry has a place for each entry.
pub record LeftBy (run : Run) (floor handed : ℕ) (image : CrashState) : Type 0 where
  pub number : ℕ
  pub least : floor ≤ number
  pub most : number ≤ handed
  pub has : StoreHas run.geometry image number (cells_at run number)
  pub gives : len (recovered (cells_at run number) number).entries ≤ run.geometry.entries
      → Gives image run.geometry (recovered (cells_at run number) number)

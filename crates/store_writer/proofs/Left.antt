-- What an image gives that a crash left.
use Rattle.std.proofs.Common.{ℕ, ◌≤◌, refl, ap, ◌∙◌}
use Rattle.std.specs.FinMap.{len}
use Rattle.sector_device.specs.Disk.{CrashState}
use Rattle.record_values.specs.GeometryValue.{GeometryValue}
use Rattle.model.specs.Cells.{Cells, cells_after}
use Rattle.model.specs.Given.{recovered}
use Rattle.gate_log.specs.Area.{records_of}
use Rattle.store_image_model.specs.Run.{Run, cells_at}
use Rattle.store_reader.specs.Contents.{Gives}
use Rattle.store_writer.specs.Contents.{StoreHas, LeftBy}

pub gives : (g : GeometryValue) (image : CrashState) (last : ℕ) (cells : Cells) → StoreHas g image last cells → len (recovered cells last).entries ≤ g.entries
    → Gives image g (recovered cells last)
gives g image last cells store room =
    let has = store.has in
    record {
      half = store.half;
      base = has.base;
      cells = has.copied;
      records = records_of has.groups;
      holds = record { store = store.store; imaged = has.imaged; groups = has.groups; held = has.held; all = refl; following = has.following };
      recovered = ap (λ (x : Cells). recovered x last) has.cells-are ∙ ap (recovered (cells_after has.copied (records_of has.groups))) has.last-is;
      room = room;
    }

pub left_by : (run : Run) (floor handed number : ℕ) (image : CrashState) → floor ≤ number → number ≤ handed
    → StoreHas run.geometry image number (cells_at run number) → LeftBy run floor handed image
left_by run floor handed number image least most has =
    record { number = number; least = least; most = most; has = has; gives = gives run.geometry image number (cells_at run number) has }

use Rattle.std.proofs.Common.{rules, subst, sym}
use Rattle.sector_device.specs.Disk.{CrashState}
use Rattle.record_values.specs.GeometryValue.{GeometryValue}
use Rattle.model.specs.Inside.{AreInside}
use Rattle.flip_image.specs.Layout.{header_sector_in}
use Rattle.store_reader.proofs.Inside.{inside}
use Rattle.store_reader.proofs.reader.read_cells.Goals as goal

pub over-requires-clause-inside : goal.over-requires-clause-inside
over-requires-clause-inside g c =
    let image : CrashState = (g.D.Device.past_of c.args.device.now).disk.content in
    let h = c.args.halves.now in
    subst (λ (x : GeometryValue). AreInside x.pages c.read_image.new.sink) (sym c.geometry.ensures)
    (inside c.args.version h.geometry (header_sector_in c.args.version h.geometry h.current) image _ _ c.in_ok-base.ensures.read)

pub returns-clause-imaged : goal.returns-clause-imaged
returns-clause-imaged g c = search rules

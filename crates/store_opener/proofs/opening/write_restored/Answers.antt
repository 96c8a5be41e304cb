use Rattle.std.proofs.Common.{OnOk, sym, subst}
use Rattle.model.specs.Cells.{Cells}
use Rattle.store_image_half.specs.Source.{FitsImage}
use Rattle.flip_image.specs.Layout.{other}
use Rattle.flip_image.specs.Store.{HoldsImage}
use Rattle.store_opener.proofs.opening.write_restored.Goals as goal

pub write_whole-written-requires-clause-fits : goal.write_whole-written-requires-clause-fits
write_whole-written-requires-clause-fits g c =
    let geometry = c.args.halves.geometry in
    subst (λ (x : Cells). FitsImage geometry x) (sym c.into_cells-cells.ensures) c.requires.fits

pub returns-clause-imaged : goal.returns-clause-imaged
returns-clause-imaged g c =
    let halves = c.args.halves in
    let content = (g.D.Device.past_of c.write_whole-written.new.device).disk.content in
    subst (λ (x : Cells). OnOk c.write_whole-written.result (HoldsImage halves.geometry (other halves.current) content c.args.restored.last x))
    c.into_cells-cells.ensures c.write_whole-written.ensures.written

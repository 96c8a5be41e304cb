use Rattle.std.proofs.Common.{OnOk, subst, arith}
use Rattle.store_image_half.specs.Layout.{InPage}
use Rattle.store_image_half.specs.Part.{HasPage}
use Rattle.flip_image.specs.Layout.{other, InHalfImage}
use Rattle.flip_image.proofs.Wider.{within_more}
use Rattle.flip_image.proofs.halves.Halves.write_rows.Goals as goal

pub returns-clause-within : goal.returns-clause-within
returns-clause-within g c =
    let h = c.args.self.now in
    within_more (InPage c.idle_first-first.result c.args.page) (InHalfImage h.geometry (other h.current)) _ _ _
    (λ n is. (omega (arith, is.0, c.idle_first-first.ensures.value), omega (arith, is.1, c.idle_first-first.ensures.value, c.requires.page)))
    c.write_rows.ensures.within

pub returns-clause-written : goal.returns-clause-written
returns-clause-written g c =
    let image = (g.D.Device.past_of c.write_rows.new.device).disk.content in
    subst (λ f. OnOk c.write_rows.result (HasPage f image c.args.page (g.S.CellSource.cells c.args.source.now).rows)) c.idle_first-first.ensures.value
    c.write_rows.ensures.written

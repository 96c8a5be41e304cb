use Rattle.std.proofs.Common.{◌≡◌, ℕ, Option, Some, OnOk, subst, arith}
use Rattle.std.specs.Prelude.{slice_get}
use Rattle.record_values.specs.declared.row.Row.{Row}
use Rattle.record_values.specs.declared.version.Version.TheVariants.{Two}
use Rattle.store_image_half.specs.Layout.{InPage, page_bytes}
use Rattle.store_image_half.specs.Image.{HasEdges, IsRow, row_bytes}
use Rattle.flip_image.specs.Layout.{other, InHalfImage}
use Rattle.flip_image.proofs.Wider.{within_more}
use Rattle.flip_image.proofs.halves.Halves.write_page.Goals as goal

pub returns-clause-within : goal.returns-clause-within
returns-clause-within g c =
    let h = c.args.self.now in
    within_more (InPage c.idle_first-first.result c.args.page) (InHalfImage h.geometry (other h.current)) _ _ _
    (λ n is. (omega (arith, is.0, c.idle_first-first.ensures.value), omega (arith, is.1, c.idle_first-first.ensures.value, c.requires.page)))
    c.write_page.ensures.within

pub returns-clause-edges : goal.returns-clause-edges
returns-clause-edges g c =
    let image = (g.D.Device.past_of c.write_page.new.device).disk.content in
    subst (λ f. OnOk c.write_page.result (HasEdges Two (page_bytes image f c.args.page))) c.idle_first-first.ensures.value c.write_page.ensures.edges

pub returns-clause-written : goal.returns-clause-written
returns-clause-written g c =
    let image = (g.D.Device.past_of c.write_page.new.device).disk.content in
    subst (λ f. OnOk c.write_page.result ((slot : ℕ) (o : Option Row) → slice_get c.args.rows.now slot ≡ Some o → IsRow (row_bytes image f c.args.page slot) o))
    c.idle_first-first.ensures.value c.write_page.ensures.written

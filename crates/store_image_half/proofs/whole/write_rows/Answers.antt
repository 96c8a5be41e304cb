use Rattle.std.specs.FinMap.{get}
use Rattle.store_image_half.proofs.Joined.{on_ok_both}
use Rattle.store_image_half.proofs.whole.write_rows.Goals as goal

pub returns-clause-written : goal.returns-clause-written
returns-clause-written g c =
    let page = c.args.page in
    let all = (g.S.CellSource.cells c.args.source.now).rows in
    on_ok_both c.write_page.result
    (λ edges written. record {
      edges = edges;
      slots = λ slot low. written slot (get all (record { page = page; slot = slot })) (c.page-rows.ensures slot low);
    })
    c.write_page.ensures.edges
    c.write_page.ensures.written

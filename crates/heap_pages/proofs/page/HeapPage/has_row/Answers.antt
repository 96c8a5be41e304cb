use Rattle.heap_pages.proofs.Open.{row_told}
use Rattle.heap_pages.proofs.page.HeapPage.has_row.Goals as goal

pub returns : goal.returns
returns c = row_told c.self.inside.slots c.args.self.now c.args.slot c.self.inside.open c.self.view_is c.self.invariant.1 c.has.result c.has.ensures

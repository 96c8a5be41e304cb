use Rattle.heap_pages.proofs.Open.{full_is}
use Rattle.heap_pages.proofs.page.HeapPage.is_full.Goals as goal

pub returns : goal.returns
returns c = full_is c.self.inside.slots c.args.self.now c.self.view_is c.self.invariant.0 c.self.inside.open c.self.inside.open c.self.invariant.1
    c.is_empty.result c.is_empty.ensures

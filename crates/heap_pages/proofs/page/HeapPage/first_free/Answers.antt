use Rattle.heap_pages.proofs.Open.{first_free_is}
use Rattle.heap_pages.proofs.page.HeapPage.first_free.Goals as goal

pub returns : goal.returns
returns c = first_free_is c.self.inside.slots c.args.self.now c.self.view_is c.self.invariant.0 c.self.inside.open c.args.held.now c.self.invariant.1
    c.first_beside.result c.first_beside.ensures.found c.first_beside.ensures.first c.first_beside.ensures.none

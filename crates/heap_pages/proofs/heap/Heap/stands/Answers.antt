use Rattle.heap_pages.proofs.Writes.{rows_inside}
use Rattle.heap_pages.proofs.heap.Heap.stands.Goals as goal

pub returns : goal.returns
returns g c = λ r some. rows_inside c.self.inside.pages.items c.args.self.now r c.self.view_is some

use Rattle.std.proofs.Common.{rules}
use Rattle.heap_pages.proofs.Writes.{rows_inside}
use Rattle.heap_pages.proofs.heap.Heap.pages.Goals as goal

pub returns-clause-rows_inside : goal.returns-clause-rows_inside
returns-clause-rows_inside g c = λ r some. rows_inside c.self.inside.pages.items c.args.self.now r c.self.view_is some

pub returns-clause-number : goal.returns-clause-number
returns-clause-number g c = search rules

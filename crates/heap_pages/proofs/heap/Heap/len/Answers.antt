use Rattle.std.proofs.Common.{ap, ◌∙◌}
use Rattle.std.specs.FinMap.{len}
use Rattle.heap_pages.specs.Pages.{HeapValue}
use Rattle.heap_pages.proofs.heap.Heap.len.Goals as goal

pub returns : goal.returns
returns g c = c.self.invariant.3 ∙ ap (λ (h : HeapValue). len h.rows) c.self.view_is

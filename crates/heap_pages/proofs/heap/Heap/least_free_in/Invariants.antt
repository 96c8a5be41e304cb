use Rattle.heap_pages.specs.Pages.{IsNoneFree}
use Rattle.heap_pages.proofs.heap.Heap.least_free_in.Given as goal

abbrev pub invariant-loop-page : goal.invariant-loop-page
invariant-loop-page g l = IsNoneFree l.self l.held l.page

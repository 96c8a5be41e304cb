use Rattle.std.proofs.Common.{◌≡◌, map, take}
use Rattle.heap_pages.specs.Slots.{slots_of}
use Rattle.heap_pages.specs.Pages.{page_entries, row_pair}
use Rattle.heap_pages.proofs.heap.Heap.page_pairs.Given as goal

abbrev pub invariant-loop-slot : goal.invariant-loop-slot
invariant-loop-slot g l = l.pairs.items ≡ map row_pair (page_entries l.page 0 (take l.slot (slots_of l.slots)))

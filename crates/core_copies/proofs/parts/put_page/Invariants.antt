use Rattle.nsf_core.specs.Value.{value_of}
use Rattle.model.specs.Extended.{table_of}
use Rattle.core_copies.proofs.Paged.{ArePutTo}
use Rattle.core_copies.proofs.parts.put_page.Given as goal

abbrev pub invariant-loop-slot : goal.invariant-loop-slot
invariant-loop-slot g l = ArePutTo (value_of l.core).heap.rows l.page l.slot (table_of l.initial.rows.items) (table_of l.rows.items)

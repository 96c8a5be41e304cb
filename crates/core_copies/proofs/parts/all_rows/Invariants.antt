use Rattle.nsf_core.specs.Value.{value_of}
use Rattle.model.specs.Extended.{table_of}
use Rattle.core_copies.proofs.Paged.{AreRowsTo}
use Rattle.core_copies.proofs.parts.all_rows.Given as goal

abbrev pub invariant-loop-page : goal.invariant-loop-page
invariant-loop-page g l = AreRowsTo (value_of l.core).heap.rows l.page (table_of l.listed.items)

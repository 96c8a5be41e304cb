use Rattle.std.proofs.Common.{drop}
use Rattle.std.specs.Prelude.{T}
use Rattle.std.specs.FinMap as map
use Rattle.record_values.specs.Orders.{rid_cmp}
use Rattle.nsf_core.specs.Value.{value_of}
use Rattle.core_copies.proofs.Loading.{AreRowsLoaded}
use Rattle.core_copies.proofs.loaded_core.load_rows.Given as goal

abbrev pub invariant-loop-entry : goal.invariant-loop-entry
invariant-loop-entry g l = record {
  sorted : T (map.is_sorted rid_cmp (drop l.entry-index l.entry-items));
  loaded : AreRowsLoaded l.fn.rows (map.from_sorted (drop l.entry-index l.entry-items)) (value_of l.fn.core) (value_of l.core);
}

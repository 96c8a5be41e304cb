use Rattle.std.proofs.Common.{length}
use Rattle.std.specs.Prelude.{T}
use Rattle.std.specs.FinMap as map
use Rattle.record_values.specs.Orders.{pair_cmp}
use Rattle.nsf_core.specs.Value.{value_of}
use Rattle.core_copies.proofs.Loading.{AreEntriesLoaded}
use Rattle.core_copies.proofs.loaded_core.load_entries.Given as goal

abbrev pub invariant-loop-pair : goal.invariant-loop-pair
invariant-loop-pair g l = record {
  sorted : T (map.is_sorted pair_cmp l.rest);
  loaded : AreEntriesLoaded l.entries (map.from_sorted l.rest) (value_of l.fn.core) (value_of l.core);
}

abbrev pub decreases-loop-pair : goal.decreases-loop-pair
decreases-loop-pair g l = length l.rest

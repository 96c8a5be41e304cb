use Rattle.std.proofs.Common.{None}
use Rattle.btree_node.specs.Runs.{IsRunAbove}
use Rattle.nsf_core.specs.Value.{value_of}
use Rattle.model.specs.Extended.{index_of}
use Rattle.core_copies.proofs.Copied.{AreUpTo}
use Rattle.core_parts.proofs.Walked.{left_above}
use Rattle.core_copies.proofs.parts.all_entries.Given as goal

abbrev pub invariant-loop-entry : goal.invariant-loop-entry
invariant-loop-entry g l = record {
  copied : AreUpTo (value_of l.core).index.entries None l.last (index_of l.listed.items);
  run : IsRunAbove (value_of l.core).index.entries l.last l.run;
}

abbrev pub decreases-loop-entry : goal.decreases-loop-entry
decreases-loop-entry g l = left_above (value_of l.core).index.entries l.last

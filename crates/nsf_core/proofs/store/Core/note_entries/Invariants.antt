use Rattle.btree_node.specs.Runs.{IsRunAbove}
use Rattle.core_parts.specs.Opening.{MayStand}
use Rattle.core_parts.proofs.Walked.{AreChecked, left_above}
use Rattle.nsf_core.specs.Opening.{AreNoted}
use Rattle.nsf_core.specs.Value.{value_of}
use Rattle.nsf_core.proofs.store.Core.note_entries.Given as goal

abbrev pub invariant-loop-entry : goal.invariant-loop-entry
invariant-loop-entry g l = record {
  noted : AreNoted (value_of l.self) l.noted;
  checked : AreChecked (value_of l.self).index.entries (MayStand (value_of l.self)) l.last;
  run : IsRunAbove (value_of l.self).index.entries l.last l.run;
}

abbrev pub decreases-loop-entry : goal.decreases-loop-entry
decreases-loop-entry g l = left_above (value_of l.self).index.entries l.last

use Rattle.std.proofs.Common.{length, ◌-◌, ◌≤◌}
use Rattle.btree_node.specs.Runs.{IsRunAbove}
use Rattle.store_image_model.specs.declared.chunk.TheConstants.{CHUNK_ENTRIES}
use Rattle.nsf_core.specs.Value.{value_of}
use Rattle.core_copies.proofs.Chunks.{AreCopied}
use Rattle.core_copies.proofs.parts.next_entries.Given as goal

abbrev pub invariant-loop-run : goal.invariant-loop-run
invariant-loop-run g l = record {
  copied : AreCopied (value_of l.core).index.entries l.fn.above l.last l.entries.items;
  most : length l.entries.items ≤ CHUNK_ENTRIES;
  run : IsRunAbove (value_of l.core).index.entries l.last l.run;
}

abbrev pub decreases-loop-run : goal.decreases-loop-run
decreases-loop-run g l = CHUNK_ENTRIES - length l.entries.items

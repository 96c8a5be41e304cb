use Rattle.std.proofs.Common.{◌≡◌, ℕ, ◌||◌, false, length, slice_index_or}
use Rattle.block_device.specs.Blocks.{is_in_run}
use Rattle.block_device.proofs.runs.mark_run.Given as goal

abbrev pub invariant-loop-i : goal.invariant-loop-i
invariant-loop-i l = record {
  marks : (n : ℕ) → slice_index_or l.marks n false ≡ (is_in_run l.first l.i n || slice_index_or l.initial.marks n false);
  size : length l.marks ≡ length l.initial.marks;
}

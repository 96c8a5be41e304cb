use Rattle.std.proofs.Common.{◌≡◌, true}
use Rattle.block_batch.specs.Batch.{do_fit}
use Rattle.block_batch.proofs.reading.blocks_fit.Given as goal

abbrev pub invariant-loop-i : goal.invariant-loop-i
invariant-loop-i l = do_fit l.area l.i ≡ true

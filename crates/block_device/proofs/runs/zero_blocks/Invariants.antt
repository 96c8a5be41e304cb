use Rattle.std.proofs.Common.{◌≡◌, replicate}
use Rattle.block_device.specs.Blocks.{zero_block}
use Rattle.block_device.proofs.runs.zero_blocks.Given as goal

abbrev pub invariant-loop : goal.invariant-loop
invariant-loop g l = l.image.items ≡ replicate l.counter zero_block

use Rattle.std.proofs.Common.{◌≡◌, length}
use Rattle.block_host.specs.FileBlocks.{file_of}
use Rattle.block_host.proofs.mirror.load.Given as goal

abbrev pub invariant-loop-k : goal.invariant-loop-k
invariant-loop-k g l =
    (length (file_of l.held).content ≡ l.blocks)
    × (length l.buffer ≡ 16)
    × (l.blocks ≡ length (file_of l.initial.held).content)

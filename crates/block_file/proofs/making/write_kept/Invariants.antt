use Rattle.std.proofs.Common.{◌≡◌, ℕ, ◌+◌, ◌<◌, length}
use Rattle.block_device.specs.Blocks.{CrashFile, block}
use Rattle.block_device.specs.BlocksPast.{BlocksPast, RunsWithin}
use Rattle.block_file.specs.Making.{IsBehind, IsNewBlock}
use Rattle.block_file.proofs.making.write_kept.Given as goal

abbrev pub invariant-loop-k : goal.invariant-loop-k
invariant-loop-k g l =
    let h = g.B.Blocks.past_of in
    record {
      kept : (j : ℕ) → j < l.k → IsNewBlock l.table j (block (h l.below).file.content (l.first + j));
      size : length (h l.below).file.content ≡ length (h l.initial.below).file.content;
      within : (image : CrashFile) (start : BlocksPast) → RunsWithin IsBehind image start (h l.initial.below) → RunsWithin IsBehind image start (h l.below);
      back : g.B.Blocks.written_back l.below ≡ g.B.Blocks.written_back l.initial.below;
      quiet : g.B.Blocks.failures l.below ≡ g.B.Blocks.failures l.initial.below;
    }

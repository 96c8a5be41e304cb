use Rattle.std.proofs.Common.{◌≡◌, ℕ, ◌<◌, ◌≤◌, true, false}
use Rattle.block_journal.specs.Journal.{OnlyReads}
use Rattle.block_journal.specs.Value.{failures_of}
use Rattle.block_table.specs.Table.{IsFit}
use Rattle.block_table.specs.Checked.{kept_table}
use Rattle.block_table.proofs.checked.CheckedBlocks.check.Given as goal

abbrev pub invariant-loop-n : goal.invariant-loop-n
invariant-loop-n g l =
    let h = g.B.Blocks.past_of in
    record {
      fits : (m : ℕ) → l.from ≤ m → m < l.n → IsFit l.initial.self.blocks (kept_table h l.initial.self) m;
      rest : l.self ≡ record l.initial.self {
        journal = record l.initial.self.journal { below = l.self.journal.below; refused = l.self.journal.refused };
      };
      reads : OnlyReads (h l.initial.self.journal.below) (h l.self.journal.below);
      back : g.B.Blocks.written_back l.self.journal.below ≡ g.B.Blocks.written_back l.initial.self.journal.below;
      sound : l.from < l.n → l.initial.self.journal.has_failed ≡ false;
      alone : l.initial.self.journal.has_failed ≡ true → l.self.journal.below ≡ l.initial.self.journal.below;
      still : g.B.Blocks.failures l.self.journal.below ≡ g.B.Blocks.failures l.initial.self.journal.below;
      quiet : failures_of g.B.Blocks.failures l.self.journal ≡ failures_of g.B.Blocks.failures l.initial.self.journal;
    }

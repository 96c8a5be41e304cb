use Rattle.std.proofs.Common.{◌≡◌, length}
use Rattle.block_journal.specs.Journal.{OnlyReads}
use Rattle.block_journal.specs.Value.{content_of}
use Rattle.block_table.specs.Rows.{AreNumbers}
use Rattle.block_table.proofs.rows.read_rows.Given as goal

abbrev pub invariant-loop-t : goal.invariant-loop-t
invariant-loop-t g l =
    let h = g.B.Blocks.past_of in
    record {
      numbers : AreNumbers (content_of h l.initial.journal) l.rows.items l.t;
      count : length l.rows.items ≡ l.t;
      rest : l.journal ≡ record l.initial.journal { below = l.journal.below };
      reads : OnlyReads (h l.initial.journal.below) (h l.journal.below);
      back : g.B.Blocks.written_back l.journal.below ≡ g.B.Blocks.written_back l.initial.journal.below;
      quiet : g.B.Blocks.failures l.journal.below ≡ g.B.Blocks.failures l.initial.journal.below;
    }

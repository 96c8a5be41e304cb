use Rattle.block_journal.proofs.Crash.{crash_of_commit}
use Rattle.block_journal.proofs.laws.at_any_moment.Goals as goal

pub returns : goal.returns
returns c = λ g image settled last next offered old new stands known within. record {
  later = within.run.later;
  kept = within.run.kept;
  each = λ t left from to crash honest.
      crash_of_commit g image left settled last next offered stands known (within.run.each t left from to crash) honest;
}

use Rattle.block_journal.proofs.Crash.{crash_of_commit}
use Rattle.block_journal.proofs.laws.crash_of_commit.Goals as goal

pub returns : goal.returns
returns c = λ g image left settled last next offered stands known agrees honest.
    crash_of_commit g image left settled last next offered stands known agrees honest

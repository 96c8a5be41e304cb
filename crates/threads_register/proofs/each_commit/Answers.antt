use Rattle.threads_register.proofs.Commits.{begins, commits, stays}
use Rattle.threads_register.proofs.each_commit.Goals as goal

pub returns-clause-begins : goal.returns-clause-begins
returns-clause-begins c = begins

pub returns-clause-commits : goal.returns-clause-commits
returns-clause-commits c = commits

pub returns-clause-stays : goal.returns-clause-stays
returns-clause-stays c = stays

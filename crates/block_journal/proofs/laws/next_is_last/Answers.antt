use Rattle.block_journal.proofs.Next.{now_offered, now_known, now_committed}
use Rattle.block_journal.proofs.laws.next_is_last.Goals as goal

pub returns-clause-offered : goal.returns-clause-offered
returns-clause-offered c = λ offered last next settled known follows. now_offered offered last next settled known follows

pub returns-clause-known : goal.returns-clause-known
returns-clause-known c = λ offered last next settled known follows there. now_known offered last next settled known follows there

pub returns-clause-committed : goal.returns-clause-committed
returns-clause-committed c = now_committed

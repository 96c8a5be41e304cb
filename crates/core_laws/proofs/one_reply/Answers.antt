use Rattle.core_laws.proofs.Deciding.{memory_granted, memory_wanted, reply_one}
use Rattle.core_laws.proofs.one_reply.Goals as goal

pub returns-clause-one : goal.returns-clause-one
returns-clause-one c = reply_one

pub returns-clause-memory : goal.returns-clause-memory
returns-clause-memory c = memory_wanted

pub returns-clause-granted : goal.returns-clause-granted
returns-clause-granted c = memory_granted

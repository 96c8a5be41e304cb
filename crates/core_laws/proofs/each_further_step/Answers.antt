use Rattle.core_laws.proofs.Further.{fewer_owed, none_owed, two_owed}
use Rattle.core_laws.proofs.each_further_step.Goals as goal

pub returns-clause-fewer : goal.returns-clause-fewer
returns-clause-fewer c = fewer_owed

pub returns-clause-none : goal.returns-clause-none
returns-clause-none c = none_owed

pub returns-clause-two : goal.returns-clause-two
returns-clause-two c = two_owed

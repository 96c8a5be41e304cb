use Rattle.core_model.proofs.Served.{served_nothing, served_allowed, served_faithful, served_recovers, served_crashed, served_numbers}
use Rattle.core_model.proofs.service.each_service.Goals as goal

pub returns-clause-begins : goal.returns-clause-begins
returns-clause-begins c = served_nothing

pub returns-clause-goes_on : goal.returns-clause-goes_on
returns-clause-goes_on c = served_allowed

pub returns-clause-faithful : goal.returns-clause-faithful
returns-clause-faithful c = served_faithful

pub returns-clause-recovers : goal.returns-clause-recovers
returns-clause-recovers c = served_recovers

pub returns-clause-crashed : goal.returns-clause-crashed
returns-clause-crashed c = served_crashed

pub returns-clause-numbers : goal.returns-clause-numbers
returns-clause-numbers c = served_numbers

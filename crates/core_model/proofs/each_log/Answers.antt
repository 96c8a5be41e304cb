use Rattle.core_model.proofs.Followed.{made_nothing, made_more, made_holds, made_cells, made_recovers}
use Rattle.core_model.proofs.each_log.Goals as goal

pub returns-clause-begins : goal.returns-clause-begins
returns-clause-begins c = made_nothing

pub returns-clause-goes_on : goal.returns-clause-goes_on
returns-clause-goes_on c = made_more

pub returns-clause-holds : goal.returns-clause-holds
returns-clause-holds c = made_holds

pub returns-clause-cells : goal.returns-clause-cells
returns-clause-cells c = made_cells

pub returns-clause-recovers : goal.returns-clause-recovers
returns-clause-recovers c = made_recovers

use Rattle.core_model.proofs.Followed.{log_begins, log_goes_on}
use Rattle.core_model.proofs.each_half.Goals as goal

pub returns-clause-begins : goal.returns-clause-begins
returns-clause-begins c = log_begins

pub returns-clause-goes_on : goal.returns-clause-goes_on
returns-clause-goes_on c = log_goes_on

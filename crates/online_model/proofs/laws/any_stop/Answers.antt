use Rattle.online_model.proofs.Copies.{copy_redone}
use Rattle.online_model.proofs.Keeps.{created_keeps, reopen_keeps, run_keeps}
use Rattle.online_model.proofs.Logs.{run_redone}
use Rattle.online_model.proofs.laws.any_stop.Goals as goal

pub returns-clause-redone : goal.returns-clause-redone
returns-clause-redone c b w es run = run_redone b w es run

pub returns-clause-goes_on : goal.returns-clause-goes_on
returns-clause-goes_on c b w es begun run = reopen_keeps w (run_keeps b w es run (created_keeps b begun))

pub returns-clause-copied : goal.returns-clause-copied
returns-clause-copied c b w es run copied is = copy_redone b w es run copied is

use Rattle.threads_register.proofs.Steps.{commit, delete, end, insert, next, undo, update}
use Rattle.threads_register.proofs.each_agreement_of_a_transaction.Goals as goal

pub returns-clause-insert : goal.returns-clause-insert
returns-clause-insert c = insert

pub returns-clause-delete : goal.returns-clause-delete
returns-clause-delete c = delete

pub returns-clause-update : goal.returns-clause-update
returns-clause-update c = update

pub returns-clause-next_step : goal.returns-clause-next_step
returns-clause-next_step c = next

pub returns-clause-undo_step : goal.returns-clause-undo_step
returns-clause-undo_step c = undo

pub returns-clause-end : goal.returns-clause-end
returns-clause-end c = end

pub returns-clause-commit : goal.returns-clause-commit
returns-clause-commit c = commit

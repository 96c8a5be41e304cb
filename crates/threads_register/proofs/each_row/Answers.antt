use Rattle.threads_register.proofs.Reading.{delete_reads, insert_reads, step_reads, update_reads}
use Rattle.threads_register.proofs.each_row.Goals as goal

pub returns-clause-insert : goal.returns-clause-insert
returns-clause-insert c = insert_reads

pub returns-clause-delete : goal.returns-clause-delete
returns-clause-delete c = delete_reads

pub returns-clause-update : goal.returns-clause-update
returns-clause-update c = update_reads

pub returns-clause-next_step : goal.returns-clause-next_step
returns-clause-next_step c = step_reads

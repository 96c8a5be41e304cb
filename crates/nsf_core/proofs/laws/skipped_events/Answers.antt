use Rattle.nsf_core.proofs.Skipping.{skips_commit, skips_delete, skips_end, skips_insert, skips_step, skips_update}
use Rattle.nsf_core.proofs.laws.skipped_events.Goals as goal

pub returns-clause-insert : goal.returns-clause-insert
returns-clause-insert c = skips_insert

pub returns-clause-delete : goal.returns-clause-delete
returns-clause-delete c = skips_delete

pub returns-clause-update : goal.returns-clause-update
returns-clause-update c = skips_update

pub returns-clause-commit : goal.returns-clause-commit
returns-clause-commit c = skips_commit

pub returns-clause-step : goal.returns-clause-step
returns-clause-step c = skips_step

pub returns-clause-end : goal.returns-clause-end
returns-clause-end c = skips_end

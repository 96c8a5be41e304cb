use Rattle.store_writer.proofs.Given.{longer_run, next}
use Rattle.store_writer.proofs.laws.longer_run.Goals as goal

pub returns-clause-run : goal.returns-clause-run
returns-clause-run c = longer_run

pub returns-clause-next : goal.returns-clause-next
returns-clause-next c = next

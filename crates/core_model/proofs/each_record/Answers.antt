use Rattle.core_model.proofs.Records.{step_follows, record_rows}
use Rattle.core_model.proofs.each_record.Goals as goal

pub returns-clause-cells : goal.returns-clause-cells
returns-clause-cells c = step_follows

pub returns-clause-rows : goal.returns-clause-rows
returns-clause-rows c = record_rows

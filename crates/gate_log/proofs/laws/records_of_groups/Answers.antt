use Rattle.gate_log.proofs.Readings.{records_of-append, records_of_one_more}
use Rattle.gate_log.proofs.laws.records_of_groups.Goals as goal

pub returns-clause-more : goal.returns-clause-more
returns-clause-more c = records_of-append

pub returns-clause-one_more : goal.returns-clause-one_more
returns-clause-one_more c = records_of_one_more

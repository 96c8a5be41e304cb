use Rattle.nsf_core.proofs.Steps.{next_record, start_record, undone_record}
use Rattle.nsf_core.proofs.laws.each_change.Goals as goal

pub returns-clause-first : goal.returns-clause-first
returns-clause-first c = start_record

pub returns-clause-next : goal.returns-clause-next
returns-clause-next c = next_record

pub returns-clause-undo : goal.returns-clause-undo
returns-clause-undo c = undone_record

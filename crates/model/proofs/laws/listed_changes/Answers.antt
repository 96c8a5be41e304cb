use Rattle.model.proofs.CellsLaws.{noted_first, noted_again, taken_off_last}
use Rattle.model.proofs.laws.listed_changes.Goals as goal

pub returns-clause-first : goal.returns-clause-first
returns-clause-first c = noted_first

pub returns-clause-again : goal.returns-clause-again
returns-clause-again c = noted_again

pub returns-clause-last : goal.returns-clause-last
returns-clause-last c = taken_off_last

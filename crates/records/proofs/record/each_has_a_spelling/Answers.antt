use Rattle.records.proofs.Spellings.{spelling_least, spelling_most}
use Rattle.records.proofs.record.each_has_a_spelling.Goals as goal

pub returns-clause-least : goal.returns-clause-least
returns-clause-least c = spelling_least

pub returns-clause-most : goal.returns-clause-most
returns-clause-most c = spelling_most

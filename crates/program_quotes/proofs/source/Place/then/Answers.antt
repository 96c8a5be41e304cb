use Rattle.std.proofs.Common.{rules}
use Rattle.program_quotes.proofs.source.Place.then.Goals as goal

pub returns-in-InField : goal.returns-in-InField
returns-in-InField c = search rules

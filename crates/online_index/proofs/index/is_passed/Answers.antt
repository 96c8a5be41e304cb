use Rattle.std.proofs.Common.{rules}
use Rattle.online_index.proofs.index.is_passed.Goals as goal

pub returns-in-Building-Some : goal.returns-in-Building-Some
returns-in-Building-Some c = search rules

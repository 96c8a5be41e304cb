use Rattle.std.proofs.Common.{rules}
use Rattle.core_parts.proofs.parts.CoreParts.may_drop.Goals as goal

pub returns-clause-quiet : goal.returns-clause-quiet
returns-clause-quiet g c = search rules

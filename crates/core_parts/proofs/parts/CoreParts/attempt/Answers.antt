use Rattle.std.proofs.Common.{rules}
use Rattle.core_parts.proofs.parts.CoreParts.attempt.Goals as goal

pub returns-clause-attempted : goal.returns-clause-attempted
returns-clause-attempted c = search rules

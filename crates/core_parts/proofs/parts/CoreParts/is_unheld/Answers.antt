use Rattle.std.proofs.Common.{rules}
use Rattle.core_parts.proofs.parts.CoreParts.is_unheld.Goals as goal

pub returns : goal.returns
returns g c = search rules

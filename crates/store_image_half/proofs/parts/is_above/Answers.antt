use Rattle.std.proofs.Common.{rules}
use Rattle.store_image_half.proofs.parts.is_above.Goals as goal

pub returns-in-Some : goal.returns-in-Some
returns-in-Some c = search rules

use Rattle.std.proofs.Common.{rules}
use Rattle.store_image_half.proofs.parts.is_inside.Goals as goal

pub returns-in-Building-Some : goal.returns-in-Building-Some
returns-in-Building-Some c = search rules

use Rattle.std.proofs.Common.{rules}
use Rattle.flip_image.proofs.half.Half.other.Goals as goal

pub returns-in-A : goal.returns-in-A
returns-in-A c = search rules

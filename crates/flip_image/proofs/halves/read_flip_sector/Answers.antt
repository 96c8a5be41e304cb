use Rattle.std.proofs.Common.{rules}
use Rattle.flip_image.proofs.halves.read_flip_sector.Goals as goal

pub returns-then-is_marked-clause-found : goal.returns-then-is_marked-clause-found
returns-then-is_marked-clause-found g c = search rules

use Rattle.std.proofs.Common.{rules}
use Rattle.flip_image.proofs.halves.Halves.read_image.Goals as goal

pub returns-clause-read : goal.returns-clause-read
returns-clause-read g c = search rules

pub returns-clause-refused : goal.returns-clause-refused
returns-clause-refused g c = search rules

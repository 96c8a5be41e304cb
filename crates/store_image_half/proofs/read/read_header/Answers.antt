use Rattle.std.proofs.Common.{rules}
use Rattle.store_image_half.proofs.read.read_header.Goals as goal

pub returns-clause-no_memory : goal.returns-clause-no_memory
returns-clause-no_memory g c = search rules

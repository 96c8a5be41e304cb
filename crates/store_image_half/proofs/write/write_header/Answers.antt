use Rattle.std.proofs.Common.{rules}
use Rattle.store_image_half.proofs.write.write_header.Goals as goal

pub returns-clause-written : goal.returns-clause-written
returns-clause-written g c = search rules

use Rattle.std.proofs.Common.{refl}
use Rattle.store_image_parts.proofs.Bytes.{empty}
use Rattle.store_image_parts.specs.Spelling.{zeros}
use Rattle.store_image_parts.proofs.buffer.Buffer.new.Goals as goal

pub invariant_of-result : goal.invariant_of-result
unfolding zeros
invariant_of-result g c = empty g.row.N _ refl

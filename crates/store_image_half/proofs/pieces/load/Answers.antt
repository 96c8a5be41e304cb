use Rattle.std.proofs.Common.{rules}
use Rattle.store_image_half.proofs.pieces.load.Goals as goal

pub returns-then-is_err-clause-told : goal.returns-then-is_err-clause-told
returns-then-is_err-clause-told g c = search rules

use Rattle.std.proofs.Common.{rules}
use Rattle.store_image_parts.proofs.head.spell_head.Goals as goal

pub returns-clause-spelled : goal.returns-clause-spelled
returns-clause-spelled c = search rules

use Rattle.std.proofs.Common.{rules}
use Rattle.store_image_parts.proofs.entry.mark_byte.Goals as goal

pub returns-in-Marked : goal.returns-in-Marked
returns-in-Marked c = search rules

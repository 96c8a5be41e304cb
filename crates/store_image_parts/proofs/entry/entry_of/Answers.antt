use Rattle.std.proofs.Common.{rules}
use Rattle.store_image_parts.specs.Reading.{entry_at}
use Rattle.store_image_parts.proofs.entry.entry_of.Goals as goal

pub returns-in-1 : goal.returns-in-1
unfolding entry_at
returns-in-1 c = search rules

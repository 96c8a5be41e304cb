use Rattle.std.proofs.Common.{◌∙◌}
use Rattle.std.specs.FinMap.{len-entries}
use Rattle.store_image_half.proofs.source.CellMapsCellSource.entry_count.Goals as goal

pub returns : goal.returns
returns g c = c.len.ensures ∙ len-entries c.args.self.now.entries

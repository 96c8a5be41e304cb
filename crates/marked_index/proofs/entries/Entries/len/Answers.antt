use Rattle.std.proofs.Common.{ap, ◌∙◌}
use Rattle.std.specs.FinMap as map
use Rattle.marked_index.proofs.entries.Entries.len.Goals as goal

pub returns : goal.returns
returns g c = c.len.ensures.len ∙ ap map.len c.self.view_is

use Rattle.std.proofs.Common.{ap, ◌∙◌}
use Rattle.marked_index.specs.Counts.{marked_in}
use Rattle.marked_index.proofs.entries.Entries.marked.Goals as goal

pub returns : goal.returns
returns g c = c.self.invariant.number ∙ ap marked_in c.self.view_is

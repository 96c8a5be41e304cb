use Rattle.std.proofs.Common.{ap, arith, ◌∙◌}
use Rattle.marked_index.specs.Counts.{marked_in}
use Rattle.marked_index.specs.Index.{IndexValue}
use Rattle.marked_index.proofs.Counted.{each_counted}
use Rattle.marked_index.proofs.index.MarkedIndex.marked.Goals as goal

pub returns-clause-number : goal.returns-clause-number
returns-clause-number g c = c.marked.ensures ∙ ap (λ (v : IndexValue). marked_in v.entries) c.self.view_is

pub returns-clause-live : goal.returns-clause-live
returns-clause-live g c = omega (arith, each_counted c.args.self.now.entries, returns-clause-number g c)

use Rattle.std.proofs.Common.{ap, ◌∙◌}
use Rattle.std.specs.FinMap.{get}
use Rattle.core_laws.specs.Holds.{committed_rows}
use Rattle.core_parts.specs.View.{CoreValue}
use Rattle.shared.proofs.committed.row_of.Goals as goal

pub returns : goal.returns
returns g c = c.get_committed.ensures ∙ ap (λ (core : CoreValue). get (committed_rows core) c.args.rid) c.core.ensures

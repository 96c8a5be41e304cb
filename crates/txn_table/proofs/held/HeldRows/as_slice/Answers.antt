use Rattle.std.proofs.Common.{◌∙◌}
use Rattle.txn_table.proofs.held.HeldRows.as_slice.Goals as goal

pub returns : goal.returns
returns g c = c.as_slice.ensures.value ∙ c.self.view_is

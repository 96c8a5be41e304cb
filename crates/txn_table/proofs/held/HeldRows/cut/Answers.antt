use Rattle.std.proofs.Common.{take, ap, ◌∙◌}
use Rattle.txn_table.proofs.held.HeldRows.cut.Goals as goal

pub returns : goal.returns
returns g c = c.truncate.ensures.items ∙ ap (take c.args.len) c.self.view_is

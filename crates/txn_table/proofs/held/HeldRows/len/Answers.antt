use Rattle.std.proofs.Common.{length, ap, ◌∙◌}
use Rattle.txn_table.proofs.held.HeldRows.len.Goals as goal

pub returns : goal.returns
returns g c = c.len.ensures ∙ c.self.inside.rows.ok.0 ∙ ap length c.self.view_is

use Rattle.std.proofs.Common.{is_some, subst, sym, ap, ◌∙◌}
use Rattle.txn_table.specs.Table.{TableValue, holder_of}
use Rattle.txn_table.specs.Held.{AreHeldBefore}
use Rattle.txn_table.proofs.HeldRows.{below_as_held, nobody, not_before}
use Rattle.txn_table.proofs.table.TxnTable.are_held_before.Goals as goal

pub returns-clause-before : goal.returns-clause-before
returns-clause-before g c =
    let r = c.args.rid in
    let as_held = below_as_held r c.self.inside.held c.self.inside.active.entries c.self.invariant.held_rows in
    let before = λ (v : TableValue). AreHeldBefore r v.active in (
      λ is. subst before c.self.view_is (as_held.0 (c.are_before.ensures.0 is)),
      λ held. c.are_before.ensures.1 (as_held.1 (subst before (sym c.self.view_is) held)),
    )

pub returns-clause-unheld : goal.returns-clause-unheld
returns-clause-unheld g c = λ is.
    let r = c.args.rid in
    let listed = sym (c.self.invariant.held_rows r ∙ ap (λ (v : TableValue). is_some (holder_of r v.active)) c.self.view_is) in
    nobody (holder_of r c.args.self.now.active) (listed ∙ not_before r c.self.inside.held (c.are_before.ensures.0 is))

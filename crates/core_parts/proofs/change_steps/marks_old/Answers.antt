use Rattle.std.proofs.Common.{None, Some, ap, rules, sym, ◌∙◌, ◌≡◌}
use Rattle.records.specs.ChangeValue.{ChangeValue}
use Rattle.records.specs.Spelling.{old_row}
use Rattle.records.specs.declared.record.Part.TheVariants.{OldEntry}
use Rattle.records.specs.declared.record.TxnAction.TheVariants.{Forward}
use Rattle.record_values.specs.declared.pair.Mark.TheVariants.{Marked}
use Rattle.core_parts.proofs.Ordered.{moves_no_row, moves_none, moves_row}
use Rattle.core_parts.proofs.change_steps.marks_old.Goals as goal

pub returns-then-not-has_old_entry : goal.returns-then-not-has_old_entry
returns-then-not-has_old_entry c = moves_none _ (sym c.if-not-has_old_entry.true ∙ c.has_old_entry.ensures.marked)

pub returns-in_err-row : goal.returns-in_err-row
returns-in_err-row c =
    let change = c.args.change.now in
    let gone : c.from_residual.result ≡ None = search rules in
    gone ∙ moves_no_row c.args.indexed change Marked (Forward OldEntry change) (old_row change.rows)
    (sym (c.in_err-row.ensures ∙ ap (λ (w : ChangeValue). old_row w.rows) c.change.view_is))

pub returns : goal.returns
returns c =
    let change = c.args.change.now in
    (λ i. Some (c.pair_of.ensures i, c.forward_action.ensures i))
    ∙ moves_row c.args.indexed change Marked (Forward OldEntry change) (old_row change.rows) c.in_ok-row.row
    (sym (c.in_ok-row.ensures ∙ ap (λ (w : ChangeValue). old_row w.rows) c.change.view_is))
    (sym c.if-not-has_old_entry.false ∙ c.has_old_entry.ensures.marked)

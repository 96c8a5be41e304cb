use Rattle.std.proofs.Common.{None, Some, ap, rules, sym, ◌∙◌, ◌≡◌}
use Rattle.records.specs.ChangeValue.{ChangeValue}
use Rattle.records.specs.Spelling.{new_row}
use Rattle.records.specs.declared.record.Part.TheVariants.{NewEntry}
use Rattle.records.specs.declared.record.TxnAction.TheVariants.{Forward}
use Rattle.record_values.specs.declared.pair.Mark.TheVariants.{Live}
use Rattle.core_parts.proofs.Ordered.{moves_no_row, moves_none, moves_row}
use Rattle.core_parts.proofs.change_steps.puts_new.Goals as goal

pub returns-then-not-has_new_entry : goal.returns-then-not-has_new_entry
returns-then-not-has_new_entry c = moves_none _ (sym c.if-not-has_new_entry.true ∙ c.has_new_entry.ensures.put)

pub returns-in_err-row : goal.returns-in_err-row
returns-in_err-row c =
    let change = c.args.change.now in
    let gone : c.from_residual.result ≡ None = search rules in
    gone ∙ moves_no_row c.args.indexed change Live (Forward NewEntry change) (new_row change.rows)
    (sym (c.in_err-row.ensures ∙ ap (λ (w : ChangeValue). new_row w.rows) c.change.view_is))

pub returns : goal.returns
returns c =
    let change = c.args.change.now in
    (λ i. Some (c.pair_of.ensures i, c.forward_action.ensures i))
    ∙ moves_row c.args.indexed change Live (Forward NewEntry change) (new_row change.rows) c.in_ok-row.row
    (sym (c.in_ok-row.ensures ∙ ap (λ (w : ChangeValue). new_row w.rows) c.change.view_is))
    (sym c.if-not-has_new_entry.false ∙ c.has_new_entry.ensures.put)

use Rattle.std.proofs.Common.{ap, arith, refl, subst, sym, ◌+◌, ◌<◌, ◌∙◌, ◌≡◌, ◌≤◌}
use Rattle.std.specs.Prelude.{OnOk, is_some, not}
use Rattle.std.proofs.Math.Bridge.{le_prop}
use Rattle.std.proofs.Math.Logic.{∥∥₁_elim}
use Rattle.records.specs.ChangeValue.{ChangeValue}
use Rattle.records.specs.Spelling.{old_row}
use Rattle.model.specs.Pairs.{is_indexed}
use Rattle.txn_table.specs.declared.progress.Progress.TheVariants.{Rolling, UndoesEntry}
use Rattle.records.specs.declared.record.Part.TheVariants.{Slot}
use Rattle.records.specs.declared.record.TxnAction.TheVariants.{Undo}
use Rattle.core_steps.specs.Steps.{marks_old}
use Rattle.core_parts.specs.View.{CoreValue}
use Rattle.core_parts.specs.Parts.{parts_of}
use Rattle.core_parts.proofs.Next.{newest_inside}
use Rattle.core_parts.proofs.Pairs.{old_missing, old_there}
use Rattle.core_parts.proofs.Stepped.{row_as, taken_off_behind}
use Rattle.core_parts.proofs.parts.CoreParts.restore_row.Goals as goal

pub set_row-requires-clause-inside : goal.set_row-requires-clause-inside
set_row-requires-clause-inside g c =
    let v : CoreValue = parts_of c.args.self.now in
    let inside : c.args.change.rid.page + 1 ≤ v.heap.pages = ∥∥₁_elim c.requires.safe le_prop (newest_inside v c.args.txn c.args.change c.requires.newest) in
    let less : c.args.change.rid.page < v.heap.pages = omega (arith, inside) in
    subst (λ (w : ChangeValue). w.rid.page < v.heap.pages) (sym c.change.view_is) less

pub set_row-requires-2-clause-inside : goal.set_row-requires-2-clause-inside
set_row-requires-2-clause-inside g c =
    let v : CoreValue = parts_of c.args.self.now in
    let inside : c.args.change.rid.page + 1 ≤ v.heap.pages = ∥∥₁_elim c.requires.safe le_prop (newest_inside v c.args.txn c.args.change c.requires.newest) in
    let less : c.args.change.rid.page < v.heap.pages = omega (arith, inside) in
    subst (λ (w : ChangeValue). w.rid.page < v.heap.pages) (sym c.change.view_is) less

pub returns-then-has_old_entry-clause-ok : goal.returns-then-has_old_entry-clause-ok
returns-then-has_old_entry-clause-ok g c =
    let some = old_there (is_indexed c.args.self.now.life) c.args.change (sym c.if-has_old_entry.true ∙ c.has_old_entry.ensures.marked
    ∙ ap (λ b. is_some (marks_old b c.args.change)) c.indexed-indexed.ensures) in
    let v : CoreValue = parts_of c.args.self.now in
    let same = row_as v c.args.txn {f = UndoesEntry} refl
    (ap (λ (w : ChangeValue). w.rid) c.change.view_is)
    (c.old-row.ensures ∙ ap (λ (w : ChangeValue). old_row w.rows) c.change.view_is)
    (c.sets_old-action.ensures ∙ ap (Undo Slot c.args.change) (ap not (sym c.has_old_entry.ensures.put ∙ c.if-has_old_entry.true)))
    in
    rw some.1 (subst (λ w. OnOk c.set_row.result (parts_of c.set_row.new.self ≡ w)) same c.set_row.ensures.ok)

pub returns-clause-ok : goal.returns-clause-ok
returns-clause-ok g c =
    let none = old_missing (is_indexed c.args.self.now.life) c.args.change (sym c.if-has_old_entry.false ∙ c.has_old_entry.ensures.marked
    ∙ ap (λ b. is_some (marks_old b c.args.change)) c.indexed-indexed.ensures) in
    let v : CoreValue = parts_of c.args.self.now in
    let same = row_as v c.args.txn {f = Rolling} refl
    (ap (λ (w : ChangeValue). w.rid) c.change.view_is)
    (c.old-row.ensures ∙ ap (λ (w : ChangeValue). old_row w.rows) c.change.view_is)
    (c.sets_old-action.ensures ∙ ap (Undo Slot c.args.change) (ap not (sym c.has_old_entry.ensures.put ∙ c.if-has_old_entry.false)))
    in
    rw none (taken_off_behind (parts_of c.set_row-2.new.self) _ c.args.txn c.pop_undo.new.self c.pop_undo.ensures.rest (c.in_ok-set_row.ensures.ok
    ∙ same))

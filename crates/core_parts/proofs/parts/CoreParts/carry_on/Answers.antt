use Rattle.std.proofs.Common.{ap, arith, subst, sym, ◌+◌, ◌<◌, ◌∙◌, ◌≤◌}
use Rattle.records.specs.ChangeValue.{ChangeValue}
use Rattle.core_parts.specs.View.{CoreValue}
use Rattle.std.proofs.Math.Bridge.{le_prop}
use Rattle.std.proofs.Math.Logic.{∥∥₁_elim}
use Rattle.std.proofs.lemmas.Result.{err_from_is_err_and}
use mathlib.Core.HLevel.{⊥_prop}
use Rattle.std.specs.Prelude.{option_and_then}
use Rattle.records.specs.Spelling.{new_row}
use Rattle.model.specs.Pairs.{is_indexed, new_pair}
use Rattle.core_steps.specs.Steps.{puts_new}
use Rattle.core_parts.specs.Private.{entry_in, row_progress}
use Rattle.core_parts.specs.Parts.{parts_of}
use Rattle.core_parts.proofs.Next.{entry_carried, entry_enough, newest_inside, next_wants, no_entry, row_carried}
use Rattle.core_parts.proofs.Pairs.{new_none, new_some}
use Rattle.core_parts.proofs.Stepped.{row_as}
use Rattle.core_parts.proofs.parts.CoreParts.carry_on.Goals as goal

pub returns-in_err-set_row-in-Some-OwesRow : goal.returns-in_err-set_row-in-Some-OwesRow
returns-in_err-set_row-in-Some-OwesRow g c =
    let p = err_from_is_err_and c.from_residual.result c.from_residual.ensures.1 in
    rw (p.1, p.2) (next_wants (parts_of c.args.self.now) c.args.txn c.requires.asked c.requires.has _ _ c.in_err-set_row-in-Some-OwesRow.ensures.no_memory
    c.in_err-set_row-in-Some-OwesRow.ensures.unchanged)

pub unreachable-requires : goal.unreachable-requires
unreachable-requires g c =
    let none = new_none (is_indexed c.args.self.now.life) c.args.change (sym c.in_default-puts_new.is
    ∙ (c.puts_new.ensures ∙ ap (λ b. option_and_then entry_in (puts_new b c.args.change)) c.indexed-indexed.ensures)) in
    ∥∥₁_elim c.requires.safe ⊥_prop
    (no_entry (parts_of c.args.self.now) c.args.txn c.args.change c.requires.newest _ c.in-Some-OwesEntry.ensures c.in-Some-OwesEntry.field-0-is none)

pub set_entry-requires-clause-places : goal.set_entry-requires-clause-places
set_entry-requires-clause-places g c =
    let some = new_some (is_indexed c.args.self.now.life) c.args.change c.in-Some.put (sym c.in-Some.is
    ∙ (c.puts_new.ensures ∙ ap (λ b. option_and_then entry_in (puts_new b c.args.change)) c.indexed-indexed.ensures)) in
    ∥∥₁_elim c.requires.safe le_prop (entry_enough (parts_of c.args.self.now) c.args.txn c.args.change c.requires.newest c.in-Some.put.0 some.0)

pub returns-in_err-set_entry-in-Some-OwesEntry : goal.returns-in_err-set_entry-in-Some-OwesEntry
returns-in_err-set_entry-in-Some-OwesEntry g c =
    let p = err_from_is_err_and c.from_residual-in_err-set_entry-in-Some-OwesEntry.result c.from_residual-in_err-set_entry-in-Some-OwesEntry.ensures.1 in
    rw (p.1, p.2) (next_wants (parts_of c.args.self.now) c.args.txn c.requires.asked c.requires.has _ _ c.in_err-set_entry-in-Some-OwesEntry.ensures.no_memory
    c.in_err-set_entry-in-Some-OwesEntry.ensures.unchanged)

pub returns-in_ok-set_row-in-Some-OwesRow : goal.returns-in_ok-set_row-in-Some-OwesRow
returns-in_ok-set_row-in-Some-OwesRow g c =
    let v : CoreValue = parts_of c.args.self.now in
    let same = row_as v c.args.txn
    (c.progress_after_row-progress.ensures ∙ ap (λ b. row_progress (new_pair b c.args.change)) c.indexed-indexed.ensures)
    (ap (λ (w : ChangeValue). w.rid) c.change.view_is)
    (c.new.ensures ∙ ap (λ (w : ChangeValue). new_row w.rows) c.change.view_is)
    c.sets_new-action.ensures
    in
    row_carried v c.args.txn c.args.change c.requires.newest _ c.in-Some-OwesRow.ensures c.requires.asked c.requires.has c.in-Some-OwesRow.field-0-is _
    (c.in_ok-set_row-in-Some-OwesRow.ensures.ok ∙ same)

pub returns-in_ok-set_entry-in-Some-OwesEntry : goal.returns-in_ok-set_entry-in-Some-OwesEntry
returns-in_ok-set_entry-in-Some-OwesEntry g c =
    let some = new_some (is_indexed c.args.self.now.life) c.args.change c.in-Some.put (sym c.in-Some.is
    ∙ (c.puts_new.ensures ∙ ap (λ b. option_and_then entry_in (puts_new b c.args.change)) c.indexed-indexed.ensures)) in
    entry_carried (parts_of c.args.self.now) c.args.txn c.args.change c.requires.newest _ c.in-Some-OwesEntry.ensures c.requires.asked c.requires.has
    c.in-Some-OwesEntry.field-0-is c.in-Some.put some.0 some.1 _ c.in_ok-set_entry-in-Some-OwesEntry.ensures.ok

pub set_row-requires-clause-inside : goal.set_row-requires-clause-inside
set_row-requires-clause-inside g c =
    let v : CoreValue = parts_of c.args.self.now in
    let inside : c.args.change.rid.page + 1 ≤ v.heap.pages = ∥∥₁_elim c.requires.safe le_prop (newest_inside v c.args.txn c.args.change c.requires.newest) in
    let less : c.args.change.rid.page < v.heap.pages = omega (arith, inside) in
    subst (λ (w : ChangeValue). w.rid.page < v.heap.pages) (sym c.change.view_is) less

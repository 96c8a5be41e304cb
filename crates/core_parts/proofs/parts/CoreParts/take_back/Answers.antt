use Rattle.std.proofs.Common.{sym, ◌∙◌}
use Rattle.std.proofs.Math.Logic.{∥∥₁_elim}
use Rattle.std.proofs.lemmas.Result.{err_from_is_err_and}
use mathlib.Core.HLevel.{⊥_prop}
use Rattle.core_parts.specs.Parts.{parts_of}
use Rattle.core_parts.proofs.Undoing.{begun_back, entry_back, entry_moved_back, has_progress, row_back, undo_wants}
use Rattle.core_parts.proofs.parts.CoreParts.take_back.Goals as goal

pub unreachable-requires : goal.unreachable-requires
unreachable-requires g c = has_progress _ c.requires.has.active (sym c.progress.ensures ∙ c.in_default.is)

pub restore_entry-requires-clause-moved : goal.restore_entry-requires-clause-moved
restore_entry-requires-clause-moved g c none =
    ∥∥₁_elim c.requires.safe ⊥_prop (λ safe. entry_moved_back
    (parts_of c.args.self.now) c.args.txn c.args.change c.requires.newest c.requires.has _ c.in-Some.ensures (sym c.part_to_undo.ensures
    ∙ c.in-OldEntry.is) safe none)

pub returns-in_err-begin_undo-in-NewEntry : goal.returns-in_err-begin_undo-in-NewEntry
returns-in_err-begin_undo-in-NewEntry g c =
    let p = err_from_is_err_and c.from_residual.result c.from_residual.ensures.1 in
    rw (p.1, p.2) (undo_wants (parts_of c.args.self.now) c.args.txn c.args.change c.requires.newest c.requires.has _ _
    c.in_err-begin_undo-in-NewEntry.ensures.no_memory c.in_err-begin_undo-in-NewEntry.ensures.unchanged)

pub returns-in_err-restore_row-in-Slot : goal.returns-in_err-restore_row-in-Slot
returns-in_err-restore_row-in-Slot g c =
    let p = err_from_is_err_and c.from_residual-in_err-restore_row-in-Slot.result c.from_residual-in_err-restore_row-in-Slot.ensures.1 in
    rw (p.1, p.2) (undo_wants (parts_of c.args.self.now) c.args.txn c.args.change c.requires.newest c.requires.has _ _
    c.in_err-restore_row-in-Slot.ensures.no_memory c.in_err-restore_row-in-Slot.ensures.unchanged)

pub returns-in_err-restore_entry-in-OldEntry : goal.returns-in_err-restore_entry-in-OldEntry
returns-in_err-restore_entry-in-OldEntry g c =
    let p = err_from_is_err_and c.from_residual-in_err-restore_entry-in-OldEntry.result c.from_residual-in_err-restore_entry-in-OldEntry.ensures.1 in
    rw (p.1, p.2) (undo_wants (parts_of c.args.self.now) c.args.txn c.args.change c.requires.newest c.requires.has _ _
    c.in_err-restore_entry-in-OldEntry.ensures.no_memory c.in_err-restore_entry-in-OldEntry.ensures.unchanged)

pub returns-in_ok-begin_undo-in-NewEntry : goal.returns-in_ok-begin_undo-in-NewEntry
returns-in_ok-begin_undo-in-NewEntry g c =
    begun_back (parts_of c.args.self.now) c.args.txn c.args.change c.requires.newest c.requires.has _ c.in-Some.ensures (sym c.part_to_undo.ensures
    ∙ c.in-NewEntry.is) _ c.in_ok-begin_undo-in-NewEntry.ensures.ok

pub returns-in_ok-restore_row-in-Slot : goal.returns-in_ok-restore_row-in-Slot
returns-in_ok-restore_row-in-Slot g c =
    row_back (parts_of c.args.self.now) c.args.txn c.args.change c.requires.newest c.requires.has _ c.in-Some.ensures (sym c.part_to_undo.ensures
    ∙ c.in-Slot.is) _ c.in_ok-restore_row-in-Slot.ensures.ok

pub returns-in_ok-restore_entry-in-OldEntry : goal.returns-in_ok-restore_entry-in-OldEntry
returns-in_ok-restore_entry-in-OldEntry g c =
    entry_back (parts_of c.args.self.now) c.args.txn c.args.change c.requires.newest c.requires.has _ c.in-Some.ensures (sym c.part_to_undo.ensures
    ∙ c.in-OldEntry.is) _ c.in_ok-restore_entry-in-OldEntry.ensures.ok

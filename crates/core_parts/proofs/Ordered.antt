-- The entries that a change moves, and the first step of its undo.
use Rattle.std.proofs.Common.{Bool, None, Option, Some, ap, cond, false, not, refl, sym, true, ◌&&◌, ◌++◌, ◌∙◌, ◌∷◌, ◌≡◌}
use Rattle.std.specs.Prelude.{is_none, is_some, option_and_then, slice_get}
use Rattle.records.specs.ChangeValue.{ChangeValue}
use Rattle.records.specs.Spelling.{new_row}
use Rattle.record_values.specs.declared.pair.Mark.{Mark}
use Rattle.record_values.specs.declared.pair.Mark.TheVariants.{Marked}
use Rattle.record_values.specs.declared.pair.Pair.{Pair}
use Rattle.record_values.specs.declared.row.Row.{Row}
use Rattle.records.specs.declared.record.Part.TheVariants.{NewEntry}
use Rattle.records.specs.declared.record.TxnAction.{TxnAction}
use Rattle.records.specs.declared.record.TxnAction.TheVariants.{Undo}
use Rattle.core_steps.specs.Keys.{keeps_key, moved_pair}
use Rattle.core_steps.specs.Steps.{entry_step, marks_new, puts_old, sets_old, some_step, undo_steps}
use Rattle.core_steps.specs.declared.step.Step.{Step}
use Rattle.core_parts.specs.Private.{entry_in}

-- ---- of an entry, a row and another entry, of which the entries may be left out
module _ (row : Step) (mark : Mark) (action : TxnAction) where
  entry_at_0 : (o : Option Pair) (last : Option Step) → entry_in row ≡ None
      → option_and_then entry_in (slice_get (some_step (entry_step o mark action) ++ row ∷ some_step last) 0)
      ≡ option_and_then entry_in (entry_step o mark action)
  entry_at_0 None last e = e
  entry_at_0 (Some p) last e = refl

-- ---- of an undo
module _ (b : Bool) (c : ChangeValue) where
  abbrev row_back : Step
  row_back = sets_old c (is_none (puts_old b c))

  pub first_back : option_and_then entry_in (slice_get (undo_steps b c) 0) ≡ option_and_then entry_in (marks_new b c)
  first_back = entry_at_0 row_back Marked (Undo NewEntry c false) (moved_pair b c (new_row c.rows)) (puts_old b c) refl

-- ---- an entry that a change moves
pub moves_none : (o : Option Step) → false ≡ is_some o → None ≡ option_and_then entry_in o
moves_none None e = refl
moves_none (Some s) e = absurd cc

module _ (b : Bool) (c : ChangeValue) (mark : Mark) (action : TxnAction) where
  pub moves_no_row : (o : Option Row) → o ≡ None → None ≡ option_and_then entry_in (entry_step (moved_pair b c o) mark action)
  moves_no_row o none = sym (ap (λ o. option_and_then entry_in (entry_step (moved_pair b c o) mark action)) none)

  by_pair : (t : Bool) (p : Pair) → true ≡ is_some (entry_step (cond t (Some p) None) mark action)
      → Some (p, action) ≡ option_and_then entry_in (entry_step (cond t (Some p) None) mark action)
  by_pair true p e = refl
  by_pair false p e = absurd cc

  abbrev pub pair_here : Row → Pair
  pair_here row = record { key = row.key; rid = c.rid }

  pub moves_row : (o : Option Row) (row : Row) → o ≡ Some row → true ≡ is_some (entry_step (moved_pair b c o) mark action)
      → Some (pair_here row, action) ≡ option_and_then entry_in (entry_step (moved_pair b c o) mark action)
  moves_row o row is moved =
      by_pair (b && not (keeps_key c.rows)) (pair_here row)
      (moved ∙ ap (λ o. is_some (entry_step (moved_pair b c o) mark action)) is)
      ∙ sym (ap (λ o. option_and_then entry_in (entry_step (moved_pair b c o) mark action)) is)

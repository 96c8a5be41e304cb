-- Each step of a transaction, for itself and for the others.
use Rattle.std.proofs.Common.{◌≡◌, ◌≢◌, ◌⊎◌, ℕ, Bool, true, false, cond, Option, Some, None, inl, inr, refl, sym, ap, ◌∙◌, subst}
use Rattle.std.specs.Cmp.{nat_cmp_total}
use Rattle.std.specs.FinMap.{get, nat_cmp-IsAntisymmetric}
use Rattle.std.specs.Ordering.{eq_by_cmp, nat_cmp}
use Rattle.records.specs.ChangeValue.{ChangeValue}
use Rattle.record_values.specs.Maps.{get-set_at_other, key_is, nat_exact, rid_exact, set_at}
use Rattle.record_values.specs.Orders.{rid_cmp, rid_cmp-IsAntisymmetric, rid_cmp_total}
use Rattle.record_values.specs.Values.{Place}
use Rattle.record_values.specs.declared.pair.Pair.{Pair}
use Rattle.record_values.specs.declared.row.Row.{Row}
use Rattle.model.specs.Table.{Table}
use Rattle.model.specs.declared.write.Write.{Write}
use Rattle.core_model.proofs.Laws.{rid_decided, txn_apart, txn_here, update_apart, update_here}
use Rattle.core_model.specs.Changes.{Changes, Unchanged, new_pair, old_pair, ◌▹◌}
use Rattle.core_model.specs.Histories.{write_of}
use Rattle.core_model.specs.Invariants.{Invariant, IsHolderOf, IsWellFormed}
use Rattle.core_model.specs.States.{Active, Made, NewMarked, OldMarked, OldSet, Phase, RowSet, State}
use Rattle.core_model.specs.Steps.{Begin, CanStart, Next, Start, Undo, after, carried_on, freed, is_indexed, left, new_txn, row_made, row_undone, started}
use Rattle.core_model.specs.Steps.{txn_at, undoing, undone, undone_first, update, with_change, with_phase, without_newest}
use Rattle.core_parts.specs.View.{CoreValue}
use Rattle.threads_sessions.specs.Steps.{row_now, rows_now}
use Rattle.threads_sessions.specs.Values.{ActiveValue, new_active, with_write}
use Rattle.threads_register.proofs.Seen.{held_neither, held_others, seen_again, seen_changed, seen_new}
use Rattle.threads_register.specs.Agreement.{Agree, IsSeen, is_owed, newest_write, owed_write, row_held}

agree_at : (s : State) (t : ℕ) (a : ActiveValue) (y : Active) (o : Option Active) → o ≡ Some y → IsSeen s t a y → Agree s t (Some a) o
agree_at s t a y o is h = subst (Agree s t (Some a)) (sym is) h

-- a row of the transaction is nothing to another
row_elsewhere : (s : State) (t u : ℕ) (r : Place) (row : Option Row) → s.holder r ≡ Some t → u ≢ t → (q : Place)
    → row_held u (s.holder q) (get (set_at s.rows r row) q) ≡ row_held u (s.holder q) (get s.rows q)
row_elsewhere s t u r row holds apart q = elim (rid_decided q r) [
  | inl is ↦
      let mine : s.holder q ≡ Some t = ap s.holder is ∙ holds in
      held_neither u t (s.holder q) (get (set_at s.rows r row) q) (get s.rows q) apart (inr mine)
      ∙ sym (held_neither u t (s.holder q) (get s.rows q) (get s.rows q) apart (inr mine))
  | inr not ↦ ap (row_held u (s.holder q)) (get-set_at_other rid_exact s.rows r row q not)
]

-- ---- a transaction begins

module _ (s : State) (holds : Invariant s) (t : ℕ) (none : s.txns t ≡ None) where
  free : (q : Place) → s.holder q ≢ Some t
  free q e = not_both (sym none ∙ (holds.coherent.held q t e).active)
    where
      not_both : {x : Active} → None ≡ Some x → ⊥
      not_both both = absurd cc

  pub begin_own : Agree (after s (Begin t)) t (Some (new_active t)) ((after s (Begin t)).txns t)
  begin_own = agree_at (after s (Begin t)) t (new_active t) new_txn ((after s (Begin t)).txns t) (txn_here s t new_txn)
      (seen_new (after s (Begin t)) t new_txn free refl refl)

-- ---- the first step of a change

module _ (s : State) (t : ℕ) (c : ChangeValue) (can : CanStart s t c) where
  abbrev x : Active
  x = txn_at s t

  started_txn : (o : Option Pair) → (y : Active) × ((started s t x c o).txns t ≡ Some y) × (y.changes ≡ x.changes ▹ c) × (y.rolling ≡ x.rolling)
  started_txn None = let y : Active = with_change x c (row_made (new_pair (is_indexed s.life) c)) in (y, txn_here s t y, refl, refl)
  started_txn (Some p) = let y : Active = with_change x c OldMarked in (y, txn_here s t y, refl, refl)

  started_apart : (o : Option Pair) (u : ℕ) → u ≢ t → (started s t x c o).txns u ≡ s.txns u
  started_apart None u apart = txn_apart s t (with_change x c (row_made (new_pair (is_indexed s.life) c))) u apart
  started_apart (Some p) u apart = txn_apart s t (with_change x c OldMarked) u apart

  started_holder : (o : Option Pair) (q : Place) → (started s t x c o).holder q ≡ update rid_cmp s.holder c.rid (Some t) q
  started_holder None q = refl
  started_holder (Some p) q = refl

  started_rows : (o : Option Pair) (q : Place) → q ≢ c.rid → get (started s t x c o).rows q ≡ get s.rows q
  started_rows None q apart = get-set_at_other rid_exact s.rows c.rid _ q apart
  started_rows (Some p) q apart = refl

  abbrev then : State
  then = after s (Start t c)

  abbrev pair : Option Pair
  pair = old_pair (is_indexed s.life) c

  held_now : then.holder c.rid ≡ Some t
  held_now = started_holder pair c.rid ∙ update_here rid_cmp_total s.holder c.rid (Some t)

  holder_apart : (q : Place) → q ≢ c.rid → then.holder q ≡ s.holder q
  holder_apart q apart = started_holder pair q ∙ update_apart rid_cmp-IsAntisymmetric s.holder c.rid (Some t) q apart

  same_apart : (u : ℕ) (q : Place) → q ≢ c.rid → row_held u (then.holder q) (get then.rows q) ≡ row_held u (s.holder q) (get s.rows q)
  same_apart u q apart = λ i. row_held u (holder_apart q apart i) (started_rows pair q apart i)

  pub start_apart : (u : ℕ) → u ≢ t → then.txns u ≡ s.txns u
  start_apart = started_apart pair

  pub start_others : (u : ℕ) → u ≢ t → (q : Place) → row_held u (then.holder q) (get then.rows q) ≡ row_held u (s.holder q) (get s.rows q)
  start_others u apart q = elim (rid_decided q c.rid) [
    | inl is ↦
        held_neither u t (then.holder q) (get then.rows q) (get then.rows q) apart (inr (ap then.holder is ∙ held_now))
        ∙ sym (held_neither u t (s.holder q) (get s.rows q) (get s.rows q) apart
        (subst (λ (o : Option ℕ). (o ≡ None) ⊎ (o ≡ Some t)) (ap s.holder (sym is)) can.mine))
    | inr not ↦ same_apart u q not
  ]

  pub start_own : (core : CoreValue) → then.rows ≡ core.heap.rows → (a : ActiveValue) → IsSeen s t a x → (change : Option Write)
      → ((y : Active) → then.txns t ≡ Some y → change ≡ cond (is_owed y.phase y.rolling) (Some (write_of c)) None)
      → Agree then t (Some (record a { rows = with_write (row_now core c.rid) a.rows; unfinished = change })) (then.txns t)
  start_own core rows a h change owes =
      let y = started_txn pair in
      agree_at then t (record a { rows = with_write (row_now core c.rid) a.rows; unfinished = change }) y.0 (then.txns t) y.1
      (seen_changed s then t a x y.0 (row_now core c.rid) change h held_now (ap (λ (m : Table). get m c.rid) (sym rows)) (λ q apart. same_apart t q apart)
      (owes y.0 y.1 ∙ ap (λ (cs : Changes). cond (is_owed y.0.phase y.0.rolling) (newest_write cs) None) (sym y.2)) y.3)

-- ---- the step that is owed

module _ (s : State) (t : ℕ) (fit : IsWellFormed s) (active : s.txns t ≡ Some (txn_at s t)) where
  abbrev it : Active
  it = txn_at s t

  names : IsHolderOf s.holder t it.changes
  names = (fit.txns t it active).names

  carried_txn : (cs : Changes) (phase : Phase) → (y : Active) × ((carried_on s t it cs phase).txns t ≡ Some y) × (y.changes ≡ it.changes)
      × (y.rolling ≡ it.rolling)
  carried_txn Unchanged phase = (it, active, refl, refl)
  carried_txn (older ▹ c) OldMarked = let y : Active = with_phase it (row_made (new_pair (is_indexed s.life) c)) in (y, txn_here s t y, refl, refl)
  carried_txn (older ▹ c) RowSet = let y : Active = with_phase it Made in (y, txn_here s t y, refl, refl)
  carried_txn (older ▹ c) Made = (it, active, refl, refl)
  carried_txn (older ▹ c) (NewMarked applied) = (it, active, refl, refl)
  carried_txn (older ▹ c) OldSet = (it, active, refl, refl)

  carried_apart : (cs : Changes) (phase : Phase) (u : ℕ) → u ≢ t → (carried_on s t it cs phase).txns u ≡ s.txns u
  carried_apart Unchanged phase u apart = refl
  carried_apart (older ▹ c) OldMarked u apart = txn_apart s t (with_phase it (row_made (new_pair (is_indexed s.life) c))) u apart
  carried_apart (older ▹ c) RowSet u apart = txn_apart s t (with_phase it Made) u apart
  carried_apart (older ▹ c) Made u apart = refl
  carried_apart (older ▹ c) (NewMarked applied) u apart = refl
  carried_apart (older ▹ c) OldSet u apart = refl

  carried_holder : (cs : Changes) (phase : Phase) (q : Place) → (carried_on s t it cs phase).holder q ≡ s.holder q
  carried_holder Unchanged phase q = refl
  carried_holder (older ▹ c) OldMarked q = refl
  carried_holder (older ▹ c) RowSet q = refl
  carried_holder (older ▹ c) Made q = refl
  carried_holder (older ▹ c) (NewMarked applied) q = refl
  carried_holder (older ▹ c) OldSet q = refl

  carried_others : (cs : Changes) (phase : Phase) → IsHolderOf s.holder t cs → (u : ℕ) → u ≢ t → (q : Place)
      → row_held u ((carried_on s t it cs phase).holder q) (get (carried_on s t it cs phase).rows q) ≡ row_held u (s.holder q) (get s.rows q)
  carried_others Unchanged phase holds u apart q = refl
  carried_others (older ▹ c) OldMarked holds u apart q = row_elsewhere s t u c.rid _ holds.0 apart q
  carried_others (older ▹ c) RowSet holds u apart q = refl
  carried_others (older ▹ c) Made holds u apart q = refl
  carried_others (older ▹ c) (NewMarked applied) holds u apart q = refl
  carried_others (older ▹ c) OldSet holds u apart q = refl

  abbrev next : State
  next = after s (Next t)

  pub next_apart : (u : ℕ) → u ≢ t → next.txns u ≡ s.txns u
  next_apart = carried_apart it.changes it.phase

  pub next_others : (u : ℕ) → u ≢ t → (q : Place) → row_held u (next.holder q) (get next.rows q) ≡ row_held u (s.holder q) (get s.rows q)
  next_others = carried_others it.changes it.phase names

  pub next_own : (core : CoreValue) → next.rows ≡ core.heap.rows → (a : ActiveValue) → IsSeen s t a it → (change : Option Write)
      → ((y : Active) → next.txns t ≡ Some y → y.changes ≡ it.changes → change ≡ owed_write y)
      → Agree next t (Some (record a { rows = rows_now core a.rows; unfinished = change })) (next.txns t)
  next_own core rows a h change owes =
      let y = carried_txn it.changes it.phase in
      agree_at next t (record a { rows = rows_now core a.rows; unfinished = change }) y.0 (next.txns t) y.1
      (seen_again s next core t a it y.0 change a.rolling h rows (carried_holder it.changes it.phase) (owes y.0 y.1 y.2) (h.rolling ∙ sym y.3))

  -- ---- a step back

  abbrev row_gone : Changes → Option Pair → Active
  row_gone older o = row_undone it older o

  gone_rolls : (older : Changes) (o : Option Pair) → (row_gone older o).rolling ≡ true
  gone_rolls older None = refl
  gone_rolls older (Some p) = refl

  first_txn : (c : ChangeValue) (older : Changes) (applied : Bool) (o : Option Pair) → (y : Active) × ((undone_first s t it c older applied o).txns t ≡ Some y)
      × (y.rolling ≡ true)
  first_txn c older applied (Some p) = let y : Active = undoing it (NewMarked applied) in (y, txn_here s t y, refl)
  first_txn c older applied None = let y : Active = row_gone older (old_pair (is_indexed s.life) c) in
      (y, txn_here s t y, gone_rolls older (old_pair (is_indexed s.life) c))

  undone_txn : (cs : Changes) (phase : Phase) → (y : Active) × ((undone s t it cs phase).txns t ≡ Some y) × (y.rolling ≡ true)
  undone_txn Unchanged phase = let y : Active = undoing it phase in (y, txn_here s t y, refl)
  undone_txn (older ▹ c) OldMarked = first_txn c older false (new_pair (is_indexed s.life) c)
  undone_txn (older ▹ c) RowSet = first_txn c older true (new_pair (is_indexed s.life) c)
  undone_txn (older ▹ c) Made = first_txn c older true (new_pair (is_indexed s.life) c)
  undone_txn (older ▹ c) (NewMarked applied) = let y : Active = row_gone older (old_pair (is_indexed s.life) c) in
      (y, txn_here s t y, gone_rolls older (old_pair (is_indexed s.life) c))
  undone_txn (older ▹ c) OldSet = let y : Active = without_newest older in (y, txn_here s t y, refl)

  first_apart : (c : ChangeValue) (older : Changes) (applied : Bool) (o : Option Pair) (u : ℕ) → u ≢ t
      → (undone_first s t it c older applied o).txns u ≡ s.txns u
  first_apart c older applied (Some p) u apart = txn_apart s t (undoing it (NewMarked applied)) u apart
  first_apart c older applied None u apart = txn_apart s t (row_gone older (old_pair (is_indexed s.life) c)) u apart

  undone_apart : (cs : Changes) (phase : Phase) (u : ℕ) → u ≢ t → (undone s t it cs phase).txns u ≡ s.txns u
  undone_apart Unchanged phase u apart = txn_apart s t (undoing it phase) u apart
  undone_apart (older ▹ c) OldMarked u apart = first_apart c older false (new_pair (is_indexed s.life) c) u apart
  undone_apart (older ▹ c) RowSet u apart = first_apart c older true (new_pair (is_indexed s.life) c) u apart
  undone_apart (older ▹ c) Made u apart = first_apart c older true (new_pair (is_indexed s.life) c) u apart
  undone_apart (older ▹ c) (NewMarked applied) u apart = txn_apart s t (row_gone older (old_pair (is_indexed s.life) c)) u apart
  undone_apart (older ▹ c) OldSet u apart = txn_apart s t (without_newest older) u apart

  first_holder : (c : ChangeValue) (older : Changes) (applied : Bool) (o : Option Pair) (q : Place)
      → (undone_first s t it c older applied o).holder q ≡ s.holder q
  first_holder c older applied (Some p) q = refl
  first_holder c older applied None q = refl

  undone_holder : (cs : Changes) (phase : Phase) (q : Place) → (undone s t it cs phase).holder q ≡ s.holder q
  undone_holder Unchanged phase q = refl
  undone_holder (older ▹ c) OldMarked q = first_holder c older false (new_pair (is_indexed s.life) c) q
  undone_holder (older ▹ c) RowSet q = first_holder c older true (new_pair (is_indexed s.life) c) q
  undone_holder (older ▹ c) Made q = first_holder c older true (new_pair (is_indexed s.life) c) q
  undone_holder (older ▹ c) (NewMarked applied) q = refl
  undone_holder (older ▹ c) OldSet q = refl

  first_others : (c : ChangeValue) (older : Changes) (applied : Bool) (o : Option Pair) → s.holder c.rid ≡ Some t → (u : ℕ) → u ≢ t → (q : Place)
      → row_held u ((undone_first s t it c older applied o).holder q) (get (undone_first s t it c older applied o).rows q)
      ≡ row_held u (s.holder q) (get s.rows q)
  first_others c older applied (Some p) holds u apart q = refl
  first_others c older applied None holds u apart q = row_elsewhere s t u c.rid _ holds apart q

  undone_others : (cs : Changes) (phase : Phase) → IsHolderOf s.holder t cs → (u : ℕ) → u ≢ t → (q : Place)
      → row_held u ((undone s t it cs phase).holder q) (get (undone s t it cs phase).rows q) ≡ row_held u (s.holder q) (get s.rows q)
  undone_others Unchanged phase holds u apart q = refl
  undone_others (older ▹ c) OldMarked holds u apart q = first_others c older false (new_pair (is_indexed s.life) c) holds.0 u apart q
  undone_others (older ▹ c) RowSet holds u apart q = first_others c older true (new_pair (is_indexed s.life) c) holds.0 u apart q
  undone_others (older ▹ c) Made holds u apart q = first_others c older true (new_pair (is_indexed s.life) c) holds.0 u apart q
  undone_others (older ▹ c) (NewMarked applied) holds u apart q = row_elsewhere s t u c.rid _ holds.0 apart q
  undone_others (older ▹ c) OldSet holds u apart q = refl

  abbrev back : State
  back = after s (Undo t)

  pub undo_apart : (u : ℕ) → u ≢ t → back.txns u ≡ s.txns u
  undo_apart = undone_apart it.changes it.phase

  pub undo_others : (u : ℕ) → u ≢ t → (q : Place) → row_held u (back.holder q) (get back.rows q) ≡ row_held u (s.holder q) (get s.rows q)
  undo_others = undone_others it.changes it.phase names

  rolls_none : (y : Active) → y.rolling ≡ true → None ≡ owed_write y
  rolls_none y rolls = sym (ap (λ b. cond b (newest_write y.changes) None) (ap (is_owed y.phase) rolls ∙ never y.phase))
    where
      never : (phase : Phase) → is_owed phase true ≡ false
      never OldMarked = refl
      never RowSet = refl
      never Made = refl
      never (NewMarked applied) = refl
      never OldSet = refl

  pub undo_own : (core : CoreValue) → back.rows ≡ core.heap.rows → (a : ActiveValue) → IsSeen s t a it
      → Agree back t (Some (record a { rows = rows_now core a.rows; unfinished = None; rolling = true })) (back.txns t)
  undo_own core rows a h =
      let y = undone_txn it.changes it.phase in
      agree_at back t (record a { rows = rows_now core a.rows; unfinished = None; rolling = true }) y.0 (back.txns t) y.1
      (seen_again s back core t a it y.0 None true h rows (undone_holder it.changes it.phase) (rolls_none y.0 y.2) (sym y.2))

-- ---- a transaction leaves

module _ (s : State) (t : ℕ) (committed : Table) where
  abbrev gone : State
  gone = left s t committed

  freed_others : (u : ℕ) (o : Option ℕ) (row : Option Row) → u ≢ t → row_held u (freed t o) row ≡ row_held u o row
  freed_others u None row apart = refl
  freed_others u (Some v) row apart = by (eq_by_cmp nat_cmp v t) (key_is nat_exact v t)
    where
      by : (b : Bool) → (b ≡ true → v ≡ t) → row_held u (cond b None (Some v)) row ≡ row_held u (Some v) row
      by true same = sym (held_others u v row (λ e. apart (e ∙ same refl)))
      by false same = refl

  pub leave_own : gone.txns t ≡ None
  leave_own = update_here nat_cmp_total s.txns t None

  pub leave_apart : (u : ℕ) → u ≢ t → gone.txns u ≡ s.txns u
  leave_apart u apart = update_apart nat_cmp-IsAntisymmetric s.txns t None u apart

  pub leave_others : (u : ℕ) → u ≢ t → (q : Place) → row_held u (gone.holder q) (get gone.rows q) ≡ row_held u (s.holder q) (get s.rows q)
  leave_others u apart q = freed_others u (s.holder q) (get s.rows q) apart

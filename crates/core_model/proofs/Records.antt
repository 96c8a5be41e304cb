-- Each step sets the cell that its record names, and no other.
use Rattle.std.proofs.Common.{Bool, IsTrue, List, None, Option, Some, [], ap, arith, false, inl, inr, length, refl, subst, sym, take, true, unwrap_or, ℕ, ◌++◌}
use Rattle.std.proofs.Common.{◌+◌, ◌-◌, ◌∙◌, ◌∷◌, ◌≡◌}
use Rattle.std.proofs.Math.Seq.{take-append_seam, take-length}
use Rattle.std.proofs.lemmas.List.{length-append}
use Rattle.std.specs.Cmp.{nat_cmp_total}
use Rattle.std.specs.FinMap.{entries, get, nat_cmp-IsAntisymmetric}
use Rattle.std.specs.Ordering.{nat_cmp}
use Rattle.records.specs.ChangeValue.{ChangeValue}
use Rattle.record_values.specs.Maps.{get-set_at_other, get-set_at_same, nat_exact, pair_exact, set_at, set_at-get}
use Rattle.record_values.specs.Orders.{rid_cmp}
use Rattle.records.specs.RecordValue.{has_new, has_old, has_rows}
use Rattle.records.specs.Spelling.{new_row, old_row}
use Rattle.record_values.specs.Values.{Place}
use Rattle.records.specs.declared.change.Rows.{Rows}
use Rattle.records.specs.declared.change.Rows.TheVariants.{Deleted, Inserted, Updated}
use Rattle.record_values.specs.declared.pair.Mark.{Mark}
use Rattle.record_values.specs.declared.pair.Mark.TheVariants.{Live, Marked}
use Rattle.record_values.specs.declared.pair.Pair.{Pair}
use Rattle.records.specs.declared.record.Action.{Action}
use Rattle.records.specs.declared.record.Part.TheVariants.{Slot}
use Rattle.record_values.specs.declared.row.Row.{Row}
use Rattle.model.specs.Cells.{Cells, Pending, list_of, noted, set_by, taken_off, with_list}
use Rattle.record_values.specs.KeyActions.{after_action}
use Rattle.model.specs.Table.{Table}
use Rattle.record_values.specs.Entries.{Index}
use Rattle.record_values.specs.declared.key_action.KeyAction.TheVariants.{BuildPut}
use Rattle.core_model.specs.Records.{HasCells, IsListOf, action_of, begun_action, first_action, is_last, next_action, place_action, set_by_any, undo}
use Rattle.core_model.specs.Records.{undo_action}
use Rattle.core_model.proofs.Builds.{build_put_some}
use Rattle.core_model.proofs.Frames.{nat_decided}
use Rattle.core_model.proofs.Latest.{Gone, gone_is, not_none}
use Rattle.core_model.proofs.Orders.{update_apart, update_here}
use Rattle.core_model.specs.Changes.{Changes, Unchanged, gone, as_list, new_pair, old_pair, pair_at, ◌▹◌}
use Rattle.core_model.specs.Invariants.{HasPair, IsShaped, IsWellFormed}
use Rattle.core_model.specs.States.{Active, Made, NewMarked, OldMarked, OldSet, Phase, RowSet, State}
use Rattle.core_model.specs.Steps.{Attempt, Begin, Checkpoint, Clean, Commit, Create, Drop, End, Finish, IsEnabled, Keep, Next, Start, MachineStep, Take, Undo}
use Rattle.core_model.specs.Steps.{Wrap, after, carried_on, is_indexed, left, moved_by, new_txn, row_made, row_undone, started, txn_at, undoing, undone}
use Rattle.core_model.specs.Steps.{undone_first, update, with_change, with_entry, with_txn, without_newest}

-- ---- the lists of the log
module _ (older : Changes) (c : ChangeValue) (k : c.position ≡ length (as_list older)) where
  -- the first record of a change puts it on the list
  noted_first : noted (as_list older) c ≡ as_list (older ▹ c)
  noted_first = ap (λ n. take n (as_list older) ++ c ∷ []) k ∙ ap (λ cs. cs ++ c ∷ []) (take-length (as_list older))

  -- a later one leaves it there
  noted_again : noted (as_list (older ▹ c)) c ≡ as_list (older ▹ c)
  noted_again = ap (λ n. take n (as_list older ++ c ∷ []) ++ c ∷ []) k ∙ ap (λ cs. cs ++ c ∷ []) (take-append_seam (as_list older) (c ∷ []))

less_one : (n m : ℕ) → n ≡ m + 1 → n - 1 ≡ m
less_one n m e = omega (arith, e)

-- the last record of an undo takes the newest change off
off_newest : (older : Changes) (c : ChangeValue) → taken_off (as_list (older ▹ c)) true ≡ as_list older
off_newest older c =
    ap (λ n. take n (as_list older ++ c ∷ [])) (less_one _ (length (as_list older)) (length-append (as_list older) (c ∷ [])))
    ∙ take-append_seam (as_list older) (c ∷ [])

pub list_is : (list : Option (List ChangeValue)) (x : Active) → IsListOf list (Some x) → unwrap_or list [] ≡ as_list x.changes
list_is None x h = sym (ap as_list h)
list_is (Some list) x h = h

pub no_list : (list : Option (List ChangeValue)) → IsListOf list None → list ≡ None
no_list None h = refl
no_list (Some list) h = absurd h

module _ (s : State) (pending : Pending) (h : (u : ℕ) → IsListOf (get pending u) (s.txns u)) (t : ℕ) (o : Option Active) where
  -- the list of one transaction is set
  list_set : (list : Option (List ChangeValue)) → IsListOf list o → (u : ℕ) → IsListOf (get (with_list pending t list) u) (update nat_cmp s.txns t o u)
  list_set list e u = elim (nat_decided u t) [
    | inl same ↦
        subst (λ l. IsListOf l (update nat_cmp s.txns t o u)) (sym (ap (get (with_list pending t list)) same ∙ get-set_at_same nat_exact pending t list))
        (subst (IsListOf list) (sym (ap (update nat_cmp s.txns t o) same ∙ update_here nat_cmp_total s.txns t o)) e)
    | inr n ↦
        subst (λ l. IsListOf l (update nat_cmp s.txns t o u)) (sym (get-set_at_other nat_exact pending t list u n))
        (subst (IsListOf (get pending u)) (sym (update_apart nat_cmp-IsAntisymmetric s.txns t o u n)) (h u))
  ]

  -- or stays
  list_stays : IsListOf (get pending t) o → (u : ℕ) → IsListOf (get pending u) (update nat_cmp s.txns t o u)
  list_stays e u = elim (nat_decided u t) [
    | inl same ↦ subst (λ w. IsListOf (get pending w) (update nat_cmp s.txns t o w)) (sym same)
        (subst (IsListOf (get pending t)) (sym (update_here nat_cmp_total s.txns t o)) e)
    | inr n ↦ subst (IsListOf (get pending u)) (sym (update_apart nat_cmp-IsAntisymmetric s.txns t o u n)) (h u)
  ]

-- the pair of a record is that of its row
marked_is : (indexed : Bool) (r : Place) (row other : Option Row) (entries : Index) (mark : Mark) (o : Option Pair) → HasPair o (λ p. Unit {0})
    → gone indexed r row other ≡ o → with_entry entries (pair_at r row) mark ≡ with_entry entries o mark
marked_is indexed r row other entries mark None h e = absurd (not_none h.is refl)
marked_is indexed r row other entries mark (Some p) h e =
    let g : Gone indexed r row p = gone_is indexed r row other p e in
    ap (λ v. with_entry entries (pair_at r v) mark) g.is ∙ ap (λ (q : Pair). set_at entries q (Some mark)) (sym g.pair)

-- who holds a row is in no cell
other_holder : (s : State) (cells : Cells) (holder : Place → Option ℕ) → HasCells s cells → HasCells (record s { holder = holder }) cells
other_holder s cells holder k = record { rows = k.rows; entries = k.entries; pending = k.pending; life = k.life }

module _ (s : State) (cells : Cells) (k : HasCells s cells) (t : ℕ) where
  pending_is : (u : ℕ) → IsListOf (get cells.pending u) (s.txns u)
  pending_is = k.pending

  -- a record that sets the row
  row_cells : (rid : Place) (row : Option Row) (x' : Active) (cs : List ChangeValue) → cs ≡ as_list x'.changes
      → HasCells (record s { rows = set_at s.rows rid row; txns = with_txn s t x' })
      (record { rows = set_at cells.rows rid row; entries = cells.entries; pending = with_list cells.pending t (Some cs); life = cells.life })
  row_cells rid row x' cs e = record {
    rows = ap (λ m. set_at m rid row) k.rows;
    entries = k.entries;
    pending = list_set s cells.pending pending_is t (Some x') (Some cs) e;
    life = k.life;
  }

  -- a record that sets an entry
  entry_cells : (rid : Place) (row other : Option Row) (mark : Mark) (o : Option Pair) → gone (is_indexed s.life) rid row other ≡ o → HasPair o (λ p. Unit {0})
      → (x' : Active) (cs : List ChangeValue) → cs ≡ as_list x'.changes
      → HasCells (record s { entries = with_entry s.entries o mark; txns = with_txn s t x' })
      (record {
        rows = cells.rows;
        entries = with_entry cells.entries (pair_at rid row) mark;
        pending = with_list cells.pending t (Some cs);
        life = cells.life;
      })
  entry_cells rid row other mark o g is x' cs e = record {
    rows = k.rows;
    entries = ap (λ m. with_entry m (pair_at rid row) mark) k.entries ∙ marked_is (is_indexed s.life) rid row other s.entries mark o is g;
    pending = list_set s cells.pending pending_is t (Some x') (Some cs) e;
    life = k.life;
  }

  -- a record that ends the transaction
  gone_cells : (committed : Table)
      → HasCells (left s t committed) (record { rows = cells.rows; entries = cells.entries; pending = with_list cells.pending t None; life = cells.life })
  gone_cells committed = record { rows = k.rows; entries = k.entries; pending = list_set s cells.pending pending_is t None None tt; life = k.life }

  -- no record
  same_cells : (x' : Active) → IsListOf (get cells.pending t) (Some x') → HasCells (record s { txns = with_txn s t x' }) cells
  same_cells x' e = record { rows = k.rows; entries = k.entries; pending = list_stays s cells.pending pending_is t (Some x') e; life = k.life }

  module _ (x : Active) (active : s.txns t ≡ Some x) where
    mine : list_of cells.pending t ≡ as_list x.changes
    mine = list_is (get cells.pending t) x (subst (IsListOf (get cells.pending t)) active (pending_is t))

    first_list : (c : ChangeValue) → c.position ≡ length (as_list x.changes) → noted (list_of cells.pending t) c ≡ as_list (x.changes ▹ c)
    first_list c e = ap (λ cs. noted cs c) mine ∙ noted_first x.changes c e

    start_cells : (c : ChangeValue) → c.position ≡ length (as_list x.changes) → (o : Option Pair) → old_pair (is_indexed s.life) c ≡ o
        → HasCells (started s t x c o) (set_by cells (first_action t c o))
    start_cells c e None g =
        other_holder _ _ (update rid_cmp s.holder c.rid (Some t))
        (row_cells c.rid (new_row c.rows) (with_change x c (row_made (new_pair (is_indexed s.life) c))) _ (first_list c e))
    start_cells c e (Some p) g =
        other_holder _ _ (update rid_cmp s.holder c.rid (Some t))
        (entry_cells c.rid (old_row c.rows) (new_row c.rows) Marked (Some p) g (record { it = p; is = refl; holds = tt }) (with_change x c OldMarked) _
        (first_list c e))

    module _ (c : ChangeValue) (older : Changes) (e : x.changes ≡ older ▹ c) where
      whole_list : list_of cells.pending t ≡ as_list (older ▹ c)
      whole_list = mine ∙ ap as_list e

      again_list : c.position ≡ length (as_list older) → noted (list_of cells.pending t) c ≡ as_list x.changes
      again_list n = ap (λ cs. noted cs c) whole_list ∙ noted_again older c n ∙ ap as_list (sym e)

      off_list : taken_off (list_of cells.pending t) true ≡ as_list older
      off_list = ap (λ cs. taken_off cs true) whole_list ∙ off_newest older c

      row_left : (o : Option Pair) → HasCells (record s { rows = set_at s.rows c.rid (old_row c.rows); txns = with_txn s t (row_undone x older o) })
          (set_by cells (undo t Slot c (is_last o)))
      row_left None = row_cells c.rid (old_row c.rows) (without_newest older) _ off_list
      row_left (Some p) = row_cells c.rid (old_row c.rows) (undoing x OldSet) _ mine

      first_cells : (b : Bool) (o : Option Pair) → new_pair (is_indexed s.life) c ≡ o
          → HasCells (undone_first s t x c older b o) (set_by cells (begun_action t c (old_pair (is_indexed s.life) c) o))
      first_cells b None g = row_left (old_pair (is_indexed s.life) c)
      first_cells b (Some p) g = entry_cells c.rid (new_row c.rows) (old_row c.rows) Marked (Some p) g (record { it = p; is = refl; holds = tt })
          (undoing x (NewMarked b)) _ mine

next_cells : (s : State) (i : IsWellFormed s) (cells : Cells) → HasCells s cells → (t : ℕ) (cs : Changes) (phase : Phase) (rolling : Bool)
    → s.txns t ≡ Some (record { changes = cs; phase = phase; rolling = rolling })
    → HasCells (carried_on s t (record { changes = cs; phase = phase; rolling = rolling }) cs phase) (set_by_any cells (next_action t cs phase))
next_cells s i cells k t Unchanged phase rolling active = k
next_cells s i cells k t (older ▹ c) OldMarked rolling active =
    row_cells s cells k t c.rid (new_row c.rows) (record { changes = older ▹ c; phase = row_made (new_pair (is_indexed s.life) c); rolling = rolling }) _
    (again_list s cells k t _ active c older refl (i.txns t _ active).numbered.0)
next_cells s i cells k t (older ▹ c) RowSet rolling active =
    entry_cells s cells k t c.rid (new_row c.rows) (old_row c.rows) Live (new_pair (is_indexed s.life) c) refl (i.txns t _ active).shaped
    (record { changes = older ▹ c; phase = Made; rolling = rolling }) _
    (again_list s cells k t _ active c older refl (i.txns t _ active).numbered.0)
next_cells s i cells k t (older ▹ c) Made rolling active = k
next_cells s i cells k t (older ▹ c) (NewMarked b) rolling active = k
next_cells s i cells k t (older ▹ c) OldSet rolling active = k

none_changed : (x x' : Active) → x.changes ≡ x'.changes → (list : Option (List ChangeValue)) → IsListOf list (Some x) → IsListOf list (Some x')
none_changed x x' e None h = sym e ∙ h
none_changed x x' e (Some list) h = h ∙ ap as_list e

undo_cells : (s : State) (i : IsWellFormed s) (cells : Cells) → HasCells s cells → (t : ℕ) (cs : Changes) (phase : Phase) (rolling : Bool)
    → s.txns t ≡ Some (record { changes = cs; phase = phase; rolling = rolling })
    → HasCells (undone s t (record { changes = cs; phase = phase; rolling = rolling }) cs phase) (set_by_any cells (undo_action (is_indexed s.life) t cs phase))
undo_cells s i cells k t Unchanged phase rolling active =
    same_cells s cells k t (record { changes = Unchanged; phase = phase; rolling = true })
    (none_changed (record { changes = Unchanged; phase = phase; rolling = rolling }) (record { changes = Unchanged; phase = phase; rolling = true }) refl
    (get cells.pending t) (subst (IsListOf (get cells.pending t)) active (k.pending t)))
undo_cells s i cells k t (older ▹ c) OldMarked rolling active = first_cells s cells k t _ active c older refl false _ refl
undo_cells s i cells k t (older ▹ c) RowSet rolling active = first_cells s cells k t _ active c older refl true _ refl
undo_cells s i cells k t (older ▹ c) Made rolling active = first_cells s cells k t _ active c older refl true _ refl
undo_cells s i cells k t (older ▹ c) (NewMarked b) rolling active = row_left s cells k t _ active c older refl (old_pair (is_indexed s.life) c)
undo_cells s i cells k t (older ▹ c) OldSet rolling active =
    entry_cells s cells k t c.rid (old_row c.rows) (new_row c.rows) Live (old_pair (is_indexed s.life) c) refl (i.txns t _ active).shaped
    (record { changes = older; phase = Made; rolling = true }) _
    (off_list s cells k t _ active c older refl)

attempt_cells : (s : State) (cells : Cells) → HasCells s cells → (p : Pair) (o : Option Mark) → get s.entries p ≡ o
    → HasCells (record s { entries = set_at s.entries p (after_action BuildPut o); bound = Some p }) (set_by_any cells (place_action p o))
attempt_cells s cells k p None e = record { rows = k.rows; entries = ap (λ m. set_at m p (Some Live)) k.entries; pending = k.pending; life = k.life }
attempt_cells s cells k p (Some mark) e = record {
  rows = k.rows;
  entries = k.entries ∙ sym (ap (set_at s.entries p) (build_put_some mark ∙ sym e) ∙ set_at-get pair_exact s.entries p);
  pending = k.pending;
  life = k.life;
}

moved_cells : (s : State) (e : MachineStep) (cells : Cells) → IsWellFormed s → IsEnabled s e → HasCells s cells
    → HasCells (moved_by s e) (set_by_any cells (action_of s e))
moved_cells s (Begin t) cells i a k = same_cells s cells k t new_txn
    (subst (λ l. IsListOf l (Some new_txn)) (sym (no_list (get cells.pending t) (subst (IsListOf (get cells.pending t)) a (k.pending t)))) refl)
moved_cells s (Start t c) cells i a k = start_cells s cells k t (txn_at s t) a.active c a.position _ refl
moved_cells s (Next t) cells i a k = next_cells s i cells k t (txn_at s t).changes (txn_at s t).phase (txn_at s t).rolling a.0
moved_cells s (Undo t) cells i a k = undo_cells s i cells k t (txn_at s t).changes (txn_at s t).phase (txn_at s t).rolling a
moved_cells s (End t) cells i a k = gone_cells s cells k t s.committed
moved_cells s (Commit t) cells i a k = gone_cells s cells k t _
moved_cells s Create cells i a k = record { rows = k.rows; entries = k.entries; pending = k.pending; life = refl }
moved_cells s (Take n) cells i a k = record { rows = k.rows; entries = k.entries; pending = k.pending; life = k.life }
moved_cells s (Attempt p) cells i a k = attempt_cells s cells k p _ refl
moved_cells s (Checkpoint p) cells i a k = record { rows = k.rows; entries = k.entries; pending = k.pending; life = refl }
moved_cells s Finish cells i a k = record { rows = k.rows; entries = k.entries; pending = k.pending; life = refl }
moved_cells s (Clean p) cells i a k = record { rows = k.rows; entries = ap (λ m. set_at m p None) k.entries; pending = k.pending; life = k.life }
moved_cells s (Keep p) cells i a k = record { rows = k.rows; entries = k.entries; pending = k.pending; life = k.life }
moved_cells s Wrap cells i a k = record { rows = k.rows; entries = k.entries; pending = k.pending; life = k.life }
moved_cells s Drop cells i a k = record { rows = k.rows; entries = refl; pending = k.pending; life = refl }

pub step_follows : (s : State) (e : MachineStep) (cells : Cells) → IsWellFormed s → IsEnabled s e → HasCells s cells
    → HasCells (after s e) (set_by_any cells (action_of s e))
step_follows s e cells i a k =
    let h : HasCells (moved_by s e) (set_by_any cells (action_of s e)) = moved_cells s e cells i a k in
    record { rows = h.rows; entries = h.entries; pending = h.pending; life = h.life }

-- ---- each record is of a part that its change has
old_there : (indexed : Bool) (r : Place) (rows : Rows) (other : Option Row) (p : Pair) → gone indexed r (old_row rows) other ≡ Some p → IsTrue (has_old rows)
old_there indexed r (Inserted new) other p e = absurd (not_none (gone_is indexed r None other p e).is refl)
old_there indexed r (Deleted old) other p e = refl
old_there indexed r (Updated old new) other p e = refl

new_there : (indexed : Bool) (r : Place) (rows : Rows) (other : Option Row) (p : Pair) → gone indexed r (new_row rows) other ≡ Some p → IsTrue (has_new rows)
new_there indexed r (Inserted new) other p e = refl
new_there indexed r (Deleted old) other p e = absurd (not_none (gone_is indexed r None other p e).is refl)
new_there indexed r (Updated old new) other p e = refl

abbrev HasRows : Option Action → Type 0
HasRows None = Unit {0}
HasRows (Some a) = IsTrue (has_rows a)

first_rows : (indexed : Bool) (t : ℕ) (c : ChangeValue) (o : Option Pair) → old_pair indexed c ≡ o → HasRows (Some (first_action t c o))
first_rows indexed t c None e = refl
first_rows indexed t c (Some p) e = old_there indexed c.rid c.rows (new_row c.rows) p e

begun_rows : (indexed : Bool) (t : ℕ) (c : ChangeValue) (old o : Option Pair) → new_pair indexed c ≡ o → HasRows (Some (begun_action t c old o))
begun_rows indexed t c old None e = refl
begun_rows indexed t c old (Some p) e = new_there indexed c.rid c.rows (old_row c.rows) p e

next_rows : (indexed : Bool) (t : ℕ) (cs : Changes) (phase : Phase) → IsShaped indexed cs phase → HasRows (next_action t cs phase)
next_rows indexed t Unchanged phase h = tt
next_rows indexed t (older ▹ c) OldMarked h = refl
next_rows indexed t (older ▹ c) RowSet h = new_there indexed c.rid c.rows (old_row c.rows) h.it h.is
next_rows indexed t (older ▹ c) Made h = tt
next_rows indexed t (older ▹ c) (NewMarked b) h = tt
next_rows indexed t (older ▹ c) OldSet h = tt

undo_rows : (indexed : Bool) (t : ℕ) (cs : Changes) (phase : Phase) → IsShaped indexed cs phase → HasRows (undo_action indexed t cs phase)
undo_rows indexed t Unchanged phase h = tt
undo_rows indexed t (older ▹ c) OldMarked h = begun_rows indexed t c (old_pair indexed c) _ refl
undo_rows indexed t (older ▹ c) RowSet h = begun_rows indexed t c (old_pair indexed c) _ refl
undo_rows indexed t (older ▹ c) Made h = begun_rows indexed t c (old_pair indexed c) _ refl
undo_rows indexed t (older ▹ c) (NewMarked b) h = refl
undo_rows indexed t (older ▹ c) OldSet h = old_there indexed c.rid c.rows (new_row c.rows) h.it h.is

place_rows : (p : Pair) (o : Option Mark) → HasRows (place_action p o)
place_rows p None = refl
place_rows p (Some mark) = tt

action_rows : (s : State) (e : MachineStep) → IsWellFormed s → IsEnabled s e → HasRows (action_of s e)
action_rows s (Begin t) i a = tt
action_rows s (Start t c) i a = first_rows (is_indexed s.life) t c _ refl
action_rows s (Next t) i a = next_rows (is_indexed s.life) t (txn_at s t).changes (txn_at s t).phase (i.txns t (txn_at s t) a.0).shaped
action_rows s (Undo t) i a = undo_rows (is_indexed s.life) t (txn_at s t).changes (txn_at s t).phase (i.txns t (txn_at s t) a).shaped
action_rows s (End t) i a = refl
action_rows s (Commit t) i a = refl
action_rows s Create i a = refl
action_rows s (Take n) i a = tt
action_rows s (Attempt p) i a = place_rows p _
action_rows s (Checkpoint p) i a = refl
action_rows s Finish i a = refl
action_rows s (Clean p) i a = refl
action_rows s (Keep p) i a = tt
action_rows s Wrap i a = tt
action_rows s Drop i a = refl

pub record_rows : (s : State) (e : MachineStep) (a : Action) → IsWellFormed s → IsEnabled s e → action_of s e ≡ Some a → IsTrue (has_rows a)
record_rows s e a i k is = subst HasRows is (action_rows s e i k)

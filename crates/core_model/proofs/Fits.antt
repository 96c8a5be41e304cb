-- Every step keeps a core well formed, whatever rows and entries it began with.
use Rattle.std.proofs.Common.{Bool, None, Option, Some, ap, cond, inl, inr, length, refl, subst, sym, ℕ, ◌<◌, ◌∙◌, ◌≡◌, ◌≢◌, ◌⊎◌}
use Rattle.std.specs.Cmp.{nat_cmp_total}
use Rattle.std.specs.FinMap.{get, nat_cmp-IsAntisymmetric}
use Rattle.std.specs.Ordering.{nat_cmp}
use Rattle.records.specs.ChangeValue.{ChangeValue}
use Rattle.record_values.specs.Maps.{get-set_at_other, rid_exact, set_at}
use Rattle.record_values.specs.Orders.{rid_cmp, rid_cmp-IsAntisymmetric, rid_cmp_total}
use Rattle.record_values.specs.Values.{Place}
use Rattle.record_values.specs.declared.pair.Pair.{Pair}
use Rattle.record_values.specs.declared.row.Row.{Row}
use Rattle.model.specs.Table.{Table}
use Rattle.core_model.proofs.Frames.{nat_decided, rid_decided, same_some, txn_apart, txn_here}
use Rattle.core_model.proofs.Insides.{change_inside, inside_step}
use Rattle.core_model.proofs.Latest.{holds_more, not_none}
use Rattle.core_model.proofs.Orders.{apart, update_apart, update_here}
use Rattle.core_model.proofs.Places.{places_step}
use Rattle.core_model.proofs.Pledged.{pledged_step}
use Rattle.core_model.specs.Changes.{Changes, Unchanged, as_list, new_pair, old_pair, ◌▹◌}
use Rattle.core_model.specs.Invariants.{HasShape, IsFit, IsHolderOf, IsNumbered, IsShaped, IsWellFormed}
use Rattle.core_model.specs.States.{Active, Made, NewMarked, OldMarked, OldSet, Phase, RowSet, State}
use Rattle.core_model.specs.Steps.{Attempt, Begin, Checkpoint, Clean, Commit, Create, Drop, End, Finish, IsEnabled, Keep, Next, Start, MachineStep, Take, Undo}
use Rattle.core_model.specs.Steps.{Wrap, after, carried_on, freed, is_indexed, new_txn, row_made, row_undone, started, txn_at, undoing, undone, undone_first}
use Rattle.core_model.specs.Steps.{update, with_change, with_phase, with_txn, without_newest}

-- ---- the transactions
row_shape : (indexed : Bool) (c : ChangeValue) (o : Option Pair) → new_pair indexed c ≡ o → HasShape indexed c (row_made o)
row_shape indexed c None e = tt
row_shape indexed c (Some p) e = record { it = p; is = e; holds = tt }

made_shape : (indexed : Bool) (cs : Changes) → IsShaped indexed cs Made
made_shape indexed Unchanged = refl
made_shape indexed (older ▹ c) = tt

module _ (s : State) (w : IsWellFormed s) (t : ℕ) where
  abbrev indexed : Bool
  indexed = is_indexed s.life

  put_fit : (holder' : Place → Option ℕ) (x' : Active) → ((u : ℕ) (r : Place) → u ≢ t → s.holder r ≡ Some u → holder' r ≡ Some u) → IsFit holder' indexed t x'
      → (u : ℕ) (y : Active) → with_txn s t x' u ≡ Some y → IsFit holder' indexed u y
  put_fit holder' x' keep fit u y e = elim (nat_decided u t) [
    | inl same ↦ subst (λ v. IsFit holder' indexed v y) (sym same)
        (subst (λ z. IsFit holder' indexed t z) (same_some (ap (with_txn s t x') same ∙ txn_here s t x') e) fit)
    | inr m ↦
        let f : IsFit s.holder indexed u y = w.txns u y (sym (txn_apart s t x' u m) ∙ e) in
        record { names = holds_more s.holder holder' u (λ r. keep u r m) y.changes f.names; shaped = f.shaped; numbered = f.numbered }
  ]

  same_fit : (x' : Active) → IsFit s.holder indexed t x' → (u : ℕ) (y : Active) → with_txn s t x' u ≡ Some y → IsFit s.holder indexed u y
  same_fit x' fit = put_fit s.holder x' (λ u r m h. h) fit

  gone_fit : (u : ℕ) (y : Active) → update nat_cmp s.txns t None u ≡ Some y → IsFit (λ r. freed t (s.holder r)) indexed u y
  gone_fit u y e = elim (nat_decided u t) [
    | inl same ↦ absurd (not_none e (ap (update nat_cmp s.txns t None) same ∙ update_here nat_cmp_total s.txns t None))
    | inr m ↦
        let f : IsFit s.holder indexed u y = w.txns u y (sym (update_apart nat_cmp-IsAntisymmetric s.txns t None u m) ∙ e) in
        record {
          names = holds_more s.holder (λ r. freed t (s.holder r)) u (λ r h. ap (freed t) h ∙ stays u m) y.changes f.names;
          shaped = f.shaped;
          numbered = f.numbered;
        }
  ]
    where
      stays : (u : ℕ) → u ≢ t → freed t (Some u) ≡ Some u
      stays u m = ap (λ b. cond b None (Some u)) (apart nat_cmp-IsAntisymmetric u t m)

  module _ (x : Active) (active : s.txns t ≡ Some x) where
    now : IsFit s.holder indexed t x
    now = w.txns t x active

    module _ (c : ChangeValue) (mine : (s.holder c.rid ≡ None) ⊎ (s.holder c.rid ≡ Some t)) (position : c.position ≡ length (as_list x.changes)) where
      abbrev held_too : Place → Option ℕ
      held_too = update rid_cmp s.holder c.rid (Some t)

      others_hold : (u : ℕ) (r : Place) → u ≢ t → s.holder r ≡ Some u → held_too r ≡ Some u
      others_hold u r m h = update_apart rid_cmp-IsAntisymmetric s.holder c.rid (Some t) r (λ e. elim mine [
        | inl none ↦ not_none h (ap s.holder e ∙ none)
        | inr own ↦ m (same_some (sym (ap s.holder e) ∙ h) own)
      ]) ∙ h

      still_holds : (r : Place) → s.holder r ≡ Some t → held_too r ≡ Some t
      still_holds r h = elim (rid_decided r c.rid) [
        | inl e ↦ ap held_too e ∙ update_here rid_cmp_total s.holder c.rid (Some t)
        | inr n ↦ update_apart rid_cmp-IsAntisymmetric s.holder c.rid (Some t) r n ∙ h
      ]

      change_fit : (phase : Phase) → HasShape indexed c phase → IsFit held_too indexed t (with_change x c phase)
      change_fit phase shape = record {
        names = (update_here rid_cmp_total s.holder c.rid (Some t), holds_more s.holder held_too t still_holds x.changes now.names);
        shaped = shape;
        numbered = (position, now.numbered);
      }

      started_fit : (o : Option Pair) → old_pair indexed c ≡ o → (u : ℕ) (y : Active) → (started s t x c o).txns u ≡ Some y
          → IsFit (started s t x c o).holder (is_indexed (started s t x c o).life) u y
      started_fit (Some p) e u y a = put_fit held_too (with_change x c OldMarked) others_hold
          (change_fit OldMarked (record { it = p; is = e; holds = tt })) u y a
      started_fit None e u y a = put_fit held_too (with_change x c (row_made (new_pair indexed c))) others_hold
          (change_fit (row_made (new_pair indexed c)) (row_shape indexed c (new_pair indexed c) refl)) u y a

    phase_fit : (c : ChangeValue) (older : Changes) → x.changes ≡ older ▹ c → (phase : Phase) → HasShape indexed c phase
        → IsFit s.holder indexed t (with_phase x phase)
    phase_fit c older e phase shape = record { names = now.names; shaped = subst (λ cs. IsShaped indexed cs phase) (sym e) shape; numbered = now.numbered }

    carried_fit : (cs : Changes) → x.changes ≡ cs → (phase : Phase) (u : ℕ) (y : Active) → (carried_on s t x cs phase).txns u ≡ Some y
        → IsFit (carried_on s t x cs phase).holder (is_indexed (carried_on s t x cs phase).life) u y
    carried_fit Unchanged e phase u y a = w.txns u y a
    carried_fit (older ▹ c) e OldMarked u y a = same_fit (with_phase x (row_made (new_pair indexed c)))
        (phase_fit c older e (row_made (new_pair indexed c)) (row_shape indexed c (new_pair indexed c) refl)) u y a
    carried_fit (older ▹ c) e RowSet u y a = same_fit (with_phase x Made) (phase_fit c older e Made tt) u y a
    carried_fit (older ▹ c) e Made u y a = w.txns u y a
    carried_fit (older ▹ c) e (NewMarked b) u y a = w.txns u y a
    carried_fit (older ▹ c) e OldSet u y a = w.txns u y a

    older_fit : (c : ChangeValue) (older : Changes) → x.changes ≡ older ▹ c → IsFit s.holder indexed t (without_newest older)
    older_fit c older e = record {
      names = (subst (λ cs. IsHolderOf s.holder t cs) e now.names).1;
      shaped = made_shape indexed older;
      numbered = (subst IsNumbered e now.numbered).1;
    }

    undoing_fit : (c : ChangeValue) (older : Changes) → x.changes ≡ older ▹ c → (phase : Phase) → HasShape indexed c phase
        → IsFit s.holder indexed t (undoing x phase)
    undoing_fit c older e phase shape = record { names = now.names; shaped = subst (λ cs. IsShaped indexed cs phase) (sym e) shape; numbered = now.numbered }

    row_fit : (c : ChangeValue) (older : Changes) → x.changes ≡ older ▹ c → (o : Option Pair) → old_pair indexed c ≡ o
        → IsFit s.holder indexed t (row_undone x older o)
    row_fit c older e None k = older_fit c older e
    row_fit c older e (Some p) k = undoing_fit c older e OldSet (record { it = p; is = k; holds = tt })

    first_fit : (c : ChangeValue) (older : Changes) → x.changes ≡ older ▹ c → (b : Bool) (o : Option Pair) → new_pair indexed c ≡ o → (u : ℕ) (y : Active)
        → (undone_first s t x c older b o).txns u ≡ Some y
        → IsFit (undone_first s t x c older b o).holder (is_indexed (undone_first s t x c older b o).life) u y
    first_fit c older e b (Some p) k u y a = same_fit (undoing x (NewMarked b))
        (undoing_fit c older e (NewMarked b) (record { it = p; is = k; holds = tt })) u y a
    first_fit c older e b None k u y a = same_fit (row_undone x older (old_pair indexed c)) (row_fit c older e (old_pair indexed c) refl) u y a

    undone_fit : (cs : Changes) → x.changes ≡ cs → (phase : Phase) → x.phase ≡ phase → (u : ℕ) (y : Active) → (undone s t x cs phase).txns u ≡ Some y
        → IsFit (undone s t x cs phase).holder (is_indexed (undone s t x cs phase).life) u y
    undone_fit Unchanged e phase k u y a = same_fit (undoing x phase)
        (record { names = now.names; shaped = subst (λ ph. IsShaped indexed x.changes ph) k now.shaped; numbered = now.numbered }) u y a
    undone_fit (older ▹ c) e OldMarked k u y a = first_fit c older e _ (new_pair indexed c) refl u y a
    undone_fit (older ▹ c) e RowSet k u y a = first_fit c older e _ (new_pair indexed c) refl u y a
    undone_fit (older ▹ c) e Made k u y a = first_fit c older e _ (new_pair indexed c) refl u y a
    undone_fit (older ▹ c) e (NewMarked b) k u y a = same_fit (row_undone x older (old_pair indexed c)) (row_fit c older e (old_pair indexed c) refl) u y a
    undone_fit (older ▹ c) e OldSet k u y a = same_fit (without_newest older) (older_fit c older e) u y a

indexed_same : (s : State) → IsWellFormed s → (b : Bool) → is_indexed s.life ≡ b → (t : ℕ) (x : Active) → s.txns t ≡ Some x → IsFit s.holder b t x
indexed_same s w b e t x a = subst (λ i. IsFit s.holder i t x) e (w.txns t x a)

txns_step : (s : State) (e : MachineStep) → IsWellFormed s → IsEnabled s e → (t : ℕ) (x : Active) → (after s e).txns t ≡ Some x
    → IsFit (after s e).holder (is_indexed (after s e).life) t x
txns_step s (Begin t) w a = same_fit s w t new_txn (record { names = tt; shaped = refl; numbered = tt })
txns_step s (Start t c) w a = started_fit s w t (txn_at s t) a.active c a.mine a.position (old_pair (is_indexed s.life) c) refl
txns_step s (Next t) w a = carried_fit s w t (txn_at s t) a.0 (txn_at s t).changes refl (txn_at s t).phase
txns_step s (Undo t) w a = undone_fit s w t (txn_at s t) a (txn_at s t).changes refl (txn_at s t).phase refl
txns_step s (End t) w a = gone_fit s w t
txns_step s (Commit t) w a = gone_fit s w t
txns_step s Create w a = λ t x e. absurd (not_none e (a.1 t))
txns_step s (Take n) w a = w.txns
txns_step s (Attempt p) w a = w.txns
txns_step s (Checkpoint p) w a = indexed_same s w _ (ap is_indexed a.0.1)
txns_step s Finish w a = indexed_same s w _ (ap is_indexed a.building.1)
txns_step s (Clean p) w a = w.txns
txns_step s (Keep p) w a = w.txns
txns_step s Wrap w a = w.txns
txns_step s Drop w a = λ t x e. absurd (not_none e (a.1 t))

-- ---- the rows
abbrev RowsInside : ℕ → Table → Type 0
RowsInside pages rows = (r : Place) (row : Row) → get rows r ≡ Some row → r.page < pages

set_rows : (pages : ℕ) (rows : Table) (r : Place) (v : Option Row) → r.page < pages → RowsInside pages rows → RowsInside pages (set_at rows r v)
set_rows pages rows r v l h q row e = elim (rid_decided q r) [
  | inl same ↦ subst (λ (p : Place). p.page < pages) (sym same) l
  | inr n ↦ h q row (sym (get-set_at_other rid_exact rows r v q n) ∙ e)
]

module _ (s : State) (w : IsWellFormed s) (t : ℕ) (x : Active) where
  started_rows : (c : ChangeValue) → c.rid.page < s.pages → (o : Option Pair) → RowsInside (started s t x c o).pages (started s t x c o).rows
  started_rows c l (Some p) = w.rows
  started_rows c l None = set_rows s.pages s.rows c.rid _ l w.rows

  module _ (active : s.txns t ≡ Some x) where
    carried_rows : (cs : Changes) → x.changes ≡ cs → (phase : Phase) → RowsInside (carried_on s t x cs phase).pages (carried_on s t x cs phase).rows
    carried_rows Unchanged e phase = w.rows
    carried_rows (older ▹ c) e OldMarked = set_rows s.pages s.rows c.rid _ (change_inside s w t x active c older e) w.rows
    carried_rows (older ▹ c) e RowSet = w.rows
    carried_rows (older ▹ c) e Made = w.rows
    carried_rows (older ▹ c) e (NewMarked b) = w.rows
    carried_rows (older ▹ c) e OldSet = w.rows

    first_rows : (c : ChangeValue) (older : Changes) → x.changes ≡ older ▹ c → (b : Bool) (o : Option Pair)
        → RowsInside (undone_first s t x c older b o).pages (undone_first s t x c older b o).rows
    first_rows c older e b (Some p) = w.rows
    first_rows c older e b None = set_rows s.pages s.rows c.rid _ (change_inside s w t x active c older e) w.rows

    undone_rows : (cs : Changes) → x.changes ≡ cs → (phase : Phase) → RowsInside (undone s t x cs phase).pages (undone s t x cs phase).rows
    undone_rows Unchanged e phase = w.rows
    undone_rows (older ▹ c) e OldMarked = first_rows c older e _ (new_pair (is_indexed s.life) c)
    undone_rows (older ▹ c) e RowSet = first_rows c older e _ (new_pair (is_indexed s.life) c)
    undone_rows (older ▹ c) e Made = first_rows c older e _ (new_pair (is_indexed s.life) c)
    undone_rows (older ▹ c) e (NewMarked b) = set_rows s.pages s.rows c.rid _ (change_inside s w t x active c older e) w.rows
    undone_rows (older ▹ c) e OldSet = w.rows

rows_step : (s : State) (e : MachineStep) → IsWellFormed s → IsEnabled s e → RowsInside (after s e).pages (after s e).rows
rows_step s (Begin t) w a = w.rows
rows_step s (Start t c) w a = started_rows s w t (txn_at s t) c a.inside (old_pair (is_indexed s.life) c)
rows_step s (Next t) w a = carried_rows s w t (txn_at s t) a.0 (txn_at s t).changes refl (txn_at s t).phase
rows_step s (Undo t) w a = undone_rows s w t (txn_at s t) a (txn_at s t).changes refl (txn_at s t).phase
rows_step s (End t) w a = w.rows
rows_step s (Commit t) w a = w.rows
rows_step s Create w a = w.rows
rows_step s (Take n) w a = w.rows
rows_step s (Attempt p) w a = w.rows
rows_step s (Checkpoint p) w a = w.rows
rows_step s Finish w a = w.rows
rows_step s (Clean p) w a = w.rows
rows_step s (Keep p) w a = w.rows
rows_step s Wrap w a = w.rows
rows_step s Drop w a = w.rows

-- ---- the rows that are held
abbrev HeldInside : ℕ → (Place → Option ℕ) → Type 0
HeldInside pages holder = (r : Place) (t : ℕ) → holder r ≡ Some t → r.page < pages

freed_some : (t : ℕ) (o : Option ℕ) (u : ℕ) → freed t o ≡ Some u → (v : ℕ) × (o ≡ Some v)
freed_some t None u e = absurd (not_none e refl)
freed_some t (Some v) u e = (v, refl)

module _ (s : State) (w : IsWellFormed s) (t : ℕ) (x : Active) where
  started_held : (c : ChangeValue) → c.rid.page < s.pages → (o : Option Pair) → HeldInside (started s t x c o).pages (started s t x c o).holder
  started_held c l o r u e = elim (rid_decided r c.rid) [
    | inl same ↦ subst (λ pages. r.page < pages) (same_pages o) (subst (λ (p : Place). p.page < s.pages) (sym same) l)
    | inr n ↦ subst (λ pages. r.page < pages) (same_pages o)
        (w.held r u (sym (update_apart rid_cmp-IsAntisymmetric s.holder c.rid (Some t) r n) ∙ ap (λ f. f r) (same_holder o) ∙ e))
  ]
    where
      same_pages : (o : Option Pair) → s.pages ≡ (started s t x c o).pages
      same_pages None = refl
      same_pages (Some p) = refl

      same_holder : (o : Option Pair) → update rid_cmp s.holder c.rid (Some t) ≡ (started s t x c o).holder
      same_holder None = refl
      same_holder (Some p) = refl

  carried_held : (cs : Changes) (phase : Phase) → HeldInside (carried_on s t x cs phase).pages (carried_on s t x cs phase).holder
  carried_held Unchanged phase = w.held
  carried_held (older ▹ c) OldMarked = w.held
  carried_held (older ▹ c) RowSet = w.held
  carried_held (older ▹ c) Made = w.held
  carried_held (older ▹ c) (NewMarked b) = w.held
  carried_held (older ▹ c) OldSet = w.held

  first_held : (c : ChangeValue) (older : Changes) (b : Bool) (o : Option Pair)
      → HeldInside (undone_first s t x c older b o).pages (undone_first s t x c older b o).holder
  first_held c older b (Some p) = w.held
  first_held c older b None = w.held

  undone_held : (cs : Changes) (phase : Phase) → HeldInside (undone s t x cs phase).pages (undone s t x cs phase).holder
  undone_held Unchanged phase = w.held
  undone_held (older ▹ c) OldMarked = first_held c older _ (new_pair (is_indexed s.life) c)
  undone_held (older ▹ c) RowSet = first_held c older _ (new_pair (is_indexed s.life) c)
  undone_held (older ▹ c) Made = first_held c older _ (new_pair (is_indexed s.life) c)
  undone_held (older ▹ c) (NewMarked b) = w.held
  undone_held (older ▹ c) OldSet = w.held

held_step : (s : State) (e : MachineStep) → IsWellFormed s → IsEnabled s e → HeldInside (after s e).pages (after s e).holder
held_step s (Begin t) w a = w.held
held_step s (Start t c) w a = started_held s w t (txn_at s t) c a.inside (old_pair (is_indexed s.life) c)
held_step s (Next t) w a = carried_held s w t (txn_at s t) (txn_at s t).changes (txn_at s t).phase
held_step s (Undo t) w a = undone_held s w t (txn_at s t) (txn_at s t).changes (txn_at s t).phase
held_step s (End t) w a = λ r u e. let v : (v : ℕ) × (s.holder r ≡ Some v) = freed_some t (s.holder r) u e in w.held r v.0 v.1
held_step s (Commit t) w a = λ r u e. let v : (v : ℕ) × (s.holder r ≡ Some v) = freed_some t (s.holder r) u e in w.held r v.0 v.1
held_step s Create w a = w.held
held_step s (Take n) w a = w.held
held_step s (Attempt p) w a = w.held
held_step s (Checkpoint p) w a = w.held
held_step s Finish w a = w.held
held_step s (Clean p) w a = w.held
held_step s (Keep p) w a = w.held
held_step s Wrap w a = w.held
held_step s Drop w a = w.held

-- ---- all of it
pub fit_step : (s : State) (e : MachineStep) → IsWellFormed s → IsEnabled s e → IsWellFormed (after s e)
fit_step s e w a = record {
  rows = rows_step s e w a;
  held = held_step s e w a;
  txns = txns_step s e w a;
  places = places_step s e (λ t x h. (w.txns t x h).names) w.places a;
  inside = inside_step s e w w.inside a;
  pledged = pledged_step s e w.pledged a;
}

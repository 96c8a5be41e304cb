-- The transactions with a number of reserved places are the active ones.
use Rattle.std.proofs.Common.{Bool, None, Option, Some, ap, cond, inl, inr, is_some, refl, sym, true, ℕ, ◌∙◌, ◌≡◌, ◌≢◌}
use Rattle.std.specs.Cmp.{nat_cmp_total}
use Rattle.std.specs.FinMap.{get, get-insert, get-remove, insert, nat_cmp-IsAntisymmetric, remove}
use Rattle.std.specs.Ordering.{eq_by_cmp, nat_cmp}
use Rattle.records.specs.ChangeValue.{ChangeValue}
use Rattle.record_values.specs.declared.pair.Pair.{Pair}
use Rattle.core_model.proofs.Frames.{nat_decided, txn_apart, txn_here}
use Rattle.core_model.proofs.Orders.{apart, level, update_apart, update_here}
use Rattle.core_model.specs.Changes.{Changes, Unchanged, new_pair, old_pair, ◌▹◌}
use Rattle.core_model.specs.Invariants.{IsPledged}
use Rattle.core_model.specs.States.{Active, Made, NewMarked, OldMarked, OldSet, Phase, Pledges, RowSet, State}
use Rattle.core_model.specs.Steps.{Attempt, Begin, Checkpoint, Clean, Commit, Create, Drop, End, Finish, IsEnabled, Keep, Next, Start, MachineStep, Take, Undo}
use Rattle.core_model.specs.Steps.{Wrap, after, carried_on, is_indexed, new_txn, row_made, row_undone, started, txn_at, undoing, undone, undone_first, update}
use Rattle.core_model.specs.Steps.{with_change, with_phase, with_txn, without_newest}

-- the transactions but for one are as they were, and that one is active
pub record Goes (txns txns' : ℕ → Option Active) (t : ℕ) : Type 0 where
  pub here : is_some (txns' t) ≡ true
  pub others : (u : ℕ) → u ≢ t → txns' u ≡ txns u

module _ (s : State) (t : ℕ) where
  put_goes : (x : Active) → Goes s.txns (with_txn s t x) t
  put_goes x = record { here = ap is_some (txn_here s t x); others = λ u n. txn_apart s t x u n }

  same_goes : (x : Active) → s.txns t ≡ Some x → Goes s.txns s.txns t
  same_goes x active = record { here = ap is_some active; others = λ u n. refl }

  pub started_goes : (x : Active) (c : ChangeValue) (o : Option Pair) → Goes s.txns (started s t x c o).txns t
  started_goes x c (Some p) = put_goes (with_change x c OldMarked)
  started_goes x c None = put_goes (with_change x c (row_made (new_pair (is_indexed s.life) c)))

  pub carried_goes : (x : Active) → s.txns t ≡ Some x → (cs : Changes) (phase : Phase) → Goes s.txns (carried_on s t x cs phase).txns t
  carried_goes x active Unchanged phase = same_goes x active
  carried_goes x active (older ▹ c) OldMarked = put_goes (with_phase x (row_made (new_pair (is_indexed s.life) c)))
  carried_goes x active (older ▹ c) RowSet = put_goes (with_phase x Made)
  carried_goes x active (older ▹ c) Made = same_goes x active
  carried_goes x active (older ▹ c) (NewMarked b) = same_goes x active
  carried_goes x active (older ▹ c) OldSet = same_goes x active

  first_goes : (x : Active) (c : ChangeValue) (older : Changes) (b : Bool) (o : Option Pair) → Goes s.txns (undone_first s t x c older b o).txns t
  first_goes x c older b (Some p) = put_goes (undoing x (NewMarked b))
  first_goes x c older b None = put_goes (row_undone x older (old_pair (is_indexed s.life) c))

  pub undone_goes : (x : Active) (cs : Changes) (phase : Phase) → Goes s.txns (undone s t x cs phase).txns t
  undone_goes x Unchanged phase = put_goes (undoing x phase)
  undone_goes x (older ▹ c) OldMarked = first_goes x c older _ (new_pair (is_indexed s.life) c)
  undone_goes x (older ▹ c) RowSet = first_goes x c older _ (new_pair (is_indexed s.life) c)
  undone_goes x (older ▹ c) Made = first_goes x c older _ (new_pair (is_indexed s.life) c)
  undone_goes x (older ▹ c) (NewMarked b) = put_goes (row_undone x older (old_pair (is_indexed s.life) c))
  undone_goes x (older ▹ c) OldSet = put_goes (without_newest older)

got_here : (m : Pledges) (t n u : ℕ) → u ≡ t → get (insert m t n) u ≡ Some n
got_here m t n u e = get-insert nat_cmp_total m t n u ∙ ap (λ b. cond b (Some n) (get m u)) (ap (λ q. eq_by_cmp nat_cmp q t) e ∙ level nat_cmp_total t)

got_apart : (m : Pledges) (t n u : ℕ) → u ≢ t → get (insert m t n) u ≡ get m u
got_apart m t n u e = get-insert nat_cmp_total m t n u ∙ ap (λ b. cond b (Some n) (get m u)) (apart nat_cmp-IsAntisymmetric u t e)

left_here : (m : Pledges) (t u : ℕ) → u ≡ t → get (remove m t) u ≡ None
left_here m t u e = get-remove nat_cmp_total m t u ∙ ap (λ b. cond b None (get m u)) (ap (λ q. eq_by_cmp nat_cmp q t) e ∙ level nat_cmp_total t)

left_other : (m : Pledges) (t u : ℕ) → u ≢ t → get (remove m t) u ≡ get m u
left_other m t u e = get-remove nat_cmp_total m t u ∙ ap (λ b. cond b None (get m u)) (apart nat_cmp-IsAntisymmetric u t e)

module _ (s : State) (h : IsPledged s) (t : ℕ) where
  pledged_with : (txns' : ℕ → Option Active) → Goes s.txns txns' t → (n u : ℕ) → is_some (get (insert s.pledges t n) u) ≡ is_some (txns' u)
  pledged_with txns' g n u = elim (nat_decided u t) [
    | inl same ↦ ap is_some (got_here s.pledges t n u same) ∙ sym g.here ∙ ap (λ w. is_some (txns' w)) (sym same)
    | inr m ↦ ap is_some (got_apart s.pledges t n u m) ∙ h u ∙ ap is_some (sym (g.others u m))
  ]

  pub pledged_without : (u : ℕ) → is_some (get (remove s.pledges t) u) ≡ is_some (update nat_cmp s.txns t None u)
  pledged_without u = elim (nat_decided u t) [
    | inl same ↦ ap is_some (left_here s.pledges t u same) ∙ ap is_some (sym (ap (update nat_cmp s.txns t None) same ∙ update_here nat_cmp_total s.txns t None))
    | inr m ↦ ap is_some (left_other s.pledges t u m) ∙ h u ∙ ap is_some (sym (update_apart nat_cmp-IsAntisymmetric s.txns t None u m))
  ]

pub pledged_step : (s : State) (e : MachineStep) → IsPledged s → IsEnabled s e → IsPledged (after s e)
pledged_step s (Begin t) h a = pledged_with s h t _ (put_goes s t new_txn) _
pledged_step s (Start t c) h a = pledged_with s h t _ (started_goes s t (txn_at s t) c (old_pair (is_indexed s.life) c)) _
pledged_step s (Next t) h a = pledged_with s h t _ (carried_goes s t (txn_at s t) a.0 (txn_at s t).changes (txn_at s t).phase) _
pledged_step s (Undo t) h a = pledged_with s h t _ (undone_goes s t (txn_at s t) (txn_at s t).changes (txn_at s t).phase) _
pledged_step s (End t) h a = pledged_without s h t
pledged_step s (Commit t) h a = pledged_without s h t
pledged_step s Create h a = h
pledged_step s (Take n) h a = h
pledged_step s (Attempt p) h a = h
pledged_step s (Checkpoint p) h a = h
pledged_step s Finish h a = h
pledged_step s (Clean p) h a = h
pledged_step s (Keep p) h a = h
pledged_step s Wrap h a = h
pledged_step s Drop h a = h

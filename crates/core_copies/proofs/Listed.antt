-- Which transactions the log has a list of, step by step.
use Rattle.std.proofs.Common.{◌≡◌, ◌≢◌, ◌⊎◌, ⊎_elim, ℕ, Bool, true, false, cond, List, Option, Some, None, refl, sym, ap, subst, ◌∙◌}
use Rattle.std.proofs.lemmas.Bool.{cases_eq}
use Rattle.std.specs.FinMap.{get, get-empty}
use Rattle.std.specs.Ordering.{eq_by_cmp, nat_cmp}
use Rattle.records.specs.ChangeValue.{ChangeValue}
use Rattle.record_values.specs.Maps.{get-set_at_other, get-set_at_same, key_is, nat_exact, other_key, rid_exact, same_key}
use Rattle.record_values.specs.Orders.{rid_cmp}
use Rattle.record_values.specs.Values.{Place}
use Rattle.record_values.specs.declared.pair.Mark.{Mark}
use Rattle.record_values.specs.declared.pair.Pair.{Pair}
use Rattle.model.specs.Cells.{Cells, Pending, with_list}
use Rattle.model.specs.Given.{opening_cells}
use Rattle.model.specs.Table.{Table}
use Rattle.core_model.specs.Changes.{Changes, Unchanged, old_pair, new_pair, ◌▹◌}
use Rattle.core_model.specs.Histories.{Opened, opened}
use Rattle.core_model.specs.Invariants.{IsHolderOf, IsWellFormed}
use Rattle.core_model.specs.Records.{action_of, begun_action, first_action, next_action, place_action, set_by_any, undo_action}
use Rattle.core_model.specs.States.{Active, Made, NewMarked, OldMarked, OldSet, Phase, Pledges, RowSet, State}
use Rattle.core_model.specs.Steps.{Attempt, Begin, Checkpoint, Clean, Commit, Create, Drop, End, Finish, IsEnabled, Keep, MachineStep, Next, Start, Take, Undo}
use Rattle.core_model.specs.Steps.{Wrap, after, carried_on, freed, is_indexed, left, started, txn_at, undone, undone_first, update}
use Rattle.core_copies.specs.Lists.{HasLists}

some_none : {X : Type 0} (x : X) → (◌≡◌ {A = Option X} (Some x) None) → ⊥
some_none x e = absurd cc

same_some : (n m : ℕ) → (◌≡◌ {A = Option ℕ} (Some n) (Some m)) → n ≡ m
same_some n m e = cc

-- ---- one list

module _ (pending : Pending) (t : ℕ) where
  -- what a list is that is not the one that is set
  other_list : (list : Option (List ChangeValue)) (u : ℕ) → u ≢ t → get (with_list pending t list) u ≡ get pending u
  other_list list u apart = get-set_at_other nat_exact pending t list u apart

  own_list : (list : Option (List ChangeValue)) (u : ℕ) → u ≡ t → get (with_list pending t list) u ≡ list
  own_list list u same = ap (get (with_list pending t list)) same ∙ get-set_at_same nat_exact pending t list

-- the holders and the lists of the log
record AreListed (holder : Place → Option ℕ) (pending : Pending) : Type 0 where
  listed : (t : ℕ) (r : Place) → holder r ≡ Some t → get pending t ≢ None
  holds : (t : ℕ) → get pending t ≢ None → (r : Place) × (holder r ≡ Some t)

module _ (holder : Place → Option ℕ) (pending : Pending) (h : AreListed holder pending) (t : ℕ) where
  -- a transaction that holds a row gets a list, and no other's rows change
  put_list : (new : Place → Option ℕ) (list : List ChangeValue) (r : Place) → new r ≡ Some t
      → ((u : ℕ) (q : Place) → u ≢ t → new q ≡ Some u → holder q ≡ Some u) → ((u : ℕ) (q : Place) → u ≢ t → holder q ≡ Some u → new q ≡ Some u)
      → AreListed new (with_list pending t (Some list))
  put_list new list r own before behind = record {
    listed = λ u q at. ⊎_elim
        (λ same none. some_none list (sym (own_list pending t (Some list) u same) ∙ none))
        (λ apart none. h.listed u q (before u q apart at) (sym (other_list pending t (Some list) u apart) ∙ none))
        (cases_eq u t);
    holds = λ u there. ⊎_elim
        (λ same. (r, own ∙ ap Some (sym same)))
        (λ apart. let held = h.holds u (λ none. there (other_list pending t (Some list) u apart ∙ none)) in (held.0, behind u held.0 apart held.1))
        (cases_eq u t);
  }

  -- one that holds a row already
  same_holders : (list : List ChangeValue) (r : Place) → holder r ≡ Some t → AreListed holder (with_list pending t (Some list))
  same_holders list r own = put_list holder list r own (λ u q apart at. at) (λ u q apart at. at)

  -- one that takes a row that is free, or its own
  taken_row : (list : List ChangeValue) (r : Place) → (holder r ≡ None) ⊎ (holder r ≡ Some t)
      → AreListed (update rid_cmp holder r (Some t)) (with_list pending t (Some list))
  unfolding update
  taken_row list r mine = put_list (update rid_cmp holder r (Some t)) list r (ap (λ b. cond b (Some t) (holder r)) (same_key rid_exact r))
      (λ u q apart at. before u q apart (eq_by_cmp rid_cmp q r) at)
      (λ u q apart at. behind u q apart (eq_by_cmp rid_cmp q r) refl at)
    where
      before : (u : ℕ) (q : Place) → u ≢ t → (b : Bool) → cond b (Some t) (holder q) ≡ Some u → holder q ≡ Some u
      before u q apart true at = absurd (apart (sym (same_some t u at)))
      before u q apart false at = at

      not_mine : (u : ℕ) → u ≢ t → holder r ≡ Some u → ⊥
      not_mine u apart at = ⊎_elim (λ none. some_none u (sym at ∙ none)) (λ own. apart (same_some u t (sym at ∙ own))) mine

      behind : (u : ℕ) (q : Place) → u ≢ t → (b : Bool) → eq_by_cmp rid_cmp q r ≡ b → holder q ≡ Some u → cond b (Some t) (holder q) ≡ Some u
      behind u q apart true is at = absurd (not_mine u apart (ap holder (sym (key_is rid_exact q r is)) ∙ at))
      behind u q apart false is at = at

  -- one that leaves
  freed_is : (o : Option ℕ) (u : ℕ) → freed t o ≡ Some u → (o ≡ Some u) × (u ≢ t)
  freed_is None u at = absurd (some_none u (sym at))
  freed_is (Some w) u at = by (eq_by_cmp nat_cmp w t) refl at
    where
      by : (b : Bool) → eq_by_cmp nat_cmp w t ≡ b → cond b None (Some w) ≡ Some u → (◌≡◌ {A = Option ℕ} (Some w) (Some u)) × (u ≢ t)
      by true is at = absurd (some_none u (sym at))
      by false is at = (
        at,
        λ same. let equal : eq_by_cmp nat_cmp w t ≡ true = ap (λ n. eq_by_cmp nat_cmp n t) (same_some w u at ∙ same)
            ∙ same_key nat_exact t in absurd cc,
      )

  freed_other : (u : ℕ) → u ≢ t → freed t (Some u) ≡ Some u
  freed_other u apart = ap (λ b. cond b None (Some u)) (other_key nat_exact u t apart)

  gone : AreListed (λ r. freed t (holder r)) (with_list pending t None)
  gone = record {
    listed = λ u r at none. let was = freed_is (holder r) u at in h.listed u r was.0 (sym (other_list pending t None u was.1) ∙ none);
    holds = λ u there. ⊎_elim
        (λ same. absurd (there (own_list pending t None u same)))
        (λ apart. let held = h.holds u (λ none. there (other_list pending t None u apart ∙ none)) in (held.0, ap (freed t) held.1 ∙ freed_other u apart))
        (cases_eq u t);
  }

-- ---- each step

has : (s : State) (cells : Cells) → AreListed s.holder cells.pending → HasLists s cells
has s cells h = record { listed = h.listed; holds = h.holds }

abbrev with_pledges : State → Pledges → State
with_pledges s pledges = record s { pledges = pledges }

module _ (s : State) (cells : Cells) (h : AreListed s.holder cells.pending) (t : ℕ) (pledges : Pledges) where
  start_lists : (x : Active) (c : ChangeValue) → (s.holder c.rid ≡ None) ⊎ (s.holder c.rid ≡ Some t) → (o : Option Pair)
      → HasLists (with_pledges (started s t x c o) pledges) (set_by_any cells (Some (first_action t c o)))
  start_lists x c mine None = has _ _ (taken_row s.holder cells.pending h t _ c.rid mine)
  start_lists x c mine (Some p) = has _ _ (taken_row s.holder cells.pending h t _ c.rid mine)

  next_lists : (x : Active) (changes : Changes) (phase : Phase) → IsHolderOf s.holder t changes
      → HasLists (with_pledges (carried_on s t x changes phase) pledges) (set_by_any cells (next_action t changes phase))
  next_lists x Unchanged phase names = has _ _ h
  next_lists x (older ▹ c) OldMarked names = has _ _ (same_holders s.holder cells.pending h t _ c.rid names.0)
  next_lists x (older ▹ c) RowSet names = has _ _ (same_holders s.holder cells.pending h t _ c.rid names.0)
  next_lists x (older ▹ c) Made names = has _ _ h
  next_lists x (older ▹ c) (NewMarked applied) names = has _ _ h
  next_lists x (older ▹ c) OldSet names = has _ _ h

  undo_begun : (x : Active) (c : ChangeValue) (older : Changes) (applied : Bool) → s.holder c.rid ≡ Some t → (old new : Option Pair)
      → HasLists (with_pledges (undone_first s t x c older applied new) pledges) (set_by_any cells (Some (begun_action t c old new)))
  undo_begun x c older applied own old None = has _ _ (same_holders s.holder cells.pending h t _ c.rid own)
  undo_begun x c older applied own old (Some p) = has _ _ (same_holders s.holder cells.pending h t _ c.rid own)

  undo_lists : (x : Active) (changes : Changes) (phase : Phase) → IsHolderOf s.holder t changes
      → HasLists (with_pledges (undone s t x changes phase) pledges) (set_by_any cells (undo_action (is_indexed s.life) t changes phase))
  undo_lists x Unchanged phase names = has _ _ h
  undo_lists x (older ▹ c) OldMarked names = undo_begun x c older false names.0 (old_pair (is_indexed s.life) c) (new_pair (is_indexed s.life) c)
  undo_lists x (older ▹ c) RowSet names = undo_begun x c older true names.0 (old_pair (is_indexed s.life) c) (new_pair (is_indexed s.life) c)
  undo_lists x (older ▹ c) Made names = undo_begun x c older true names.0 (old_pair (is_indexed s.life) c) (new_pair (is_indexed s.life) c)
  undo_lists x (older ▹ c) (NewMarked applied) names = has _ _ (same_holders s.holder cells.pending h t _ c.rid names.0)
  undo_lists x (older ▹ c) OldSet names = has _ _ (same_holders s.holder cells.pending h t _ c.rid names.0)

  left_lists : (committed : Table) (new : Cells) → new.pending ≡ with_list cells.pending t None → HasLists (with_pledges (left s t committed) pledges) new
  left_lists committed new is = has _ _ (subst (AreListed (λ r. freed t (s.holder r))) (sym is) (gone s.holder cells.pending h t))

pub lists_begin : (o : Opened) → HasLists (opened o) (opening_cells o.given)
lists_begin o = record {
  listed = λ t r at. absurd (some_none t (sym at));
  holds = λ t there. absurd (there (get-empty nat_cmp t));
}

pub lists_go_on : (s : State) (e : MachineStep) (cells : Cells) → IsWellFormed s → IsEnabled s e → HasLists s cells
    → HasLists (after s e) (set_by_any cells (action_of s e))
lists_go_on s (Begin t) cells fit enabled h = record { listed = h.listed; holds = h.holds }
lists_go_on s (Start t c) cells fit enabled h = start_lists s cells (record { listed = h.listed; holds = h.holds }) t _ (txn_at s t) c enabled.mine
    (old_pair (is_indexed s.life) c)
lists_go_on s (Next t) cells fit enabled h = next_lists s cells (record { listed = h.listed; holds = h.holds }) t _ (txn_at s t) (txn_at s t).changes
    (txn_at s t).phase (fit.txns t (txn_at s t) enabled.0).names
lists_go_on s (Undo t) cells fit enabled h = undo_lists s cells (record { listed = h.listed; holds = h.holds }) t _ (txn_at s t) (txn_at s t).changes
    (txn_at s t).phase (fit.txns t (txn_at s t) enabled).names
lists_go_on s (End t) cells fit enabled h = left_lists s cells (record { listed = h.listed; holds = h.holds }) t _ _ _ refl
lists_go_on s (Commit t) cells fit enabled h = left_lists s cells (record { listed = h.listed; holds = h.holds }) t _ _ _ refl
lists_go_on s Create cells fit enabled h = record { listed = h.listed; holds = h.holds }
lists_go_on s (Take page) cells fit enabled h = record { listed = h.listed; holds = h.holds }
lists_go_on s (Attempt p) cells fit enabled h = by (get s.entries p)
  where
    by : (o : Option Mark) → HasLists (after s (Attempt p)) (set_by_any cells (place_action p o))
    by None = record { listed = h.listed; holds = h.holds }
    by (Some mark) = record { listed = h.listed; holds = h.holds }
lists_go_on s (Checkpoint p) cells fit enabled h = record { listed = h.listed; holds = h.holds }
lists_go_on s Finish cells fit enabled h = record { listed = h.listed; holds = h.holds }
lists_go_on s (Clean p) cells fit enabled h = record { listed = h.listed; holds = h.holds }
lists_go_on s (Keep p) cells fit enabled h = record { listed = h.listed; holds = h.holds }
lists_go_on s Wrap cells fit enabled h = record { listed = h.listed; holds = h.holds }
lists_go_on s Drop cells fit enabled h = record { listed = h.listed; holds = h.holds }

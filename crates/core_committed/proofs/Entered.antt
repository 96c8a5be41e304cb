-- Each pair whose row an active transaction's change takes away has an entry, whatever steps were made.
use Rattle.std.proofs.Common.{Bool, List, None, Option, Some, ap, cond, false, inl, inr, refl, subst, sym, true, ℕ, ◌∙◌, ◌≡◌, ◌≢◌}
use Rattle.std.specs.Cmp.{nat_cmp_total}
use Rattle.std.specs.FinMap.{get, nat_cmp-IsAntisymmetric}
use Rattle.std.specs.Ordering.{eq_by_cmp, nat_cmp}
use Rattle.records.specs.ChangeValue.{ChangeValue}
use Rattle.records.specs.Spelling.{new_row, old_row}
use Rattle.record_values.specs.Maps.{get-set_at, get-set_at_other, get-set_at_same, key_is, pair_exact, set_at}
use Rattle.record_values.specs.Orders.{pair_cmp}
use Rattle.record_values.specs.declared.pair.Mark.{Mark}
use Rattle.record_values.specs.declared.pair.Mark.TheVariants.{Live, Marked}
use Rattle.record_values.specs.declared.pair.Pair.{Pair}
use Rattle.record_values.specs.KeyActions.{after_action}
use Rattle.model.specs.Table.{Table}
use Rattle.record_values.specs.Entries.{Index}
use Rattle.record_values.specs.declared.key_action.KeyAction.TheVariants.{BuildPut}
use Rattle.core_model.proofs.Laws.{build_put_some, gone_is, nat_decided, not_none, same_some, step_keeps, txn_apart, txn_here, update_apart, update_here}
use Rattle.core_model.specs.Changes.{Changes, Unchanged, new_pair, old_pair, ◌▹◌}
use Rattle.core_model.specs.Histories.{Opened, opened}
use Rattle.core_model.specs.Invariants.{Invariant, IsHolderOf, IsWellFormed, Runs, no_step, one_step}
use Rattle.core_model.specs.States.{Active, Made, NewMarked, OldMarked, OldSet, Phase, RowSet, State}
use Rattle.core_model.specs.Steps.{Attempt, Begin, Checkpoint, Clean, Commit, Create, Drop, End, Finish, IsEnabled, Keep, MachineStep, Next, Start, Take, Undo}
use Rattle.core_model.specs.Steps.{Wrap, after, carried_on, is_indexed, left, new_txn, row_made, row_undone, started, txn_at, undoing, undone, undone_first}
use Rattle.core_model.specs.Steps.{undone_row, update, with_change, with_entry, with_phase, with_txn, without_newest}

-- it has an entry, if there is a pair
abbrev pub IsEntered : Index → Option Pair → Type 0
IsEntered entries None = Unit {0}
IsEntered entries (Some p) = get entries p ≢ None

-- each pair that these changes take away has one
abbrev pub AreEntered : Bool → Index → Changes → Type 0
AreEntered indexed entries Unchanged = Unit {0}
AreEntered indexed entries (older ▹ c) = IsEntered entries (old_pair indexed c) × AreEntered indexed entries older

abbrev pub HasOldPairs : State → Type 0
HasOldPairs s = (t : ℕ) (x : Active) → s.txns t ≡ Some x → AreEntered (is_indexed s.life) s.entries x.changes

-- ---- entries that are there stay, but for one that is taken out

kept_set : (entries : Index) (p : Pair) (mark : Mark) (q : Pair) → get entries q ≢ None → get (set_at entries p (Some mark)) q ≢ None
kept_set entries p mark q there none = by (eq_by_cmp pair_cmp q p) (sym (get-set_at pair_exact entries p (Some mark) q) ∙ none)
  where
    by : (b : Bool) → cond b (Some mark) (get entries q) ≡ None → ⊥
    by true e = not_none refl e
    by false e = there e

kept_with : (entries : Index) (o : Option Pair) (mark : Mark) (q : Pair) → get entries q ≢ None → get (with_entry entries o mark) q ≢ None
kept_with entries None mark q there = there
kept_with entries (Some p) mark q there = kept_set entries p mark q there

set_there : (entries : Index) (p : Pair) (mark : Mark) → get (set_at entries p (Some mark)) p ≢ None
set_there entries p mark none = not_none (get-set_at_same pair_exact entries p (Some mark)) none

-- the builder takes none out
kept_attempt : (entries : Index) (p q : Pair) → get entries q ≢ None → get (set_at entries p (after_action BuildPut (get entries p))) q ≢ None
kept_attempt entries p q there none =
    by (eq_by_cmp pair_cmp q p) refl (sym (get-set_at pair_exact entries p (after_action BuildPut (get entries p)) q) ∙ none)
  where
    put : (o : Option Mark) → o ≢ None → after_action BuildPut o ≢ None
    put None some e = some refl
    put (Some mark) some e = not_none (build_put_some mark) e

    by : (b : Bool) → eq_by_cmp pair_cmp q p ≡ b → cond b (after_action BuildPut (get entries p)) (get entries q) ≡ None → ⊥
    by true tie e = put (get entries p) (λ gone. there (ap (get entries) (key_is pair_exact q p tie) ∙ gone)) e
    by false tie e = there e

module _ (indexed : Bool) (old new : Index) (more : (q : Pair) → get old q ≢ None → get new q ≢ None) where
  entered_more : (o : Option Pair) → IsEntered old o → IsEntered new o
  entered_more None there = tt
  entered_more (Some p) there = more p there

  all_more : (cs : Changes) → AreEntered indexed old cs → AreEntered indexed new cs
  all_more Unchanged there = tt
  all_more (older ▹ c) there = (entered_more (old_pair indexed c) there.0, all_more older there.1)

-- ---- one step

module _ (s : State) (h : HasOldPairs s) where
  abbrev IsGrown : Index → Type 0
  IsGrown entries = (q : Pair) → get s.entries q ≢ None → get entries q ≢ None

  same : IsGrown s.entries
  same q there = there

  more_of : (entries : Index) → IsGrown entries → (u : ℕ) (y : Active) → s.txns u ≡ Some y → AreEntered (is_indexed s.life) entries y.changes
  more_of entries grown u y e = all_more (is_indexed s.life) s.entries entries grown y.changes (h u y e)

  -- one transaction becomes this one
  put_txn : (entries : Index) → IsGrown entries → (t : ℕ) (x : Active) → AreEntered (is_indexed s.life) entries x.changes
      → (u : ℕ) (y : Active) → with_txn s t x u ≡ Some y → AreEntered (is_indexed s.life) entries y.changes
  put_txn entries grown t x its u y e = elim (nat_decided u t) [
    | inl here ↦ subst (λ (z : Active). AreEntered (is_indexed s.life) entries z.changes) (same_some (ap (with_txn s t x) here ∙ txn_here s t x) e) its
    | inr other ↦ more_of entries grown u y (sym (txn_apart s t x u other) ∙ e)
  ]

  left_has : (t : ℕ) (committed : Table) → HasOldPairs (left s t committed)
  left_has t committed u y e = elim (nat_decided u t) [
    | inl here ↦ absurd (not_none e (ap (update nat_cmp s.txns t None) here ∙ update_here nat_cmp_total s.txns t None))
    | inr other ↦ h u y (sym (update_apart nat_cmp-IsAntisymmetric s.txns t None u other) ∙ e)
  ]

  module _ (t : ℕ) (x : Active) (active : s.txns t ≡ Some x) where
    started_has : (c : ChangeValue) (o : Option Pair) → old_pair (is_indexed s.life) c ≡ o → HasOldPairs (started s t x c o)
    started_has c None is = put_txn s.entries same t (with_change x c (row_made (new_pair (is_indexed s.life) c)))
        (subst (IsEntered s.entries) (sym is) tt, h t x active)
    started_has c (Some p) is =
        let entries : Index = set_at s.entries p (Some Marked) in
        put_txn entries (kept_set s.entries p Marked) t (with_change x c OldMarked)
        (subst (IsEntered entries) (sym is) (set_there s.entries p Marked), more_of entries (kept_set s.entries p Marked) t x active)

    carried_has : (cs : Changes) (phase : Phase) → HasOldPairs (carried_on s t x cs phase)
    carried_has Unchanged phase = h
    carried_has (older ▹ c) OldMarked = put_txn s.entries same t (with_phase x (row_made (new_pair (is_indexed s.life) c))) (h t x active)
    carried_has (older ▹ c) RowSet =
        let grown : IsGrown (with_entry s.entries (new_pair (is_indexed s.life) c) Live) = kept_with s.entries (new_pair (is_indexed s.life) c) Live in
        put_txn (with_entry s.entries (new_pair (is_indexed s.life) c) Live) grown t (with_phase x Made)
        (more_of (with_entry s.entries (new_pair (is_indexed s.life) c) Live) grown t x active)
    carried_has (older ▹ c) Made = h
    carried_has (older ▹ c) (NewMarked applied) = h
    carried_has (older ▹ c) OldSet = h

    module _ (c : ChangeValue) (older : Changes) (newest : x.changes ≡ older ▹ c) where
      older_has : AreEntered (is_indexed s.life) s.entries older
      older_has = (subst (AreEntered (is_indexed s.life) s.entries) newest (h t x active)).1

      undone_one : (o : Option Pair) → AreEntered (is_indexed s.life) s.entries (row_undone x older o).changes
      undone_one None = older_has
      undone_one (Some p) = h t x active

      row_has : HasOldPairs (undone_row s t x c older)
      row_has = put_txn s.entries same t (row_undone x older (old_pair (is_indexed s.life) c)) (undone_one (old_pair (is_indexed s.life) c))

      first_has : (applied : Bool) (o : Option Pair) → HasOldPairs (undone_first s t x c older applied o)
      first_has applied (Some p) =
          put_txn (set_at s.entries p (Some Marked)) (kept_set s.entries p Marked) t (undoing x (NewMarked applied))
          (more_of (set_at s.entries p (Some Marked)) (kept_set s.entries p Marked) t x active)
      first_has applied None = row_has

      last_has : HasOldPairs (record s { entries = with_entry s.entries (old_pair (is_indexed s.life) c) Live; txns = with_txn s t (without_newest older) })
      last_has =
          let entries : Index = with_entry s.entries (old_pair (is_indexed s.life) c) Live in
          put_txn entries (kept_with s.entries (old_pair (is_indexed s.life) c) Live) t (without_newest older)
          (all_more (is_indexed s.life) s.entries entries (kept_with s.entries (old_pair (is_indexed s.life) c) Live) older older_has)

    undone_has : (cs : Changes) → x.changes ≡ cs → (phase : Phase) → HasOldPairs (undone s t x cs phase)
    undone_has Unchanged newest phase = put_txn s.entries same t (undoing x phase) (h t x active)
    undone_has (older ▹ c) newest OldMarked = first_has c older newest false (new_pair (is_indexed s.life) c)
    undone_has (older ▹ c) newest RowSet = first_has c older newest true (new_pair (is_indexed s.life) c)
    undone_has (older ▹ c) newest Made = first_has c older newest true (new_pair (is_indexed s.life) c)
    undone_has (older ▹ c) newest (NewMarked applied) = row_has c older newest
    undone_has (older ▹ c) newest OldSet = last_has c older newest

  -- the cleaner takes out an entry whose row nobody holds
  module _ (p : Pair) (free : s.holder p.rid ≡ None) (u : ℕ) where
    clean_apart : (c : ChangeValue) → s.holder c.rid ≡ Some u → (o : Option Pair) → old_pair (is_indexed s.life) c ≡ o → IsEntered s.entries o
        → IsEntered (set_at s.entries p None) o
    clean_apart c held None is there = tt
    clean_apart c held (Some q) is there = λ none. there (sym (get-set_at_other pair_exact s.entries p None q apart) ∙ none)
      where
        place : q.rid ≡ c.rid
        place = ap (λ (r : Pair). r.rid) (gone_is (is_indexed s.life) c.rid (old_row c.rows) (new_row c.rows) q is).pair

        apart : q ≢ p
        apart one = not_none held (ap s.holder (sym place ∙ ap (λ (r : Pair). r.rid) one) ∙ free)

    clean_all : (cs : Changes) → IsHolderOf s.holder u cs → AreEntered (is_indexed s.life) s.entries cs
        → AreEntered (is_indexed s.life) (set_at s.entries p None) cs
    clean_all Unchanged names there = tt
    clean_all (older ▹ c) names there = (clean_apart c names.0 (old_pair (is_indexed s.life) c) refl there.0, clean_all older names.1 there.1)

-- ---- every step

none_active : (s : State) → ((t : ℕ) → s.txns t ≡ None) → (indexed : Bool) (entries : Index) (t : ℕ) (x : Active) → s.txns t ≡ Some x
    → AreEntered indexed entries x.changes
none_active s quiet indexed entries t x e = absurd (not_none e (quiet t))

step_has : (s : State) (e : MachineStep) → IsWellFormed s → HasOldPairs s → IsEnabled s e → HasOldPairs (after s e)
step_has s (Begin t) i h a = put_txn s h s.entries (same s h) t new_txn tt
step_has s (Start t c) i h a = started_has s h t (txn_at s t) a.active c (old_pair (is_indexed s.life) c) refl
step_has s (Next t) i h a = carried_has s h t (txn_at s t) a.0 (txn_at s t).changes (txn_at s t).phase
step_has s (Undo t) i h a = undone_has s h t (txn_at s t) a (txn_at s t).changes refl (txn_at s t).phase
step_has s (End t) i h a = left_has s h t s.committed
step_has s (Commit t) i h a = left_has s h t (after s (Commit t)).committed
step_has s Create i h a = none_active s a.1 true s.entries
step_has s (Take page) i h a = h
step_has s (Attempt p) i h a = more_of s h (set_at s.entries p (after_action BuildPut (get s.entries p))) (kept_attempt s.entries p)
step_has s (Checkpoint p) i h a = λ u y e. subst (λ b. AreEntered b s.entries y.changes) (ap is_indexed a.0.1) (h u y e)
step_has s Finish i h a = λ u y e. subst (λ b. AreEntered b s.entries y.changes) (ap is_indexed a.building.1) (h u y e)
step_has s (Clean p) i h a = λ u y e. clean_all s h p a.free u y.changes (i.txns u y e).names (h u y e)
step_has s (Keep p) i h a = h
step_has s Wrap i h a = h
step_has s Drop i h a = λ t x e. absurd (not_none e (a.1 t))

run_has : (s s' : State) (es : List MachineStep) → Runs s es s' → Invariant s → HasOldPairs s → HasOldPairs s'
run_has s s' es no_step i h = h
run_has s s' es (one_step e rest enabled r) i h = run_has (after s e) s' rest r (step_keeps s e i enabled) (step_has s e i.fit h enabled)

-- a run that begins with no transaction
pub opened_has : (o : Opened) (s : State) (es : List MachineStep) → Runs (opened o) es s → Invariant (opened o) → HasOldPairs s
opened_has o s es r i = run_has (opened o) s es r i (λ t x e. absurd (not_none e refl))

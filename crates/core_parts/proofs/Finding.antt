-- What is found of a key.
use Rattle.std.proofs.Common.{suc, Err, List, None, Ok, Option, Result, Some, [], arith, inl, inr, length, refl, subst, sym, ℕ, ◌<◌, ◌∙◌, ◌∷◌, ◌≡◌}
use Rattle.std.specs.FinMap.{get}
use Rattle.std.specs.List.{AllByRecursion, AllPairs, Contains}
use Rattle.std.specs.List.Sorted.{IsStrictlySortedBy}
use Rattle.std.specs.Prelude.{IfErr, IfOk, slice_index_or, ◌↔◌}
use Rattle.std.specs.declared.cmp.Ordering.TheVariants.{Less}
use Rattle.record_values.specs.Orders.{rid_cmp}
use Rattle.record_values.specs.Values.{Place}
use Rattle.record_values.specs.declared.error.Error.{Error}
use Rattle.record_values.specs.declared.pair.Mark.TheVariants.{Live}
use Rattle.record_values.specs.declared.pair.Pair.{Pair}
use Rattle.model.specs.declared.life.Life.{Life}
use Rattle.model.specs.declared.life.Life.TheVariants.{Absent, Building, Complete}
use Rattle.marked_index.proofs.LivePlaces.{live_places}
use Rattle.marked_index.specs.Shown.{mark_at}
use Rattle.core_model.specs.Events.{Event, Found, Refused, Standing}
use Rattle.core_model.specs.Replies.{IsStepDue, IsFirst, accepted, no_memory, refusals, refused}
use Rattle.core_model.specs.States.{State}
use Rattle.core_parts.specs.Replies.{reply_by}
use Rattle.core_parts.specs.View.{Answers, CoreValue, IsState, Serves, Shows}
use Rattle.core_parts.proofs.Building.{building_apart, complete_apart}
use Rattle.core_parts.proofs.Due.{refusal, still}

-- ---- places in order
all_from : (P : Place → Type 0) (xs : List Place) → ((j : ℕ) (d : Place) → j < length xs → P (slice_index_or xs j d)) → AllByRecursion P xs
all_from P [] f = tt
all_from P (y ∷ ys) f = (f 0 y (omega arith), all_from P ys (λ j d less. f (suc j) d (omega (arith, less))))

sorted_from : (xs : List Place) → AllPairs (λ r s. rid_cmp r s ≡ Less) xs → IsStrictlySortedBy rid_cmp xs
unfolding IsStrictlySortedBy
sorted_from [] a = tt
sorted_from (x ∷ xs) a = (
  all_from (λ s. rid_cmp x s ≡ Less) xs (λ j d less. a 0 (suc j) d (omega arith) (omega (arith, less))),
  sorted_from xs (λ i j d l m. a (suc i) (suc j) d (omega (arith, l)) (omega (arith, m))),
)

pub sorted_ok : {X : Type 0} (f : X → List Place) (result : Result X Error) → IfOk result (λ x. AllPairs (λ r s. rid_cmp r s ≡ Less) (f x))
    → IfOk result (λ x. IsStrictlySortedBy rid_cmp (f x))
sorted_ok f (Ok x) h = sorted_from (f x) h
sorted_ok f (Err e) h = tt

-- ---- what a look-up serves
pub nothing_to_find : (v : CoreValue) (key : List ℕ) → v.life ≡ Absent → Serves v (Event.Find key) (Refused Error.NoIndex) v
nothing_to_find v key e s k st = refusal v s k (Event.Find key) Error.NoIndex st.shown (refused (λ x. x) tt Error.NoIndex (inl (st.shown.life ∙ e, refl)))

pub not_built : (v : CoreValue) (key : List ℕ) (highest : Option Pair) → v.life ≡ Building highest → Serves v (Event.Find key) (Refused Error.NotBuilt) v
not_built v key highest e s k st = refusal v s k (Event.Find key) Error.NotBuilt st.shown
    (refused (λ x. x) tt Error.NotBuilt (inr (building_apart s.life highest (st.shown.life ∙ e), inl ((highest, st.shown.life ∙ e), refl))))

complete_not : (life : Life) (highest : Option Pair) → life ≡ Complete → life ≡ Building highest → ⊥
complete_not life highest e f = cc

module _ (v : CoreValue) (key : List ℕ) (complete : v.life ≡ Complete) (s : State) (k : Standing) (st : IsState v s k) where
  abbrev h : Shows v s k
  h = st.shown

  first : IsFirst (refusals s k (Event.Find key)) None
  first = inr (complete_apart s.life (h.life ∙ complete), inr (λ b. complete_not s.life b.0 (h.life ∙ complete) b.1, refl))

  found_due : (rids : List Place) → IsStrictlySortedBy rid_cmp rids → ((r : Place) → Contains rids r ↔ (mark_at v.index.entries key r ≡ Some Live))
      → IsStepDue s k (Event.Find key) (Found rids) None
  found_due rids sorted each = (
    rids,
    record {
      live = λ r.
          subst (λ m. Contains rids r ↔ (get m (record { key = key; rid = r }) ≡ Some Live)) (sym h.entries) (each r);
      in_order = sorted;
    },
    refl,
    refl,
  )

  found_made : (rids : List Place) → IsStrictlySortedBy rid_cmp rids → ((r : Place) → Contains rids r ↔ (mark_at v.index.entries key r ≡ Some Live))
      → Answers v s k (Event.Find key) (Found rids) v
  found_made rids sorted each = still v s k (Event.Find key) (Found rids) h refl
      (accepted (λ x. x) tt first (Found rids) None (found_due rids sorted each) refl)

  wants : (error : Error) → error ≡ Error.NoMemory → Answers v s k (Event.Find key) (Refused error) v
  wants error e = subst (λ x. Answers v s k (Event.Find key) (Refused x) v) (sym e)
      (refusal v s k (Event.Find key) Error.NoMemory h (no_memory (λ x. x) tt first (Found all.0) None all.1 refl tt))
    where
      all : (rids : List Place) × IsStepDue s k (Event.Find key) (Found rids) None
      all = let p = live_places v.index.entries key in (p.0, found_due p.0 p.1 p.2)

-- what a look-up serves whose list was asked for
pub find_serves : {X : Type 0} (f : X → List Place) (v : CoreValue) (key : List ℕ) → v.life ≡ Complete → (result : Result X Error)
    → IfOk result (λ x. IsStrictlySortedBy rid_cmp (f x)) → IfOk result (λ x. (r : Place) → Contains (f x) r ↔ (mark_at v.index.entries key r ≡ Some Live))
    → IfErr result (λ e. e ≡ Error.NoMemory)
    → Serves v (Event.Find key) (reply_by (λ x. Found (f x)) result) v
find_serves f v key complete (Ok x) sorted each why s k st = found_made v key complete s k st (f x) sorted each
find_serves f v key complete (Err error) sorted each why s k st = wants v key complete s k st error why

-- The least free place.
use Rattle.std.proofs.Common.{◌≡◌, ◌≢◌, ℕ, ◌+◌, ◌-◌, ◌*◌, ◌/◌, ◌%◌, ◌<◌, ◌≤◌, Bool, true, false, List, length, Some, None, IsSome, get_or, slice_get}
use Rattle.std.proofs.Common.{option_and_then, refl, sym, ap, subst, ◌∙◌, arith, eqb, ◌⊎◌, inl, inr}
use Rattle.std.proofs.lemmas.Bool.{cases_lt}
use Rattle.std.proofs.lemmas.Bool.Decides.{eqb_tells}
use Rattle.std.proofs.lemmas.Option.{slice_get_within, slice_get-get_or}
use Rattle.std.specs.declared.cmp.Ordering.TheVariants.{Less}
use Rattle.std.specs.FinMap.{get, empty}
use Rattle.record_values.specs.Values.{Place, is_among}
use Rattle.record_values.specs.Orders.{rid_cmp}
use Rattle.record_values.specs.declared.rid.TheConstants.{SLOTS_PER_PAGE}
use Rattle.record_values.specs.declared.row.Row.{Row}
use Rattle.heap_pages.specs.Slots.{Slots, IsFreeSlot, NoneFree}
use Rattle.heap_pages.specs.Pages.{HeapValue, OthersAreFull, IsEmptyAndUnheld, is_open}
use Rattle.heap_pages.proofs.Cells.{at}
use Rattle.heap_pages.proofs.Held.{among_from-Contains, not_among}
use Rattle.heap_pages.proofs.RidOrder.{page_before, slot_before}
use Rattle.heap_pages.proofs.Writes.{shown_of, row_of_page}

-- which slots of page n are among the held places
abbrev AreHeldSlots : ℕ → List Place → List Bool → Type 0
AreHeldSlots n held taken = (s : ℕ) → s < SLOTS_PER_PAGE → slice_get taken s ≡ Some (is_among (at n s) held)

abbrev NoneOnEarlierPages : HeapValue → List Place → ℕ → Type 0
NoneOnEarlierPages h held n = (q : Place) → q.page < n → ¬ IsEmptyAndUnheld h held q

module _ (pages : List Slots) (h : HeapValue) (held : List Place) (n : ℕ) (page : Slots) (is : shown_of pages ≡ h) (here : slice_get pages n ≡ Some page) where
  -- a free place of page n is an empty slot
  empty_slot : (q : Place) → IsEmptyAndUnheld h held q → q.page ≡ n → get page q.slot ≡ None
  empty_slot q free e = sym (row_of_page pages h n q.slot q page is (ap (λ k. at k q.slot) (sym e)) here free.inside.1) ∙ free.empty

  -- and a free one
  free_slot : (taken : List Bool) (q : Place) → AreHeldSlots n held taken → IsEmptyAndUnheld h held q → q.page ≡ n → IsFreeSlot page taken q.slot
  free_slot taken q each free e = (
    empty_slot q free e,
    each q.slot free.inside.1
        ∙ ap Some (ap (λ k. is_among (at k q.slot) held) (sym e) ∙ not_among q held free.not_held),
  )

  -- and a free slot of page n is a free place
  pub free_place : (s : ℕ) (taken : List Bool) → AreHeldSlots n held taken → s < SLOTS_PER_PAGE → IsFreeSlot page taken s → IsEmptyAndUnheld h held (at n s)
  free_place s taken each within free = record {
    inside = (subst (λ (v : HeapValue). n < v.pages) is (slice_get_within pages n page here), within);
    empty = row_of_page pages h n s (at n s) page is refl here within ∙ free.0;
    not_held = λ holds.
        let among = among_from-Contains (at n s) held holds in
        let same : Some (is_among (at n s) held) ≡ Some false = sym (each s within) ∙ free.1 in
        absurd cc;
  }

  -- no free place is before the first free slot of the first page with one
  pub none_before : (s : ℕ) (taken : List Bool) → AreHeldSlots n held taken → NoneOnEarlierPages h held n → NoneFree s page taken → (q : Place)
      → IsEmptyAndUnheld h held q → rid_cmp q (at n s) ≢ Less
  none_before s taken each none first q free less = by (eqb_tells q.page n)
    where
      by : ((eqb q.page n ≡ true) × (q.page ≡ n)) ⊎ ((eqb q.page n ≡ false) × (q.page ≢ n)) → ⊥
      by (inl p) = first q.slot (slot_before q (at n s) less p.1) (free_slot taken q each free p.1)
      by (inr p) = let ne = p.1 in let le = page_before q (at n s) less in none q (omega arith) free

  -- a page without a free place is passed
  passed : ((q : Place) → q.page ≡ n → ¬ IsEmptyAndUnheld h held q) → NoneOnEarlierPages h held n → NoneOnEarlierPages h held (n + 1)
  passed none_here none q below free = by (eqb_tells q.page n)
    where
      by : ((eqb q.page n ≡ true) × (q.page ≡ n)) ⊎ ((eqb q.page n ≡ false) × (q.page ≢ n)) → ⊥
      by (inl p) = none_here q p.1 free
      by (inr p) = let ne = p.1 in none q (omega arith) free

  pub none_further : (taken : List Bool) → AreHeldSlots n held taken → NoneOnEarlierPages h held n → NoneFree SLOTS_PER_PAGE page taken
      → NoneOnEarlierPages h held (n + 1)
  none_further taken each none all = passed (λ q e free. all q.slot free.inside.1 (free_slot taken q each free e)) none

  pub none_further_full : NoneOnEarlierPages h held n → ((s : ℕ) → s < SLOTS_PER_PAGE → IsSome (get page s)) → NoneOnEarlierPages h held (n + 1)
  none_further_full none full = passed (λ q e free.
      let there : IsSome (get page q.slot) = full q.slot free.inside.1 in
      let gone = empty_slot q free e in
      let some : IsSome {T = Row} None = subst IsSome gone there in
      absurd cc) none

-- where the set of a run has no page, none of the run has a free place
pub none_in_run : (pages : List Slots) (h : HeapValue) (held : List Place) (sets : List (List Bool)) (run : List Bool) (k : ℕ) → shown_of pages ≡ h
    → OthersAreFull sets pages → slice_get sets k ≡ Some run → ((s : ℕ) → s < SLOTS_PER_PAGE → slice_get run s ≡ Some false)
    → NoneOnEarlierPages h held (k * SLOTS_PER_PAGE) → NoneOnEarlierPages h held ((k + 1) * SLOTS_PER_PAGE)
none_in_run pages h held sets run k is others here closed none q below free = by (cases_lt q.page (k * SLOTS_PER_PAGE))
  where
    by : (q.page < k * SLOTS_PER_PAGE) ⊎ (k * SLOTS_PER_PAGE ≤ q.page) → ⊥
    by (inl low) = none q low free
    by (inr high) =
        let whole : q.page / SLOTS_PER_PAGE ≡ k = omega (arith, high, below) in
        let inside : q.page < length pages = subst (λ (n : ℕ). q.page < n) (sym (ap (λ (v : HeapValue). v.pages) is)) free.inside.0 in
        let page = get_or pages q.page empty in
        let there : slice_get pages q.page ≡ Some page = slice_get-get_or pages q.page empty inside in
        let flag : is_open sets q.page ≡ Some false =
        ap (option_and_then (λ (l : List Bool). slice_get l (q.page % SLOTS_PER_PAGE))) (ap (slice_get sets) whole ∙ here)
        ∙ closed (q.page % SLOTS_PER_PAGE) (omega arith) in
        let full : IsSome (get page q.slot) = others q.page page there flag q.slot free.inside.1 in
        let gone = empty_slot pages h held q.page page is there q free refl in
        let some : IsSome {T = Row} None = subst IsSome gone full in
        absurd cc

-- what the set of a run tells of a page
pub flag_at : (sets : List (List Bool)) (run : List Bool) (k n : ℕ) (b : Bool) → slice_get sets k ≡ Some run → k * SLOTS_PER_PAGE ≤ n
    → n < (k + 1) * SLOTS_PER_PAGE → slice_get run (n - k * SLOTS_PER_PAGE) ≡ Some b → is_open sets n ≡ Some b
flag_at sets run k n b here low high told =
    let whole : n / SLOTS_PER_PAGE ≡ k = omega (arith, high, low) in
    let rest : n % SLOTS_PER_PAGE ≡ n - k * SLOTS_PER_PAGE = omega (arith, high, low) in
    ap (option_and_then (λ (l : List Bool). slice_get l (n % SLOTS_PER_PAGE))) (ap (slice_get sets) whole ∙ here) ∙ ap (slice_get run) rest ∙ told

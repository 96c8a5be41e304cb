-- The slots of a page that have no row, and the first of them that is not held.
use Rattle.std.proofs.Common.{◌≡◌, ℕ, zero, suc, ◌<◌, ◌≤◌, Bool, true, false, List, ◌∷◌, map, replicate, length, Option, Some, None}
use Rattle.std.proofs.Common.{is_none, is_some, not, slice_get, get_or, option_map, MatchOption, IsSome, refl, sym, ap, ◌∙◌, subst, arith, ⊎_elim}
use Rattle.std.proofs.lemmas.List.{length-map}
use Rattle.std.proofs.lemmas.Option.{slice_get-map, slice_get-get_or, slice_get_within}
use Rattle.std.proofs.lemmas.Bool.{cases_lt}
use Rattle.std.specs.Prelude.{IfSome, IfNone, IsTrue, ◌↔◌}
use Rattle.std.specs.FinMap.{get}
use Rattle.record_values.specs.declared.rid.TheConstants.{SLOTS_PER_PAGE}
use Rattle.record_values.specs.declared.row.Row.{Row}
use Rattle.heap_pages.specs.Slots.{Slots, page_of, NoneFree, IsFirstFree}
use Rattle.heap_pages.proofs.SlotLists.{slot_shown, no_slot_there}

-- in a page without rows each slot is open
pub all_open : (n : ℕ) → replicate n true ≡ map (is_none {T = Row}) (replicate n None)
all_open zero = refl
all_open (suc n) = ap (λ (l : List Bool). true ∷ l) (all_open n)

-- whether a row is none, by whether it is some
pub none_told : (b : Bool) (o : Option Row) → is_some o ≡ not b → b ≡ is_none o
none_told true None told = refl
none_told false None told = absurd cc
none_told true (Some row) told = absurd cc
none_told false (Some row) told = refl

open_slot : (slots : List (Option Row)) (page : Slots) (s : ℕ) → page_of slots ≡ page → slice_get (map is_none slots) s ≡ Some true → get page s ≡ None
open_slot slots page s is e = by (slice_get slots s) refl (sym (slice_get-map is_none slots s) ∙ e)
  where
    by : (o : Option (Option Row)) → slice_get slots s ≡ o → option_map is_none o ≡ Some true → get page s ≡ None
    by None here h = absurd cc
    by (Some None) here h = sym (slot_shown slots page s None is here)
    by (Some (Some row)) here h = absurd cc

empty_slot : (slots : List (Option Row)) (page : Slots) (s : ℕ) → page_of slots ≡ page → length slots ≡ SLOTS_PER_PAGE → s < SLOTS_PER_PAGE
    → get page s ≡ None → slice_get (map is_none slots) s ≡ Some true
empty_slot slots page s is long within e =
    let here = slice_get-get_or slots s None (omega arith) in
    slice_get-map is_none slots s
    ∙ ap (option_map is_none) (here ∙ ap Some (slot_shown slots page s (get_or slots s None) is here ∙ e))

taken_slot : (slots : List (Option Row)) (page : Slots) (s : ℕ) → page_of slots ≡ page → slice_get (map is_none slots) s ≡ Some false
    → IsSome (get page s)
taken_slot slots page s is e = by (slice_get slots s) refl (sym (slice_get-map is_none slots s) ∙ e)
  where
    by : (o : Option (Option Row)) → slice_get slots s ≡ o → option_map is_none o ≡ Some false → IsSome (get page s)
    by None here h = absurd cc
    by (Some None) here h = absurd cc
    by (Some (Some row)) here h = subst IsSome (slot_shown slots page s (Some row) is here) refl

row_slot : (slots : List (Option Row)) (page : Slots) (s : ℕ) → page_of slots ≡ page → length slots ≡ SLOTS_PER_PAGE → s < SLOTS_PER_PAGE
    → IsSome (get page s) → slice_get (map is_none slots) s ≡ Some false
row_slot slots page s is long within there =
    let here = slice_get-get_or slots s None (omega arith) in
    slice_get-map is_none slots s ∙ ap (option_map is_none) here
    ∙ by (get_or slots s None) (subst IsSome (sym (slot_shown slots page s (get_or slots s None) is here)) there)
  where
    by : (o : Option Row) → IsSome o → option_map is_none (Some o) ≡ Some false
    by None some = absurd cc
    by (Some row) some = refl

-- what tells whether a slot is open tells whether it has a row
pub row_told : (slots : List (Option Row)) (page : Slots) (s : ℕ) (open_slots : List Bool) → page_of slots ≡ page → open_slots ≡ map is_none slots → (b : Bool)
    → slice_get open_slots s ≡ Some b → not b ≡ is_some (get page s)
row_told slots page s open_slots is told true e =
    sym (ap is_some (open_slot slots page s is (ap (λ (l : List Bool). slice_get l s) (sym told) ∙ e)))
row_told slots page s open_slots is told false e =
    sym (taken_slot slots page s is (ap (λ (l : List Bool). slice_get l s) (sym told) ∙ e))

module _ (slots : List (Option Row)) (page : Slots) (is : page_of slots ≡ page) (long : length slots ≡ SLOTS_PER_PAGE) (flags held : List Bool)
    (told : flags ≡ map is_none slots) where
  in_open : (s : ℕ) → s < SLOTS_PER_PAGE → get page s ≡ None → slice_get flags s ≡ Some true
  in_open s within e = ap (λ (l : List Bool). slice_get l s) told ∙ empty_slot slots page s is long within e

  within_page : (s : ℕ) → slice_get flags s ≡ Some true → s < SLOTS_PER_PAGE
  within_page s e =
      let within = slice_get_within (map is_none slots) s true (ap (λ (l : List Bool). slice_get l s) (sym told) ∙ e) in
      let same = length-map slots (is_none {T = Row}) in
      omega arith

  pub full_is : (b : Bool) → (IsTrue b ↔ ((s : ℕ) → s < SLOTS_PER_PAGE → slice_get flags s ≡ Some false))
      → (IsTrue b ↔ ((s : ℕ) → s < SLOTS_PER_PAGE → IsSome (get page s)))
  full_is b none = (
    λ full s within. taken_slot slots page s is (ap (λ (l : List Bool). slice_get l s) (sym told) ∙ none.0 full s within),
    λ each. none.1 (λ s within. ap (λ (l : List Bool). slice_get l s) told ∙ row_slot slots page s is long within (each s within)),
  )

  pub none_there : ((s : ℕ) → s < SLOTS_PER_PAGE → slice_get flags s ≡ Some true) → (s : ℕ) → get page s ≡ None
  none_there all s = ⊎_elim
      (λ (low : s < SLOTS_PER_PAGE). open_slot slots page s is (ap (λ (l : List Bool). slice_get l s) (sym told) ∙ all s low))
      (λ (high : SLOTS_PER_PAGE ≤ s). sym (no_slot_there slots page s is (omega (arith, high, long))))
      (cases_lt s SLOTS_PER_PAGE)

  -- the slots below n that have no row are held
  none_free : (n : ℕ) → n ≤ SLOTS_PER_PAGE → ((t : ℕ) → t < n → slice_get flags t ≡ Some true → slice_get held t ≡ Some true) → NoneFree n page held
  none_free n low each s below free =
      let held_there = each s below (in_open s (omega arith) free.0) in
      let same : Some true ≡ Some false = sym held_there ∙ free.1 in
      absurd cc

  pub first_free_is : (r : Option ℕ) → IfSome r (λ s. (slice_get flags s ≡ Some true) × (slice_get held s ≡ Some false))
      → IfSome r (λ s. (t : ℕ) → t < s → slice_get flags t ≡ Some true → slice_get held t ≡ Some true)
      → IfNone r ((t : ℕ) → slice_get flags t ≡ Some true → slice_get held t ≡ Some true)
      → MatchOption r (NoneFree SLOTS_PER_PAGE page held) (IsFirstFree page held)
  first_free_is None found first none = none_free SLOTS_PER_PAGE (omega arith) (λ t below has. none t has)
  first_free_is (Some s) found first none =
      let within = within_page s found.0 in
      record {
        inside = within;
        free = (open_slot slots page s is (ap (λ (l : List Bool). slice_get l s) (sym told) ∙ found.0), found.1);
        first = none_free s (omega (arith, within)) first;
      }

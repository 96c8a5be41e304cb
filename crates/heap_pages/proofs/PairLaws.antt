-- Which pairs the rows of a page have, and their order.
use Rattle.std.proofs.Common.{◌≡◌, ℕ, zero, suc, ◌+◌, ◌<◌, ◌≤◌, List, [], ◌∷◌, map, length, Contains, Option, Some, None, slice_get, slice_index}
use Rattle.std.proofs.Common.{slice_index_or, option_and_then, refl, sym, ap, subst, ◌∙◌, arith}
use Rattle.std.specs.List.{All}
use Rattle.std.specs.List.Sorted.{IsStrictlyIncreasing}
use Rattle.std.proofs.lemmas.List.Elements.{All-nil, All-cons}
use Rattle.std.specs.FinMap as map_of
use Rattle.record_values.specs.Values.{Place}
use Rattle.record_values.specs.declared.row.Row.{Row}
use Rattle.record_values.specs.declared.pair.Pair.{Pair}
use Rattle.heap_pages.specs.Pages.{HeapValue, page_entries, row_pair, IsPairOnPage}
use Rattle.heap_pages.proofs.SlotLists.{cell}
use Rattle.heap_pages.proofs.Cells.{at, row_at, get-rows_of}
use Rattle.heap_pages.proofs.Writes.{value_of, row_found}

-- the pair of the row in a slot, the slots being those from slot i on
record IsPairInSlots (n i : ℕ) (slots : List (Option Row)) (p : Pair) : Type 0 where
  index : ℕ
  row : Row
  is_there : slice_get slots index ≡ Some (Some row)
  place : at n (i + index) ≡ p.rid
  has_key : row.key ≡ p.key

later : (n i : ℕ) (o : Option Row) (slots : List (Option Row)) (p : Pair) → IsPairInSlots n (i + 1) slots p → IsPairInSlots n i (o ∷ slots) p
later n i o slots p is = record {
  index = suc is.index;
  row = is.row;
  is_there = is.is_there;
  place = (let same : i + suc is.index ≡ i + 1 + is.index = omega arith in ap (at n) same) ∙ is.place;
  has_key = is.has_key;
}

from_pairs : (n i : ℕ) (slots : List (Option Row)) (p : Pair) → Contains (map row_pair (page_entries n i slots)) p → IsPairInSlots n i slots p
from_pairs n i [] p found = let none = found.1 in absurd (omega arith)
from_pairs n i (None ∷ slots) p found = later n i None slots p (from_pairs n (i + 1) slots p found)
from_pairs n i (Some row ∷ slots) p found = by (from_pairs n (i + 1) slots p) found.0 found.1 found.2
  where
    by : (Contains (map row_pair (page_entries n (i + 1) slots)) p → IsPairInSlots n (i + 1) slots p)
        → (k : ℕ) → k < length (map row_pair (page_entries n i (Some row ∷ slots)))
        → slice_index_or (map row_pair (page_entries n i (Some row ∷ slots))) k p ≡ p → IsPairInSlots n i (Some row ∷ slots) p
    by rest zero within is = record {
      index = zero;
      row = row;
      is_there = refl;
      place = (let same : i + 0 ≡ i = omega arith in ap (at n) same) ∙ ap (λ (x : Pair). x.rid) is;
      has_key = ap (λ (x : Pair). x.key) is;
    }
    by rest (suc k) within is = later n i (Some row) slots p (rest (k, omega arith, is))

into_pairs : (n i : ℕ) (slots : List (Option Row)) (k : ℕ) (row : Row) → slice_get slots k ≡ Some (Some row)
    → Contains (map row_pair (page_entries n i slots)) (row_pair (at n (i + k), row))
into_pairs n i [] k row here = absurd cc
into_pairs n i (None ∷ slots) zero row here = absurd cc
into_pairs n i (None ∷ slots) (suc k) row here =
    let same : i + 1 + k ≡ i + suc k = omega arith in
    ap_contains same (into_pairs n (i + 1) slots k row here)
  where
    ap_contains : {a b : ℕ} → a ≡ b → Contains (map row_pair (page_entries n (i + 1) slots)) (row_pair (at n a, row))
        → Contains (map row_pair (page_entries n (i + 1) slots)) (row_pair (at n b, row))
    ap_contains e = subst (λ j. Contains (map row_pair (page_entries n (i + 1) slots)) (row_pair (at n j, row))) e
into_pairs n i (Some first ∷ slots) zero row here =
    let same : first ≡ row = cc in
    let slot : i ≡ i + 0 = omega arith in
    (0, omega arith, λ j. row_pair (at n (slot j), same j))
into_pairs n i (Some first ∷ slots) (suc k) row here =
    let same : i + 1 + k ≡ i + suc k = omega arith in
    let found = into_pairs n (i + 1) slots k row here in
    let within = found.1 in
    subst (λ j. Contains (map row_pair (page_entries n i (Some first ∷ slots))) (row_pair (at n j, row))) same (suc found.0, omega arith, found.2)

-- the pairs of a page's slots are those of the table's rows on this page
pub pair_on_page : (pages : List (List (Option Row))) (h : HeapValue) (n : ℕ) (slots : List (Option Row)) (p : Pair) → value_of pages ≡ h
    → slice_get pages n ≡ Some slots
    → Contains (map row_pair (page_entries n 0 slots)) p → IsPairOnPage h.rows n p
pair_on_page pages h n slots p is page found =
    let own = from_pairs n 0 slots p found in
    let place : at n own.index ≡ p.rid = (let same : own.index ≡ 0 + own.index = omega arith in ap (at n) same) ∙ own.place in
    record {
      row = own.row;
      is_there = row_found pages h n own.index p.rid slots (Some own.row) is place page own.is_there;
      has_key = own.has_key;
      on_page = sym (ap (λ (r : Place). r.page) place);
    }

slot_has : (slots : List (Option Row)) (s : ℕ) (row : Row) → cell slots s ≡ Some row → slice_get slots s ≡ Some (Some row)
slot_has [] s row e = absurd cc
slot_has (o ∷ slots) zero row e = ap Some e
slot_has (o ∷ slots) (suc s) row e = slot_has slots s row e

pub pair_in_slots : (pages : List (List (Option Row))) (h : HeapValue) (n : ℕ) (slots : List (Option Row)) (p : Pair) → value_of pages ≡ h
    → slice_get pages n ≡ Some slots
    → IsPairOnPage h.rows n p → Contains (map row_pair (page_entries n 0 slots)) p
pair_in_slots pages h n slots p is page own =
    let there : row_at pages p.rid ≡ Some own.row = sym (get-rows_of pages p.rid) ∙ (λ i. map_of.get ((is i).rows) p.rid) ∙ own.is_there in
    let here : cell slots p.rid.slot ≡ Some own.row =
    sym (ap (option_and_then (λ xs. cell xs p.rid.slot)) (ap (slice_get pages) own.on_page ∙ page)) ∙ there in
    let found = into_pairs n 0 slots p.rid.slot own.row (slot_has slots p.rid.slot own.row here) in
    let slot : 0 + p.rid.slot ≡ p.rid.slot = omega arith in
    let same : row_pair (at n (0 + p.rid.slot), own.row) ≡ p = λ i. record { key = own.has_key i; rid = record { page = sym own.on_page i; slot = slot i } } in
    subst (Contains (map row_pair (page_entries n 0 slots))) same found

IsStrictlyIncreasing-cons : (x : ℕ) (xs : List ℕ) → (0 < length xs → x < slice_index xs 0) → IsStrictlyIncreasing xs → IsStrictlyIncreasing (x ∷ xs)
IsStrictlyIncreasing-cons x xs first rising zero within = first (omega arith)
IsStrictlyIncreasing-cons x xs first rising (suc k) within =
    let next : suc k + 1 ≡ suc (k + 1) = omega arith in
    subst (λ j. slice_index xs k < slice_index (x ∷ xs) j) (sym next) (rising k (omega arith))

rising_from : (n i : ℕ) (slots : List (Option Row)) → IsStrictlyIncreasing (map (λ (p : Pair). p.rid.slot) (map row_pair (page_entries n i slots)))
    × (0 < length (map (λ (p : Pair). p.rid.slot) (map row_pair (page_entries n i slots)))
    → i ≤ slice_index (map (λ (p : Pair). p.rid.slot) (map row_pair (page_entries n i slots))) 0)
rising_from n i [] = (λ k within. absurd (omega arith), λ some. absurd (omega arith))
rising_from n i (None ∷ slots) = let rest = rising_from n (i + 1) slots in (rest.0, λ some. let first = rest.1 some in omega arith)
rising_from n i (Some row ∷ slots) =
    let rest = rising_from n (i + 1) slots in (
      IsStrictlyIncreasing-cons i (map (λ (p : Pair). p.rid.slot) (map row_pair (page_entries n (i + 1) slots))) (λ some. let first = rest.1 some in
          omega arith) rest.0,
      λ some. omega arith,
    )

-- the slots of the pairs rise
pub slots_rise : (n : ℕ) (slots : List (Option Row)) → IsStrictlyIncreasing (map (λ (p : Pair). p.rid.slot) (map row_pair (page_entries n 0 slots)))
slots_rise n slots = (rising_from n 0 slots).0

few_from : (n i : ℕ) (slots : List (Option Row)) → length (map row_pair (page_entries n i slots)) ≤ length slots
few_from n i [] = omega arith
few_from n i (None ∷ slots) = let few = few_from n (i + 1) slots in omega (arith, few)
few_from n i (Some row ∷ slots) = let few = few_from n (i + 1) slots in omega (arith, few)

-- there are no more pairs than slots
pub few_pairs : (n : ℕ) (slots : List (Option Row)) → length (map row_pair (page_entries n 0 slots)) ≤ length slots
few_pairs n slots = few_from n 0 slots

own_from : (n i : ℕ) (slots : List (Option Row)) → All (λ (p : Pair). p.rid.page ≡ n) (map row_pair (page_entries n i slots))
own_from n i [] = All-nil (λ (p : Pair). p.rid.page ≡ n)
own_from n i (None ∷ slots) = own_from n (i + 1) slots
own_from n i (Some row ∷ slots) = All-cons (λ (p : Pair). p.rid.page ≡ n) (row_pair (at n i, row)) (map row_pair (page_entries n (i + 1) slots)) refl
    (own_from n (i + 1) slots)

-- the pairs are of this page
pub own_pairs : (n : ℕ) (slots : List (Option Row)) → All (λ (p : Pair). p.rid.page ≡ n) (map row_pair (page_entries n 0 slots))
own_pairs n slots = own_from n 0 slots

-- What clauses see of a heap.
use Rattle.std.specs.Prelude.{◌≡◌, ◌≢◌, ℕ, ◌+◌, ◌/◌, ◌%◌, ◌<◌, Bool, false, List, [], ◌∷◌, ◌++◌, map, Option, Some}
use Rattle.std.specs.Prelude.{None, IsSome, Contains, slice_get, option_and_then, ◌==◌, refl}
use Rattle.std.specs.FinMap.{FinMap, code, entries, get, retain_keys, from_sorted}
use Rattle.std.specs.Coded.{Coded, code_by, coded×, coded_ℕ}
use Rattle.record_values.specs.Values.{Place}
use Rattle.record_values.specs.Orders.{rid_cmp}
use Rattle.record_values.specs.Codes.{coded_rid, coded_row}
use Rattle.record_values.specs.declared.rid.TheConstants.{SLOTS_PER_PAGE}
use Rattle.record_values.specs.declared.row.Row.{Row}
use Rattle.record_values.specs.declared.pair.Pair.{Pair}
use Rattle.heap_pages.specs.Slots.{Slots}

-- the rows of a table, each at its place
abbrev pub Rows : Type 0
Rows = FinMap rid_cmp Row

-- how many pages there are, and the rows in them
pub record HeapValue : Type 0 where
  pub pages : ℕ
  pub rows : Rows

-- how the logic stores a heap
abbrev pub coded_heap : Coded HeapValue
coded_heap = code_by (ℕ × Rows) (coded× coded_ℕ (code coded_rid coded_row)) (λ h. (h.pages, h.rows)) (λ p.
    record { pages = p.0; rows = p.1 }) (λ _. refl)

-- the place is one of the heap's
abbrev pub IsPlaceInside : HeapValue → Place → Type 0
IsPlaceInside h r = (r.page < h.pages) × (r.slot < SLOTS_PER_PAGE)

-- a place of the heap that is empty and not among the held ones
pub record IsEmptyAndUnheld (h : HeapValue) (held : List Place) (r : Place) : Type 0 where
  pub inside : IsPlaceInside h r
  pub empty : get h.rows r ≡ None
  pub not_held : ¬ Contains held r

-- the pair of a row of page n
pub record IsPairOnPage (rows : Rows) (n : ℕ) (pair : Pair) : Type 0 where
  pub row : Row
  pub is_there : get rows pair.rid ≡ Some row
  pub has_key : row.key ≡ pair.key
  pub on_page : pair.rid.page ≡ n

-- the rows of page n
abbrev pub page_rows : Rows → ℕ → Rows
page_rows rows n = retain_keys rows (λ r. r.page == n)

-- the key of the row and its place
abbrev pub row_pair : Place × Row → Pair
row_pair e = record { key = e.1.key; rid = e.0 }

-- the pair of each row, in the order of the places
abbrev pub pairs_of : Rows → List Pair
pairs_of rows = map row_pair (entries rows)

-- the rows of a page's slots from slot i on
abbrev pub page_entries : ℕ → ℕ → List (Option Row) → List (Place × Row)
page_entries n i [] = []
page_entries n i (None ∷ slots) = page_entries n (i + 1) slots
page_entries n i (Some row ∷ slots) = (record { page = n; slot = i }, row) ∷ page_entries n (i + 1) slots

-- the rows of the pages from page n on
abbrev pub heap_entries : ℕ → List (List (Option Row)) → List (Place × Row)
heap_entries n [] = []
heap_entries n (slots ∷ pages) = page_entries n 0 slots ++ heap_entries (n + 1) pages

-- no place on the first n pages is empty and not among the held ones (no public clause cites this or the next three)
abbrev pub IsNoneFree : HeapValue → List Place → ℕ → Type 0
IsNoneFree h held n = (q : Place) → q.page < n → ¬ IsEmptyAndUnheld h held q

-- whether page n is one of those that these sets have, each for the next SLOTS_PER_PAGE pages
abbrev pub is_open : List (List Bool) → ℕ → Option Bool
is_open sets n = option_and_then (λ set. slice_get set (n % SLOTS_PER_PAGE)) (slice_get sets (n / SLOTS_PER_PAGE))

-- they have every page
abbrev pub AreAllOpen : List (List Bool) → Type 0
AreAllOpen sets = (n : ℕ) → is_open sets n ≢ Some false

-- the others of these pages have a row in each slot
abbrev pub OthersAreFull : List (List Bool) → List Slots → Type 0
OthersAreFull sets pages = (n : ℕ) (page : Slots) → slice_get pages n ≡ Some page → is_open sets n ≡ Some false
    → (s : ℕ) → s < SLOTS_PER_PAGE → IsSome (get page s)

-- the row in each slot of each page, by its place
abbrev pub rows_of : List (List (Option Row)) → Rows
rows_of pages = from_sorted (heap_entries 0 pages)

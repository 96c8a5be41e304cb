-- Lookups in the rows of pages.
use Rattle.std.proofs.Common.{◌≡◌, ◌≢◌, ℕ, zero, suc, ◌+◌, ◌<◌, ◌≤◌, true, cond, T, List, [], ◌∷◌, ◌++◌, Option, Some, None, slice_get, option_and_then, ◌&&◌}
use Rattle.std.proofs.Common.{refl, sym, ap, subst, ◌∙◌, arith}
use Rattle.std.specs.declared.cmp.Ordering.TheVariants.{Less}
use Rattle.std.specs.Ordering.{is_lt}
use Rattle.std.specs.FinMap as map
use Rattle.std.specs.FinMap.{find, is_sorted}
use Rattle.std.specs.FinMap.Entries.{below_all}
use Rattle.record_values.specs.Values.{Place}
use Rattle.record_values.specs.declared.row.Row.{Row}
use Rattle.record_values.specs.Orders.{rid_cmp}
use Rattle.heap_pages.specs.Pages.{page_entries, heap_entries, rows_of}
use Rattle.heap_pages.proofs.SlotLists.{cell}
use Rattle.heap_pages.proofs.RidOrder.{less_page, less_slot, tied, untied}

abbrev pub at : ℕ → ℕ → Place
at n i = record { page = n; slot = i }

abbrev pub row_at : List (List (Option Row)) → Place → Option Row
row_at pages q = option_and_then (λ slots. cell slots q.slot) (slice_get pages q.page)

below-page : (x : Place) (n i : ℕ) (slots : List (Option Row)) (rest : List (Place × Row)) → ((j : ℕ) → i ≤ j → rid_cmp x (at n j) ≡ Less)
    → below_all rid_cmp x rest ≡ true → below_all rid_cmp x (page_entries n i slots ++ rest) ≡ true
below-page x n i [] rest less h = h
below-page x n i (None ∷ slots) rest less h = below-page x n (i + 1) slots rest (λ j le. less j (omega arith)) h
below-page x n i (Some row ∷ slots) rest less h =
    ap (λ o. is_lt o && below_all rid_cmp x (page_entries n (i + 1) slots ++ rest)) (less i (omega arith))
    ∙ below-page x n (i + 1) slots rest (λ j le. less j (omega arith)) h

below-heap : (x : Place) (n : ℕ) (pages : List (List (Option Row))) → x.page < n → below_all rid_cmp x (heap_entries n pages) ≡ true
below-heap x n [] h = refl
below-heap x n (slots ∷ pages) h =
    below-page x n 0 slots (heap_entries (n + 1) pages) (λ j le. less_page x (at n j) h) (below-heap x (n + 1) pages (omega arith))

pub sorted-page : (n i : ℕ) (slots : List (Option Row)) (rest : List (Place × Row)) → is_sorted rid_cmp rest ≡ true
    → ((j : ℕ) → below_all rid_cmp (at n j) rest ≡ true) → is_sorted rid_cmp (page_entries n i slots ++ rest) ≡ true
sorted-page n i [] rest sorted above = sorted
sorted-page n i (None ∷ slots) rest sorted above = sorted-page n (i + 1) slots rest sorted above
sorted-page n i (Some row ∷ slots) rest sorted above =
    ap (λ b. b && is_sorted rid_cmp (page_entries n (i + 1) slots ++ rest))
    (below-page (at n i) n (i + 1) slots rest (λ j le. less_slot (at n i) (at n j) refl (omega arith)) (above i))
    ∙ sorted-page n (i + 1) slots rest sorted above

pub sorted-heap : (n : ℕ) (pages : List (List (Option Row))) → is_sorted rid_cmp (heap_entries n pages) ≡ true
sorted-heap n [] = refl
sorted-heap n (slots ∷ pages) =
    sorted-page n 0 slots (heap_entries (n + 1) pages) (sorted-heap (n + 1) pages) (λ j. below-heap (at n j) (n + 1) pages (omega arith))

-- another page's rows are passed over
pub find_other : (q : Place) (n i : ℕ) (slots : List (Option Row)) (rest : List (Place × Row)) → q.page ≢ n
    → find rid_cmp q (page_entries n i slots ++ rest) ≡ find rid_cmp q rest
find_other q n i [] rest ne = refl
find_other q n i (None ∷ slots) rest ne = find_other q n (i + 1) slots rest ne
find_other q n i (Some row ∷ slots) rest ne =
    ap (λ b. cond b (Some row) (find rid_cmp q (page_entries n (i + 1) slots ++ rest))) (untied q (at n i) (λ e. ne (ap (λ r. r.page) e)))
    ∙ find_other q n (i + 1) slots rest ne

-- and so are later slots
find_before : (q : Place) (n i : ℕ) (slots : List (Option Row)) (rest : List (Place × Row)) → q.slot < i
    → find rid_cmp q (page_entries n i slots ++ rest) ≡ find rid_cmp q rest
find_before q n i [] rest h = refl
find_before q n i (None ∷ slots) rest h = find_before q n (i + 1) slots rest (omega arith)
find_before q n i (Some row ∷ slots) rest h =
    ap (λ b. cond b (Some row) (find rid_cmp q (page_entries n (i + 1) slots ++ rest)))
    (untied q (at n i) (λ e. let s : q.slot ≡ i = ap (λ r. r.slot) e in omega arith))
    ∙ find_before q n (i + 1) slots rest (omega arith)

pub find_page : (q : Place) (n i : ℕ) (slots : List (Option Row)) (rest : List (Place × Row)) (k : ℕ) → q.page ≡ n → q.slot ≡ i + k → find rid_cmp q rest ≡ None
    → find rid_cmp q (page_entries n i slots ++ rest) ≡ cell slots k
find_page q n i [] rest k p s none = none
find_page q n i (None ∷ slots) rest zero p s none = find_before q n (i + 1) slots rest (omega arith) ∙ none
find_page q n i (None ∷ slots) rest (suc k) p s none = find_page q n (i + 1) slots rest k p (omega arith) none
find_page q n i (Some row ∷ slots) rest zero p s none =
    ap (λ b. cond b (Some row) (find rid_cmp q (page_entries n (i + 1) slots ++ rest))) (tied q (at n i) p (omega arith))
find_page q n i (Some row ∷ slots) rest (suc k) p s none =
    ap (λ b. cond b (Some row) (find rid_cmp q (page_entries n (i + 1) slots ++ rest)))
    (untied q (at n i) (λ e. let t : q.slot ≡ i = ap (λ r. r.slot) e in omega arith))
    ∙ find_page q n (i + 1) slots rest k p (omega arith) none

find_heap_before : (q : Place) (n : ℕ) (pages : List (List (Option Row))) → q.page < n → find rid_cmp q (heap_entries n pages) ≡ None
find_heap_before q n [] h = refl
find_heap_before q n (slots ∷ pages) h =
    find_other q n 0 slots (heap_entries (n + 1) pages) (λ e. omega arith) ∙ find_heap_before q (n + 1) pages (omega arith)

find_heap : (q : Place) (n : ℕ) (pages : List (List (Option Row))) (k : ℕ) → q.page ≡ n + k
    → find rid_cmp q (heap_entries n pages) ≡ option_and_then (λ slots. cell slots q.slot) (slice_get pages k)
find_heap q n [] k p = refl
find_heap q n (slots ∷ pages) zero p =
    find_page q n 0 slots (heap_entries (n + 1) pages) q.slot (omega arith) (omega arith) (find_heap_before q (n + 1) pages (omega arith))
find_heap q n (slots ∷ pages) (suc k) p =
    find_other q n 0 slots (heap_entries (n + 1) pages) (λ e. omega arith) ∙ find_heap q (n + 1) pages k (omega arith)

-- the row of a place is that of its page's slot
pub get-rows_of : (pages : List (List (Option Row))) (q : Place) → map.get (rows_of pages) q ≡ row_at pages q
get-rows_of pages q =
    map.get-from_sorted rid_cmp (heap_entries 0 pages) q (subst T (sym (sorted-heap 0 pages)) tt) ∙ find_heap q 0 pages q.page (omega arith)

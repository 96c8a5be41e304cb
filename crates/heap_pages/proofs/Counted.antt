-- How many rows there are.
use Rattle.std.proofs.Common.{◌≡◌, ◌<◌, ◌≤◌, ◌+◌, ◌*◌, ◌∙◌, ℕ, Bool, true, false, cond, T, List, [], ◌∷◌, map, length, length-append, Option, Some, None}
use Rattle.std.proofs.Common.{is_some, refl, sym, ap, subst, arith}
use Rattle.std.specs.FinMap.{entries-from_sorted, get, insert, len, len-entries, len-insert, remove}
use Rattle.record_values.specs.Maps.{get-set_at_same, rid_exact, set_at, set_at-again, set_at-get}
use Rattle.record_values.specs.Orders.{rid_cmp, rid_cmp_total}
use Rattle.record_values.specs.Values.{Place}
use Rattle.record_values.specs.declared.rid.TheConstants.{SLOTS_PER_PAGE}
use Rattle.record_values.specs.declared.row.Row.{Row}
use Rattle.heap_pages.specs.Slots.{Slots, slots_of}
use Rattle.heap_pages.specs.Pages.{Rows, heap_entries, page_entries, rows_of}
use Rattle.heap_pages.proofs.SlotLists.{length-slots_of}
use Rattle.heap_pages.proofs.Cells.{sorted-heap}

-- ---- no more than there are slots

page_len : (n i : ℕ) (slots : List (Option Row)) → length (page_entries n i slots) ≤ length slots
page_len n i [] = omega arith
page_len n i (None ∷ slots) = omega (arith, page_len n (i + 1) slots)
page_len n i (Some row ∷ slots) = omega (arith, page_len n (i + 1) slots)

heap_len : (n : ℕ) (pages : List Slots) → length (heap_entries n (map slots_of pages)) ≤ SLOTS_PER_PAGE * length pages
heap_len n [] = omega arith
heap_len n (page ∷ pages) = omega (
  arith,
  length-append (page_entries n 0 (slots_of page)) (heap_entries (n + 1) (map slots_of pages)),
  page_len n 0 (slots_of page),
  length-slots_of page,
  heap_len (n + 1) pages,
)

len_is : (pages : List (List (Option Row))) → len (rows_of pages) ≡ length (heap_entries 0 pages)
len_is pages = len-entries (rows_of pages) ∙ ap length (entries-from_sorted rid_cmp (heap_entries 0 pages) (subst T (sym (sorted-heap 0 pages)) tt))

pub few_rows : (pages : List Slots) (count : ℕ) → count ≡ len (rows_of (map slots_of pages)) → count ≤ SLOTS_PER_PAGE * length pages
few_rows pages count is = omega (arith, is, len_is (map slots_of pages), heap_len 0 pages)

-- ---- after a place was set

-- one for a row, and none for none
abbrev one_for : {X : Type 0} → Option X → ℕ
one_for o = cond (is_some o) 1 0

removed : (rows : Rows) (r : Place) (o : Option Row) → get rows r ≡ o → len (remove rows r) + one_for o ≡ len rows
removed rows r None is =
    let same : remove rows r ≡ rows = ap (set_at rows r) (sym is) ∙ set_at-get rid_exact rows r in
    omega (arith, ap len same)
removed rows r (Some row) is =
    let back : insert (remove rows r) r row ≡ rows = set_at-again rid_exact rows r None (Some row) ∙ ap (set_at rows r) (sym is)
    ∙ set_at-get rid_exact rows r in
    let more : len (insert (remove rows r) r row) ≡ len (remove rows r) + 1 = len-insert rid_cmp_total (remove rows r) r row
    ∙ ap (λ o. cond (is_some o) (len (remove rows r)) (len (remove rows r) + 1)) (get-set_at_same rid_exact rows r None) in
    omega (arith, more, ap len back)

inserted : (b : Bool) (n k : ℕ) → n ≡ cond b k (k + 1) → n + cond b 1 0 ≡ k + 1
inserted true n k is = omega (arith, is)
inserted false n k is = omega (arith, is)

set_len : (rows : Rows) (r : Place) (o : Option Row) → len (set_at rows r o) + one_for (get rows r) ≡ len rows + one_for o
set_len rows r (Some row) = inserted (is_some (get rows r)) (len (insert rows r row)) (len rows) (len-insert rid_cmp_total rows r row)
set_len rows r None = omega (arith, removed rows r (get rows r) refl)

pub some_rows : (rows : Rows) (r : Place) (count : ℕ) (had : Bool) → count ≡ len rows → had ≡ is_some (get rows r) → had ≡ true → 0 < count
some_rows rows r count had is told had_one =
    let one : cond (is_some (get rows r)) 1 0 ≡ 1 = ap {B = ℕ} (λ b. cond b 1 0) (sym told ∙ had_one) in
    omega (arith, is, removed rows r (get rows r) refl, one)

pub counted_after : (rows after : Rows) (r : Place) (o : Option Row) (count next : ℕ) (had has : Bool) → count ≡ len rows → after ≡ set_at rows r o
    → had ≡ is_some (get rows r) → has ≡ is_some o → next + cond had 1 0 ≡ count + cond has 1 0 → next ≡ len after
counted_after rows after r o count next had has is new before now sum =
    omega (arith, set_len rows r o, ap len new, is, sum, ap {B = ℕ} (λ b. cond b 1 0) before, ap {B = ℕ} (λ b. cond b 1 0) now)

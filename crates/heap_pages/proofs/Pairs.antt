-- The pairs of a page.
use Rattle.std.proofs.Common.{◌≡◌, ◌≢◌, ℕ, ◌+◌, true, false, cond, T, List, [], ◌∷◌, ◌++◌, map, length, take, Option, Some, None, slice_get, option_and_then}
use Rattle.std.proofs.Common.{◌==◌, refl, sym, ap, subst, ◌∙◌, arith, eqb, ◌⊎◌, inl, inr, append-nil}
use Rattle.std.proofs.Math.Seq.{take-length}
use Rattle.std.proofs.lemmas.Bool.Decides.{eqb_tells}
use Rattle.std.proofs.lemmas.Option.{slice_get_within, get_or_from_slice_get}
use Rattle.std.proofs.lemmas.List.{take_more, map-append, length-take}
use Rattle.std.specs.FinMap as map_of
use Rattle.std.specs.FinMap.{find, is_sorted}
use Rattle.record_values.specs.Values.{Place}
use Rattle.record_values.specs.declared.row.Row.{Row}
use Rattle.record_values.specs.declared.pair.Pair.{Pair}
use Rattle.record_values.specs.Orders.{rid_cmp, rid_cmp_total, rid_cmp-IsAntisymmetric}
use Rattle.heap_pages.specs.Pages.{HeapValue, page_rows, page_entries, rows_of, row_pair, pairs_of}
use Rattle.heap_pages.proofs.SlotLists.{cell}
use Rattle.heap_pages.proofs.Cells.{at, get-rows_of, sorted-page, find_page, find_other}
use Rattle.heap_pages.proofs.Writes.{value_of}

-- the rows of one page, as its slots give them
page_sorted : (n : ℕ) (slots : List (Option Row)) → is_sorted rid_cmp (page_entries n 0 slots) ≡ true
page_sorted n slots = subst (λ (es : List (Place × Row)). is_sorted rid_cmp es ≡ true) (append-nil (page_entries n 0 slots))
    (sorted-page n 0 slots [] refl (λ j. refl))

find_in : (q : Place) (n : ℕ) (slots : List (Option Row)) → q.page ≡ n → find rid_cmp q (page_entries n 0 slots) ≡ cell slots q.slot
find_in q n slots e = ap (find rid_cmp q) (sym (append-nil (page_entries n 0 slots))) ∙ find_page q n 0 slots [] q.slot e (omega arith) refl

find_out : (q : Place) (n : ℕ) (slots : List (Option Row)) → q.page ≢ n → find rid_cmp q (page_entries n 0 slots) ≡ None
find_out q n slots ne = ap (find rid_cmp q) (sym (append-nil (page_entries n 0 slots))) ∙ find_other q n 0 slots [] ne

page_rows-rows_of : (pages : List (List (Option Row))) (n : ℕ) (slots : List (Option Row)) → slice_get pages n ≡ Some slots
    → page_rows (rows_of pages) n ≡ map_of.from_sorted (page_entries n 0 slots)
page_rows-rows_of pages n slots page =
    map_of.same_map rid_cmp_total rid_cmp-IsAntisymmetric _ _ (λ q.
    map_of.get-retain_keys (rows_of pages) (λ r. r.page == n) q (λ x e. ap (λ (r : Place). r.page == n) (sym (rid_cmp-IsAntisymmetric q x e)))
    ∙ at_place q (eqb_tells q.page n)
    ∙ sym (map_of.get-from_sorted rid_cmp (page_entries n 0 slots) q (subst T (sym (page_sorted n slots)) tt)))
  where
    at_place : (q : Place) → ((eqb q.page n ≡ true) × (q.page ≡ n)) ⊎ ((eqb q.page n ≡ false) × (q.page ≢ n))
        → cond (q.page == n) (map_of.get (rows_of pages) q) None ≡ find rid_cmp q (page_entries n 0 slots)
    at_place q (inl p) =
        ap (λ b. cond b (map_of.get (rows_of pages) q) None) p.0
        ∙ get-rows_of pages q
        ∙ ap (option_and_then (λ slots. cell slots q.slot)) (ap (slice_get pages) p.1 ∙ page)
        ∙ sym (find_in q n slots p.1)
    at_place q (inr p) = ap (λ b. cond b (map_of.get (rows_of pages) q) None) p.0 ∙ sym (find_out q n slots p.1)

pub pairs_whole : (pages : List (List (Option Row))) (h : HeapValue) (n : ℕ) (slots : List (Option Row)) → value_of pages ≡ h → slice_get pages n ≡ Some slots
    → map row_pair (page_entries n 0 slots) ≡ pairs_of (page_rows h.rows n)
pairs_whole pages h n slots is page =
    ap (map row_pair) (sym (ap map_of.entries (page_rows-rows_of pages n slots page)
    ∙ map_of.entries-from_sorted rid_cmp (page_entries n 0 slots) (subst T (sym (page_sorted n slots)) tt)))
    ∙ ap (λ (v : HeapValue). pairs_of (page_rows v.rows n)) is

page_entries-append : (n i : ℕ) (xs ys : List (Option Row)) → page_entries n i (xs ++ ys) ≡ page_entries n i xs ++ page_entries n (i + length xs) ys
page_entries-append n i [] ys = ap (λ k. page_entries n k ys) (omega arith)
page_entries-append n i (None ∷ xs) ys =
    page_entries-append n (i + 1) xs ys ∙ ap (λ k. page_entries n (i + 1) xs ++ page_entries n k ys) (omega arith)
page_entries-append n i (Some row ∷ xs) ys =
    ap (λ es. (at n i, row) ∷ es) (page_entries-append n (i + 1) xs ys ∙ ap (λ k. page_entries n (i + 1) xs ++ page_entries n k ys) (omega arith))

one_more : (n i : ℕ) (slots : List (Option Row)) (o : Option Row) → slice_get slots i ≡ Some o
    → page_entries n 0 (take (i + 1) slots) ≡ page_entries n 0 (take i slots) ++ page_entries n i (o ∷ [])
one_more n i slots o here =
    let within = slice_get_within slots i o here in
    ap (page_entries n 0) (take_more slots i o within ∙ ap (λ x. take i slots ++ x ∷ []) (get_or_from_slice_get slots i o o here))
    ∙ page_entries-append n 0 (take i slots) (o ∷ [])
    ∙ ap (λ k. page_entries n 0 (take i slots) ++ page_entries n k (o ∷ [])) (omega (arith, length-take i slots))

-- an empty slot adds no pair
pub pairs_skip : (n i : ℕ) (slots : List (Option Row)) → slice_get slots i ≡ Some None
    → map row_pair (page_entries n 0 (take (i + 1) slots)) ≡ map row_pair (page_entries n 0 (take i slots))
pairs_skip n i slots here = ap (map row_pair) (one_more n i slots None here ∙ append-nil (page_entries n 0 (take i slots)))

-- a row adds its pair
pub pairs_push : (n i : ℕ) (slots : List (Option Row)) (row : Row) → slice_get slots i ≡ Some (Some row)
    → map row_pair (page_entries n 0 (take (i + 1) slots)) ≡ map row_pair (page_entries n 0 (take i slots)) ++ record { key = row.key; rid = at n i } ∷ []
pairs_push n i slots row here = ap (map row_pair) (one_more n i slots (Some row) here)
    ∙ map-append row_pair (page_entries n 0 (take i slots)) ((at n i, row) ∷ [])

-- all slots give all pairs
pub all_pairs : (n k : ℕ) (slots : List (Option Row)) (pairs : List Pair) → k ≡ length slots → pairs ≡ map row_pair (page_entries n 0 (take k slots))
    → pairs ≡ map row_pair (page_entries n 0 slots)
all_pairs n k slots pairs long is =
    is ∙ ap (λ j. map row_pair (page_entries n 0 (take j slots))) long ∙ ap (λ xs. map row_pair (page_entries n 0 xs)) (take-length slots)

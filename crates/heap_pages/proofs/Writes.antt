-- What a heap shows after a write, and what its pages show of it.
use Rattle.std.proofs.Common.{◌≡◌, ◌≢◌, ℕ, zero, suc, ◌<◌, true, false, cond, List, [], ◌∷◌, map, length, Option, Some, None, slice_get, slice_set, set}
use Rattle.std.proofs.Common.{option_and_then, IsSome, refl, sym, ap, subst, ◌∙◌, arith, eqb, ◌⊎◌, inl, inr, length-set}
use Rattle.std.proofs.lemmas.List.{length-map, map-set}
use Rattle.std.proofs.lemmas.Bool.Decides.{eqb_tells}
use Rattle.std.proofs.lemmas.Option.{slice_get_within}
use Rattle.std.specs.Ordering.{eq_by_cmp}
use Rattle.std.specs.FinMap as map_of
use Rattle.record_values.specs.Values.{Place}
use Rattle.record_values.specs.declared.rid.TheConstants.{SLOTS_PER_PAGE}
use Rattle.record_values.specs.declared.row.Row.{Row}
use Rattle.record_values.specs.Orders.{rid_cmp}
use Rattle.record_values.specs.Maps.{rid_exact, set_at, get-set_at, alike}
use Rattle.heap_pages.specs.Pages.{HeapValue, rows_of, IsPlaceInside}
use Rattle.heap_pages.specs.Slots.{Slots, slots_of}
use Rattle.heap_pages.proofs.RidOrder.{tied, untied}
use Rattle.heap_pages.proofs.SlotLists.{cell, length-slots_of, slots_of-set, get-slots_of, page_slots, no_page_slots}
use Rattle.heap_pages.proofs.Cells.{at, row_at, get-rows_of}

-- what a heap of pages with these slots shows
abbrev pub value_of : List (List (Option Row)) → HeapValue
value_of pages = record { pages = length pages; rows = rows_of pages }

-- each page has its SLOTS_PER_PAGE slots
abbrev AreWhole : List (List (Option Row)) → Type 0
AreWhole [] = Unit {0}
AreWhole (slots ∷ pages) = (length slots ≡ SLOTS_PER_PAGE) × AreWhole pages

AreWhole-slots_of : (pages : List Slots) → AreWhole (map slots_of pages)
AreWhole-slots_of [] = tt
AreWhole-slots_of (page ∷ pages) = (length-slots_of page, AreWhole-slots_of pages)

-- what a heap of these pages shows
abbrev pub shown_of : List Slots → HeapValue
shown_of pages = record { pages = length pages; rows = rows_of (map slots_of pages) }

-- a heap's value, by the slots of its pages
pub by_slots : (pages : List Slots) (h : HeapValue) → shown_of pages ≡ h → value_of (map slots_of pages) ≡ h
by_slots pages h is = (λ i. record { pages = length-map pages slots_of i; rows = rows_of (map slots_of pages) }) ∙ is

pub get-set : {X : Type 0} → (xs : List X) (i : ℕ) (y : X) → i < length xs → slice_get (set xs i y) i ≡ Some y
get-set [] i y h = absurd (omega arith)
get-set (x ∷ xs) zero y h = refl
get-set (x ∷ xs) (suc i) y h = get-set xs i y (omega arith)

pub get-set_other : {X : Type 0} → (xs : List X) (i j : ℕ) (y : X) → j ≢ i → slice_get (set xs i y) j ≡ slice_get xs j
get-set_other [] i j y ne = refl
get-set_other (x ∷ xs) zero zero y ne = absurd (ne refl)
get-set_other (x ∷ xs) zero (suc j) y ne = refl
get-set_other (x ∷ xs) (suc i) zero y ne = refl
get-set_other (x ∷ xs) (suc i) (suc j) y ne = get-set_other xs i j y (λ e. ne (ap suc e))

-- a row after a write at (n, s)
row_at-set : (pages : List (List (Option Row))) (n s : ℕ) (slots : List (Option Row)) (o : Option Row) (q : Place) → slice_get pages n ≡ Some slots
    → s < length slots
    → row_at (set pages n (set slots s o)) q ≡ cond (eq_by_cmp rid_cmp q (at n s)) o (row_at pages q)
row_at-set pages n s slots o q here inside = by (eqb_tells q.page n) (eqb_tells q.slot s)
  where
    within : n < length pages
    within = slice_get_within pages n slots here

    page : slice_get (set pages n (set slots s o)) n ≡ Some (set slots s o)
    page = get-set pages n (set slots s o) within

    by : ((eqb q.page n ≡ true) × (q.page ≡ n)) ⊎ ((eqb q.page n ≡ false) × (q.page ≢ n)) → ((eqb q.slot s ≡ true) × (q.slot ≡ s))
        ⊎ ((eqb q.slot s ≡ false) × (q.slot ≢ s))
        → row_at (set pages n (set slots s o)) q ≡ cond (eq_by_cmp rid_cmp q (at n s)) o (row_at pages q)
    by (inr p) other =
        ap (option_and_then (λ slots. cell slots q.slot)) (get-set_other pages n q.page (set slots s o) p.1)
        ∙ sym (ap (λ b. cond b o (row_at pages q)) (untied q (at n s) (λ e. p.1 (ap (λ r. r.page) e))))
    by (inl p) (inl t) =
        ap (λ k. option_and_then (λ slots. cell slots q.slot) (slice_get (set pages n (set slots s o)) k)) p.1
        ∙ ap (option_and_then (λ slots. cell slots q.slot)) page
        ∙ ap (cell (set slots s o)) t.1
        ∙ ap (option_and_then (λ x. x)) (get-set slots s o inside)
        ∙ sym (ap (λ b. cond b o (row_at pages q)) (tied q (at n s) p.1 t.1))
    by (inl p) (inr t) =
        ap (λ k. option_and_then (λ slots. cell slots q.slot) (slice_get (set pages n (set slots s o)) k)) p.1
        ∙ ap (option_and_then (λ slots. cell slots q.slot)) page
        ∙ ap (option_and_then (λ x. x)) (get-set_other slots s q.slot o t.1)
        ∙ sym (ap (option_and_then (λ slots. cell slots q.slot)) (ap (slice_get pages) p.1 ∙ here))
        ∙ sym (ap (λ b. cond b o (row_at pages q)) (untied q (at n s) (λ e. t.1 (ap (λ r. r.slot) e))))

rows_of-set : (pages : List (List (Option Row))) (n s : ℕ) (slots : List (Option Row)) (o : Option Row) → slice_get pages n ≡ Some slots → s < length slots
    → rows_of (set pages n (set slots s o)) ≡ set_at (rows_of pages) (at n s) o
rows_of-set pages n s slots o here inside =
    alike rid_exact _ _ (λ q.
    get-rows_of (set pages n (set slots s o)) q
    ∙ row_at-set pages n s slots o q here inside
    ∙ sym (get-set_at rid_exact (rows_of pages) (at n s) o q ∙ ap (cond (eq_by_cmp rid_cmp q (at n s)) o) (get-rows_of pages q)))

-- the heap after a page has got the row or none in slot s
pub heap_after : (pages : List Slots) (h : HeapValue) (n s : ℕ) (r : Place) (page new : Slots) (o : Option Row) → shown_of pages ≡ h → at n s ≡ r
    → slice_get pages n ≡ Some page → s < SLOTS_PER_PAGE → new ≡ set_at page s o
    → shown_of (slice_set pages n new) ≡ record { pages = h.pages; rows = set_at h.rows r o }
heap_after pages h n s r page new o is rid here inside e =
    (λ i. record { pages = length-set pages n new i; rows = rows_of (map-set slots_of pages n new i) })
    ∙ ap (λ slots. record { pages = length pages; rows = rows_of (set (map slots_of pages) n slots) }) (ap slots_of e ∙ slots_of-set page s o)
    ∙ (λ i. record {
      pages = length pages;
      rows = rows_of-set (map slots_of pages) n s (slots_of page) o (page_slots pages n page here)
          (omega (arith, length-slots_of page)) i;
    })
    ∙ (λ i. record { pages = (is i).pages; rows = set_at ((is i).rows) (rid i) o })

pub row_found : (pages : List (List (Option Row))) (h : HeapValue) (n s : ℕ) (r : Place) (slots : List (Option Row)) (o : Option Row) → value_of pages ≡ h
    → at n s ≡ r → slice_get pages n ≡ Some slots → slice_get slots s ≡ Some o → map_of.get h.rows r ≡ o
row_found pages h n s r slots o is rid page slot =
    (λ i. map_of.get ((sym is i).rows) (sym rid i))
    ∙ get-rows_of pages (at n s)
    ∙ ap (option_and_then (λ slots. cell slots s)) page
    ∙ ap (option_and_then (λ x. x)) slot

row_missing : (pages : List (List (Option Row))) (h : HeapValue) (n s : ℕ) (r : Place) → value_of pages ≡ h → at n s ≡ r → slice_get pages n ≡ None
    → map_of.get h.rows r ≡ None
row_missing pages h n s r is rid page =
    (λ i. map_of.get ((sym is i).rows) (sym rid i))
    ∙ get-rows_of pages (at n s)
    ∙ ap (option_and_then (λ slots. cell slots s)) page

-- each row is at a place of the heap
row_inside : (pages : List (List (Option Row))) (h : HeapValue) (r : Place) → value_of pages ≡ h → AreWhole pages → IsSome (map_of.get h.rows r)
    → IsPlaceInside h r
row_inside pages h r is whole some =
    let found : IsSome (row_at pages r) = subst IsSome ((λ i. map_of.get ((sym is i).rows) r) ∙ get-rows_of pages r) some in
    let both = inside pages r.page r.slot whole found in
    (subst (λ (v : HeapValue). r.page < v.pages) is both.0, both.1)
  where
    in_page : (slots : List (Option Row)) (s : ℕ) → IsSome (cell slots s) → s < length slots
    in_page [] s some = absurd cc
    in_page (o ∷ slots) zero some = omega arith
    in_page (o ∷ slots) (suc s) some = let rest = in_page slots s some in omega arith

    inside : (pages : List (List (Option Row))) (n s : ℕ) → AreWhole pages → IsSome (option_and_then (λ slots. cell slots s) (slice_get pages n))
        → (n < length pages) × (s < SLOTS_PER_PAGE)
    inside [] n s whole some = absurd cc
    inside (p ∷ pages) zero s whole some = let here = in_page p s some in let long = whole.0 in (omega arith, omega arith)
    inside (p ∷ pages) (suc n) s whole some = let rest = inside pages n s whole.1 some in (omega arith, rest.1)

-- ---- the same of a heap of pages

-- the row at a place is that of its page's slot
pub row_of_page : (pages : List Slots) (h : HeapValue) (n s : ℕ) (r : Place) (page : Slots) → shown_of pages ≡ h → at n s ≡ r → slice_get pages n ≡ Some page
    → s < SLOTS_PER_PAGE → map_of.get h.rows r ≡ map_of.get page s
row_of_page pages h n s r page is rid here within =
    row_found (map slots_of pages) h n s r (slots_of page) (map_of.get page s) (by_slots pages h is) rid (page_slots pages n page here)
    (get-slots_of page s within)

pub no_row_there : (pages : List Slots) (h : HeapValue) (n s : ℕ) (r : Place) → shown_of pages ≡ h → at n s ≡ r → slice_get pages n ≡ None
    → map_of.get h.rows r ≡ None
no_row_there pages h n s r is rid here = row_missing (map slots_of pages) h n s r (by_slots pages h is) rid (no_page_slots pages n here)

pub rows_inside : (pages : List Slots) (h : HeapValue) (r : Place) → shown_of pages ≡ h → IsSome (map_of.get h.rows r) → IsPlaceInside h r
rows_inside pages h r is some = row_inside (map slots_of pages) h r (by_slots pages h is) (AreWhole-slots_of pages) some

-- A page as a map from slots to rows, and as the list of its slots.
use Rattle.std.proofs.Common.{◌≡◌, ◌≢◌, ℕ, zero, suc, ◌+◌, ◌<◌, ◌≤◌, true, false, cond, T, List, [], ◌∷◌, map, length, replicate, Option, Some, None}
use Rattle.std.proofs.Common.{slice_get, slice_set, set, option_and_then, option_map, ◌&&◌, refl, sym, ap, subst, ◌∙◌, arith, eqb, ◌⊎◌, inl}
use Rattle.std.proofs.Common.{inr}
use Rattle.std.proofs.lemmas.Bool.Decides.{eqb_tells}
use Rattle.std.proofs.lemmas.Option.{slice_get-map, slice_get_past}
use Rattle.std.specs.declared.cmp.Ordering.TheVariants.{Less}
use Rattle.std.specs.Ordering.{nat_cmp, is_lt, eq_by_cmp}
use Rattle.std.specs.Cmp.{nat_cmp_is}
use Rattle.std.specs.FinMap as map_of
use Rattle.std.specs.FinMap.{find, is_sorted, empty}
use Rattle.std.specs.FinMap.Entries.{below_all}
use Rattle.record_values.specs.Maps.{nat_exact, set_at, get-set_at, get-set_at_same, get-set_at_other, alike, same_key, other_key}
use Rattle.record_values.specs.declared.rid.TheConstants.{SLOTS_PER_PAGE}
use Rattle.record_values.specs.declared.row.Row.{Row}
use Rattle.heap_pages.specs.Slots.{Slots, slot_entries, page_of, slots_from, slots_of}

-- the row in slot s of these slots
abbrev pub cell : List (Option Row) → ℕ → Option Row
cell slots s = option_and_then (λ o. o) (slice_get slots s)

-- ---- the rows of a list of slots

below : (k i : ℕ) (slots : List (Option Row)) → k < i → below_all nat_cmp k (slot_entries i slots) ≡ true
below k i [] h = refl
below k i (None ∷ slots) h = below k (i + 1) slots (omega arith)
below k i (Some row ∷ slots) h = ap (λ o. is_lt o && below_all nat_cmp k (slot_entries (i + 1) slots)) (sym (nat_cmp_is k i Less h))
    ∙ below k (i + 1) slots (omega arith)

sorted : (i : ℕ) (slots : List (Option Row)) → is_sorted nat_cmp (slot_entries i slots) ≡ true
sorted i [] = refl
sorted i (None ∷ slots) = sorted (i + 1) slots
sorted i (Some row ∷ slots) = ap (λ b. b && is_sorted nat_cmp (slot_entries (i + 1) slots)) (below i (i + 1) slots (omega arith)) ∙ sorted (i + 1) slots

find_before : (k i : ℕ) (slots : List (Option Row)) → k < i → find nat_cmp k (slot_entries i slots) ≡ None
find_before k i [] h = refl
find_before k i (None ∷ slots) h = find_before k (i + 1) slots (omega arith)
find_before k i (Some row ∷ slots) h =
    ap (λ b. cond b (Some row) (find nat_cmp k (slot_entries (i + 1) slots))) (other_key nat_exact k i (λ e. omega arith))
    ∙ find_before k (i + 1) slots (omega arith)

find_slot : (i : ℕ) (slots : List (Option Row)) (k j : ℕ) → k ≡ i + j → find nat_cmp k (slot_entries i slots) ≡ cell slots j
find_slot i [] k j e = refl
find_slot i (None ∷ slots) k zero e = find_before k (i + 1) slots (omega arith)
find_slot i (None ∷ slots) k (suc j) e = find_slot (i + 1) slots k j (omega arith)
find_slot i (Some row ∷ slots) k zero e =
    let same : k ≡ i = omega arith in
    ap (λ b. cond b (Some row) (find nat_cmp k (slot_entries (i + 1) slots))) (ap (λ x. eq_by_cmp nat_cmp x i) same ∙ same_key nat_exact i)
find_slot i (Some row ∷ slots) k (suc j) e =
    ap (λ b. cond b (Some row) (find nat_cmp k (slot_entries (i + 1) slots))) (other_key nat_exact k i (λ f. omega arith))
    ∙ find_slot (i + 1) slots k j (omega arith)

get-page_of : (slots : List (Option Row)) (s : ℕ) → map_of.get (page_of slots) s ≡ cell slots s
get-page_of slots s = map_of.get-from_sorted nat_cmp (slot_entries 0 slots) s (subst T (sym (sorted 0 slots)) tt) ∙ find_slot 0 slots s s (omega arith)

pub slot_shown : (slots : List (Option Row)) (page : Slots) (s : ℕ) (o : Option Row) → page_of slots ≡ page → slice_get slots s ≡ Some o → o ≡ map_of.get page s
slot_shown slots page s o is here = sym (ap (λ (p : Slots). map_of.get p s) (sym is) ∙ get-page_of slots s ∙ ap (option_and_then (λ x. x)) here)

-- ---- a page without rows

pub no_rows : map_of.from_sorted {X = Row} {R = nat_cmp} [] ≡ empty
no_rows = alike nat_exact _ _ (λ q. map_of.get-from_sorted nat_cmp [] q tt ∙ sym (map_of.get-empty nat_cmp q))

-- ---- a slot written

cell-set : (slots : List (Option Row)) (s : ℕ) (o : Option Row) (q : ℕ) → s < length slots
    → cell (set slots s o) q ≡ cond (eq_by_cmp nat_cmp q s) o (cell slots q)
cell-set [] s o q within = absurd (omega arith)
cell-set (x ∷ slots) zero o zero within = sym (ap (λ b. cond b o x) (same_key nat_exact 0))
cell-set (x ∷ slots) zero o (suc q) within = sym (ap (λ b. cond b o (cell slots q)) (other_key nat_exact (suc q) 0 (λ e. omega arith)))
cell-set (x ∷ slots) (suc s) o zero within = sym (ap (λ b. cond b o x) (other_key nat_exact 0 (suc s) (λ e. omega arith)))
cell-set (x ∷ slots) (suc s) o (suc q) within = cell-set slots s o q (omega arith) ∙ ap (λ b. cond b o (cell slots q)) (next (eqb_tells q s))
  where
    next : ((eqb q s ≡ true) × (q ≡ s)) ⊎ ((eqb q s ≡ false) × (q ≢ s)) → eq_by_cmp nat_cmp q s ≡ eq_by_cmp nat_cmp (suc q) (suc s)
    next (inl p) = (ap (λ x. eq_by_cmp nat_cmp x s) p.1 ∙ same_key nat_exact s)
        ∙ sym (ap (λ x. eq_by_cmp nat_cmp (suc x) (suc s)) p.1 ∙ same_key nat_exact (suc s))
    next (inr p) = let ne = p.1 in other_key nat_exact q s ne ∙ sym (other_key nat_exact (suc q) (suc s) (λ e. ne (omega arith)))

pub page_of-set : (slots : List (Option Row)) (page : Slots) (s : ℕ) (o : Option Row) → page_of slots ≡ page → s < length slots
    → page_of (slice_set slots s o) ≡ set_at page s o
page_of-set slots page s o is within =
    alike nat_exact _ _ (λ q.
    get-page_of (set slots s o) q
    ∙ cell-set slots s o q within
    ∙ sym (get-set_at nat_exact page s o q ∙ ap (cond (eq_by_cmp nat_cmp q s) o) (ap (λ (p : Slots). map_of.get p q) (sym is) ∙ get-page_of slots q)))

-- ---- the slots of a page

get-slots_from : (page : Slots) (i n j : ℕ) → j < n → slice_get (slots_from page i n) j ≡ Some (map_of.get page (i + j))
get-slots_from page i zero j within = absurd (omega arith)
get-slots_from page i (suc n) zero within = let same : i ≡ i + 0 = omega arith in ap (λ k. Some (map_of.get page k)) same
get-slots_from page i (suc n) (suc j) within = get-slots_from page (i + 1) n j (omega arith)
    ∙ (let same : i + 1 + j ≡ i + suc j = omega arith in ap (λ k. Some (map_of.get page k)) same)

pub get-slots_of : (page : Slots) (s : ℕ) → s < SLOTS_PER_PAGE → slice_get (slots_of page) s ≡ Some (map_of.get page s)
unfolding slots_of
get-slots_of page s within = get-slots_from page 0 SLOTS_PER_PAGE s within ∙ (let same : 0 + s ≡ s = omega arith in ap (λ k. Some (map_of.get page k)) same)

length-slots_from : (page : Slots) (i n : ℕ) → length (slots_from page i n) ≡ n
length-slots_from page i zero = refl
length-slots_from page i (suc n) = let rest = length-slots_from page (i + 1) n in omega arith

pub length-slots_of : (page : Slots) → length (slots_of page) ≡ SLOTS_PER_PAGE
unfolding slots_of
length-slots_of page = length-slots_from page 0 SLOTS_PER_PAGE

-- slots before the first are not written
slots_from-other : (page : Slots) (s : ℕ) (o : Option Row) (i n : ℕ) → s < i → slots_from (set_at page s o) i n ≡ slots_from page i n
slots_from-other page s o i zero h = refl
slots_from-other page s o i (suc n) h =
    (λ j. get-set_at_other nat_exact page s o i (λ e. omega arith) j ∷ slots_from-other page s o (i + 1) n (omega arith) j)

slots_from-set : (page : Slots) (s : ℕ) (o : Option Row) (i n k : ℕ) → s ≡ i + k → slots_from (set_at page s o) i n ≡ set (slots_from page i n) k o
slots_from-set page s o i zero k e = refl
slots_from-set page s o i (suc n) zero e =
    let same : i ≡ s = omega arith in
    (λ j. (ap (map_of.get (set_at page s o)) same ∙ get-set_at_same nat_exact page s o) j ∷ slots_from-other page s o (i + 1) n (omega arith) j)
slots_from-set page s o i (suc n) (suc k) e =
    (λ j. get-set_at_other nat_exact page s o i (λ f. omega arith) j ∷ slots_from-set page s o (i + 1) n k (omega arith) j)

pub slots_of-set : (page : Slots) (s : ℕ) (o : Option Row) → slots_of (set_at page s o) ≡ slice_set (slots_of page) s o
unfolding slots_of
slots_of-set page s o = slots_from-set page s o 0 SLOTS_PER_PAGE s (omega arith)

slots_from-empty : (i n : ℕ) → slots_from empty i n ≡ replicate n None
slots_from-empty i zero = refl
slots_from-empty i (suc n) = (λ j. map_of.get-empty nat_cmp i j ∷ slots_from-empty (i + 1) n j)

pub slots_of-empty : slots_of empty ≡ replicate SLOTS_PER_PAGE None
unfolding slots_of
slots_of-empty = slots_from-empty 0 SLOTS_PER_PAGE

-- ---- the pages of a heap, each by its slots

pub page_slots : (pages : List Slots) (n : ℕ) (page : Slots) → slice_get pages n ≡ Some page → slice_get (map slots_of pages) n ≡ Some (slots_of page)
page_slots pages n page here = slice_get-map slots_of pages n ∙ ap (option_map slots_of) here

pub no_page_slots : (pages : List Slots) (n : ℕ) → slice_get pages n ≡ None → slice_get (map slots_of pages) n ≡ None
no_page_slots pages n here = slice_get-map slots_of pages n ∙ ap (option_map slots_of) here

pub no_slot_there : (slots : List (Option Row)) (page : Slots) (s : ℕ) → page_of slots ≡ page → length slots ≤ s → None ≡ map_of.get page s
no_slot_there slots page s is past = sym (ap (λ (p : Slots). map_of.get p s) (sym is) ∙ get-page_of slots s
    ∙ ap (option_and_then (λ x. x)) (slice_get_past slots s past))

-- Pages with no row.
use Rattle.std.proofs.Common.{◌≡◌, ℕ, zero, suc, ◌+◌, List, [], ◌∷◌, ◌++◌, map, length, None, replicate, refl, sym, ap, ◌∙◌}
use Rattle.std.specs.FinMap as map_of
use Rattle.std.specs.FinMap.{empty}
use Rattle.record_values.specs.Orders.{rid_cmp}
use Rattle.record_values.specs.Maps.{rid_exact, alike}
use Rattle.record_values.specs.declared.rid.TheConstants.{SLOTS_PER_PAGE}
use Rattle.heap_pages.specs.Slots.{Slots, slots_of}
use Rattle.heap_pages.specs.Pages.{HeapValue, page_entries, heap_entries, rows_of}
use Rattle.heap_pages.proofs.SlotLists.{slots_of-empty}

abbrev pub AreEmpty : List Slots → Type 0
AreEmpty [] = Unit {0}
AreEmpty (page ∷ pages) = (page ≡ empty) × AreEmpty pages

no_entries : (n i k : ℕ) → page_entries n i (replicate k None) ≡ []
no_entries n i zero = refl
no_entries n i (suc k) = no_entries n (i + 1) k

empty_entries : (n : ℕ) (pages : List Slots) → AreEmpty pages → heap_entries n (map slots_of pages) ≡ []
empty_entries n [] none = refl
empty_entries n (page ∷ pages) none =
    ap (λ es. es ++ heap_entries (n + 1) (map slots_of pages)) (ap (page_entries n 0) (ap slots_of none.0 ∙ slots_of-empty) ∙ no_entries n 0 SLOTS_PER_PAGE)
    ∙ empty_entries (n + 1) pages none.1

pub AreEmpty-push : (pages : List Slots) (new : Slots) → AreEmpty pages → new ≡ empty → AreEmpty (pages ++ new ∷ [])
AreEmpty-push [] new none e = (e, tt)
AreEmpty-push (page ∷ pages) new none e = (none.0, AreEmpty-push pages new none.1 e)

pub empty_heap : (pages : List Slots) (n : ℕ) → length pages ≡ n → AreEmpty pages
    → ◌≡◌ {A = HeapValue} (record { pages = length pages; rows = rows_of (map slots_of pages) }) (record { pages = n; rows = empty })
empty_heap pages n len none =
    let no_rows : rows_of (map slots_of pages) ≡ empty = alike rid_exact _ _ (λ q.
    ap (λ es. map_of.get (map_of.from_sorted {R = rid_cmp} es) q) (empty_entries 0 pages none)
    ∙ map_of.get-from_sorted rid_cmp [] q tt
    ∙ sym (map_of.get-empty rid_cmp q)) in
    λ i. record { pages = len i; rows = no_rows i }

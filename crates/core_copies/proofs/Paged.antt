-- The rows of pages that are copied.
use Rattle.std.proofs.Common.{◌≡◌, ◌≢◌, ⊎_elim, ℕ, zero, suc, ◌+◌, ◌<◌, ◌≤◌, List, [], ◌∷◌, length, replicate, slice_get, Option, Some, None, refl, sym, ap}
use Rattle.std.proofs.Common.{subst, ◌∙◌, arith}
use Rattle.std.specs.Prelude.{IsSome}
use Rattle.std.proofs.lemmas.Bool.{cases_eq, cases_lt}
use Rattle.std.proofs.lemmas.Option.{same_Some}
use Rattle.std.specs.FinMap.{empty, get, get-empty}
use Rattle.record_values.specs.Maps.{alike, get-set_at_other, get-set_at_same, rid_exact, set_at}
use Rattle.record_values.specs.Orders.{rid_cmp}
use Rattle.record_values.specs.Values.{Place}
use Rattle.record_values.specs.declared.rid.TheConstants.{SLOTS_PER_PAGE}
use Rattle.record_values.specs.declared.row.Row.{Row}
use Rattle.heap_pages.specs.Pages.{HeapValue, IsPlaceInside}
use Rattle.model.specs.Table.{Table}
use Rattle.core_parts.specs.View.{CoreValue}
use Rattle.core_copies.specs.Pieces.{IsPageOf}
use Rattle.core_copies.specs.Private.{HasPagePut, unlisted}

-- each row is at a place of the heap
abbrev pub AreRowsInside : HeapValue → Type 0
AreRowsInside heap = (r : Place) → IsSome (get heap.rows r) → IsPlaceInside heap r

-- a row that is at no place of the heap
pub no_row : (heap : HeapValue) → AreRowsInside heap → (q : Place) → (IsPlaceInside heap q → ⊥) → get heap.rows q ≡ None
no_row heap inside q outside = by (get heap.rows q) refl
  where
    by : (o : Option Row) → get heap.rows q ≡ o → get heap.rows q ≡ None
    by None is = is
    by (Some row) is = absurd (outside (inside q (subst IsSome (sym is) refl)))

-- ---- one page

-- the rows of the first slots of the page are put to others
pub record ArePutTo (all : Table) (page slot : ℕ) (old new : Table) : Type 0 where
  pub here : (q : Place) → q.page ≡ page → q.slot < slot → get new q ≡ get all q
  pub rest : (q : Place) → q.page ≡ page → slot ≤ q.slot → get new q ≡ None
  pub others : (q : Place) → q.page ≢ page → get new q ≡ get old q

module _ (all : Table) (page slot : ℕ) (old mid : Table) (row : Option Row) (found : row ≡ get all (record { page = page; slot = slot }))
    (h : ArePutTo all page slot old mid) where
  abbrev spot : Place
  spot = record { page = page; slot = slot }

  spot_is : (q : Place) → q.page ≡ page → q.slot ≡ slot → spot ≡ q
  spot_is q same own = λ i. record { page = sym same i; slot = sym own i }

  other : (q : Place) → q ≢ spot → get (set_at mid spot row) q ≡ get mid q
  other q apart = get-set_at_other rid_exact mid spot row q apart

  pub one_put : (new : Table) → new ≡ set_at mid spot row → ArePutTo all page (slot + 1) old new
  one_put new is = subst (ArePutTo all page (slot + 1) old) (sym is) (record {
    here = λ q same below. ⊎_elim
        (λ own. subst (λ p. get (set_at mid spot row) p ≡ get all p) (spot_is q same own) (get-set_at_same rid_exact mid spot row ∙ found))
        (λ apart. other q (λ p. apart (ap (λ (x : Place). x.slot) p)) ∙ h.here q same (omega (arith, below, apart)))
        (cases_eq q.slot slot);
    rest = λ q same past. other q (λ p. let own : q.slot ≡ slot = ap (λ (x : Place). x.slot) p in omega (arith, past, own))
        ∙ h.rest q same (omega (arith, past));
    others = λ q apart. other q (λ p. apart (ap (λ (x : Place). x.page) p)) ∙ h.others q apart;
  })

pub page_put : (heap : HeapValue) → AreRowsInside heap → (page : ℕ) (old new : Table) → ArePutTo heap.rows page SLOTS_PER_PAGE old new
    → HasPagePut heap.rows page old new
page_put heap inside page old new h = record {
  here = λ q same. ⊎_elim (λ below. h.here q same below) (λ past. h.rest q same past
      ∙ sym (no_row heap inside q (λ there. let slot = there.1 in omega (arith, slot, past)))) (cases_lt q.slot SLOTS_PER_PAGE);
  others = h.others;
}

-- ---- the slots of one page

-- the first slots have the rows of the page
abbrev pub AreSlotsTo : Table → ℕ → ℕ → List (Option Row) → Type 0
AreSlotsTo all page n slots = (k : ℕ) → k < n → slice_get slots k ≡ Some (get all (record { page = page; slot = k }))

get-replicate : {X : Type 0} (n i : ℕ) (x : X) → i < n → slice_get (replicate n x) i ≡ Some x
get-replicate zero i x low = absurd (omega (arith, low))
get-replicate (suc n) zero x low = refl
get-replicate (suc n) (suc i) x low = get-replicate n i x (omega (arith, low))

-- slots without rows have those of a page where there are none
pub none_there : (all : Table) (page : ℕ) → ((slot : ℕ) → slot < SLOTS_PER_PAGE → get all (record { page = page; slot = slot }) ≡ None)
    → AreSlotsTo all page SLOTS_PER_PAGE (replicate SLOTS_PER_PAGE None)
none_there all page none = λ k low. get-replicate SLOTS_PER_PAGE k None low ∙ ap Some (sym (none k low))

-- a table of these slots alone has the rows of the page
pub page_filled : (v : CoreValue) → AreRowsInside v.heap → (page : ℕ) (slots : List (Option Row)) (rows : Table)
    → AreSlotsTo v.heap.rows page SLOTS_PER_PAGE slots → AreSlotsTo rows page SLOTS_PER_PAGE slots
    → ((q : Place) → q.page ≢ page → get rows q ≡ None) → ((q : Place) (r : Row) → get rows q ≡ Some r → q.slot < SLOTS_PER_PAGE)
    → IsPageOf (unlisted v) page rows
page_filled v inside page slots rows all there elsewhere low = record {
  rows-are = record { there = λ q same. ⊎_elim (here q same) (past q) (cases_lt q.slot SLOTS_PER_PAGE); elsewhere = elsewhere };
  slots = low;
}
  where
    here : (q : Place) → q.page ≡ page → q.slot < SLOTS_PER_PAGE → get rows q ≡ get v.heap.rows q
    here q same below = subst (λ (p : Place). get rows p ≡ get v.heap.rows p) (λ i. record { page = sym same i; slot = q.slot })
        (same_Some _ _ (sym (there q.slot below) ∙ all q.slot below))

    none : (q : Place) → SLOTS_PER_PAGE ≤ q.slot → (o : Option Row) → get rows q ≡ o → get rows q ≡ None
    none q beyond None is = is
    none q beyond (Some r) is = let below = low q r is in absurd (omega (arith, below, beyond))

    past : (q : Place) → SLOTS_PER_PAGE ≤ q.slot → get rows q ≡ get v.heap.rows q
    past q beyond = none q beyond (get rows q) refl ∙ sym (no_row v.heap inside q (λ place. let slot = place.1 in omega (arith, slot, beyond)))

-- a table without rows has those of a page where there are none
pub none_filled : (v : CoreValue) → AreRowsInside v.heap → (page : ℕ) (rows : Table) → rows ≡ empty
    → ((slot : ℕ) → slot < SLOTS_PER_PAGE → get v.heap.rows (record { page = page; slot = slot }) ≡ None) → IsPageOf (unlisted v) page rows
none_filled v inside page rows is none = page_filled v inside page (replicate SLOTS_PER_PAGE None) rows (none_there v.heap.rows page none)
    (none_there rows page (λ slot low. gone (record { page = page; slot = slot }))) (λ q apart. gone q) low
  where
    gone : (q : Place) → get rows q ≡ None
    gone q = ap (λ (t : Table). get t q) is ∙ get-empty rid_cmp q

    low : (q : Place) (r : Row) → get rows q ≡ Some r → q.slot < SLOTS_PER_PAGE
    low q r there = let bad : Some r ≡ None = sym there ∙ gone q in absurd cc

-- ---- all pages

-- the rows of the first pages
pub record AreRowsTo (all : Table) (page : ℕ) (rows : Table) : Type 0 where
  pub here : (q : Place) → q.page < page → get rows q ≡ get all q
  pub rest : (q : Place) → page ≤ q.page → get rows q ≡ None

pub no_rows : (all : Table) → AreRowsTo all 0 empty
no_rows all = record { here = λ q below. absurd (omega (arith, below)); rest = λ q past. get-empty rid_cmp q }

pub page_more : (all : Table) (page : ℕ) (rows new : Table) → AreRowsTo all page rows → HasPagePut all page rows new → AreRowsTo all (page + 1) new
page_more all page rows new h put = record {
  here = λ q below. ⊎_elim (λ same. put.here q same) (λ apart. put.others q apart ∙ h.here q (omega (arith, below, apart))) (cases_eq q.page page);
  rest = λ q past. put.others q (λ same. omega (arith, past, same)) ∙ h.rest q (omega (arith, past));
}

pub all_pages : (heap : HeapValue) → AreRowsInside heap → (rows : Table) → AreRowsTo heap.rows heap.pages rows → rows ≡ heap.rows
all_pages heap inside rows h = alike rid_exact rows heap.rows (λ q. ⊎_elim
    (λ below. h.here q below)
    (λ past. h.rest q past ∙ sym (no_row heap inside q (λ there. let page = there.0 in omega (arith, page, past))))
    (cases_lt q.page heap.pages))

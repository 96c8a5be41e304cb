-- The rows in the slots of a page, seen as a table.
use Rattle.std.proofs.Common.{◌≡◌, ◌≢◌, ⊎_elim, ℕ, zero, suc, ◌+◌, ◌<◌, ◌≤◌, List, [], ◌∷◌, length, get_or, Option, Some, None, slice_get, sym, ap, ◌∙◌, arith}
use Rattle.std.proofs.lemmas.Bool.{cases_lt}
use Rattle.std.proofs.lemmas.Option.{slice_get-get_or}
use Rattle.std.specs.FinMap as map
use Rattle.record_values.specs.Maps.{set_at, rid_exact, get-set_at_same, get-set_at_other}
use Rattle.record_values.specs.Orders.{rid_cmp}
use Rattle.record_values.specs.Values.{Place}
use Rattle.record_values.specs.declared.rid.TheConstants.{SLOTS_PER_PAGE}
use Rattle.record_values.specs.declared.row.Row.{Row}
use Rattle.store_image_model.specs.Slots.{rows_from}

abbrev pub at : ℕ → ℕ → Place
at page slot = record { page = page; slot = slot }

-- the row in slot j of these, the first of which is slot i
row_there : (page i : ℕ) (slots : List (Option Row)) (k : ℕ) (row : Option Row) (j : ℕ) → j ≡ i + k → slice_get slots k ≡ Some row
    → map.get (rows_from page i slots) (at page j) ≡ row
row_there page i [] k row j e here = absurd cc
row_there page i (o ∷ slots) zero row j e here =
    let same : j ≡ i = omega (arith, e) in
    let is : o ≡ row = cc in
    ap (λ n. map.get (set_at (rows_from page (i + 1) slots) (at page i) o) (at page n)) same
    ∙ get-set_at_same rid_exact (rows_from page (i + 1) slots) (at page i) o ∙ is
row_there page i (o ∷ slots) (suc k) row j e here =
    get-set_at_other rid_exact (rows_from page (i + 1) slots) (at page i) o (at page j) (λ f. let same : j ≡ i = ap (λ (x : Place). x.slot) f in
    omega (arith, same, e))
    ∙ row_there page (i + 1) slots k row j (omega (arith, e)) here

-- none of another page
pub none_elsewhere : (page i : ℕ) (slots : List (Option Row)) (q : Place) → q.page ≢ page → map.get (rows_from page i slots) q ≡ None
none_elsewhere page i [] q apart = map.get-empty rid_cmp q
none_elsewhere page i (o ∷ slots) q apart =
    get-set_at_other rid_exact (rows_from page (i + 1) slots) (at page i) o q (λ f. apart (ap (λ (x : Place). x.page) f))
    ∙ none_elsewhere page (i + 1) slots q apart

-- none beyond the last slot
pub none_past : (page i : ℕ) (slots : List (Option Row)) (q : Place) → i + length slots ≤ q.slot → map.get (rows_from page i slots) q ≡ None
none_past page i [] q past = map.get-empty rid_cmp q
none_past page i (o ∷ slots) q past =
    get-set_at_other rid_exact (rows_from page (i + 1) slots) (at page i) o q (λ f. let same : q.slot ≡ i = ap (λ (x : Place). x.slot) f in
    omega (arith, same, past)) ∙ none_past page (i + 1) slots q (omega (arith, past))

none_some : (r : Row) → (◌≡◌ {A = Option Row} None (Some r)) → ⊥
none_some r e = absurd cc

-- a row is in a slot of the page
pub slot_within : (page : ℕ) (slots : List (Option Row)) → length slots ≡ SLOTS_PER_PAGE → (q : Place) (r : Row) → map.get (rows_from page 0 slots) q ≡ Some r
    → q.slot < SLOTS_PER_PAGE
slot_within page slots long q r is = ⊎_elim
    (λ below. below)
    (λ past. absurd (none_some r (sym (none_past page 0 slots q (omega (arith, long, past))) ∙ is)))
    (cases_lt q.slot SLOTS_PER_PAGE)

-- each slot has the row that the table has there
pub slots_shown : (page : ℕ) (slots : List (Option Row)) → length slots ≡ SLOTS_PER_PAGE → (slot : ℕ) → slot < SLOTS_PER_PAGE
    → slice_get slots slot ≡ Some (map.get (rows_from page 0 slots) (at page slot))
slots_shown page slots long slot low =
    let here = slice_get-get_or slots slot None (omega (arith, long, low)) in
    here ∙ ap Some (sym (row_there page 0 slots slot (get_or slots slot None) slot (omega arith) here))

use Rattle.std.proofs.Common.{◌≡◌, ◌==◌, ◌⊎◌, inl, inr, ℕ, Bool, true, false, List, Option, Some, length, slice_get, sym, ap, ◌∙◌, arith}
use Rattle.std.proofs.lemmas.Bool.Decides.{nat_tests}
use Rattle.std.specs.FinMap as map
use Rattle.record_values.specs.declared.rid.TheConstants.{SLOTS_PER_PAGE}
use Rattle.record_values.specs.declared.row.Row.{Row}
use Rattle.model.specs.Table.{Table}
use Rattle.store_image_model.specs.Slots.{rows_from}
use Rattle.store_image_model.proofs.Slotted.{at, none_elsewhere, none_past, slots_shown}
use Rattle.store_image_model.proofs.page_rows.PageRows.page.Goals as goal

few : (slots len : ℕ) (is_empty : Bool) → len ≡ slots → is_empty ≡ (len == 0) → is_empty ≡ true → slots ≡ 0
few slots len is_empty counted tells holds = grind (arith, nat_tests)

all_there : (slots len : ℕ) (is_empty : Bool) → len ≡ slots → is_empty ≡ (len == 0) → is_empty ≡ false → (slots ≡ 0) ⊎ (slots ≡ SLOTS_PER_PAGE)
    → slots ≡ SLOTS_PER_PAGE
all_there slots len is_empty counted tells holds (inl none) = absurd (grind (arith, nat_tests))
all_there slots len is_empty counted tells holds (inr all) = all

pub returns-then-page-self-clause-none : goal.returns-then-page-self-clause-none
returns-then-page-self-clause-none g c = λ none slot.
    ap (λ (t : Table). map.get t (at c.args.page slot)) (sym c.self.view_is)
    ∙ none_elsewhere c.self.inside.page 0 c.self.inside.slots.items (at c.args.page slot) c.if-page-self.true

pub returns-then-is_empty-clause-none : goal.returns-then-is_empty-clause-none
returns-then-is_empty-clause-none g c = λ none slot.
    let slots : List (Option Row) = c.self.inside.slots.items in
    ap (λ (t : Table). map.get t (at c.args.page slot)) (sym c.self.view_is)
    ∙ none_past c.self.inside.page 0 slots (at c.args.page slot)
    (omega (arith, few (length slots) c.self.inside.slots.len c.is_empty.result c.self.inside.slots.ok.0 c.is_empty.ensures c.if-is_empty.true))

pub returns-clause-slots : goal.returns-clause-slots
returns-clause-slots g c = λ slot low.
    let page = c.self.inside.page in
    let slots : List (Option Row) = c.self.inside.slots.items in
    let long : length slots ≡ SLOTS_PER_PAGE = all_there
    (length slots) c.self.inside.slots.len c.is_empty.result c.self.inside.slots.ok.0 c.is_empty.ensures c.if-is_empty.false c.self.invariant in
    ap (λ (xs : List (Option Row)). slice_get xs slot) c.as_slice.ensures.value
    ∙ slots_shown page slots long slot low
    ∙ ap (λ n. Some (map.get (rows_from page 0 slots) (at n slot))) (sym c.if-page-self.false)
    ∙ ap (λ (t : Table). Some (map.get t (at c.args.page slot))) c.self.view_is

pub returns-clause-count : goal.returns-clause-count
returns-clause-count g c =
    let slots : List (Option Row) = c.self.inside.slots.items in
    let long : length slots ≡ SLOTS_PER_PAGE = all_there
    (length slots) c.self.inside.slots.len c.is_empty.result c.self.inside.slots.ok.0 c.is_empty.ensures c.if-is_empty.false c.self.invariant in
    ap length c.as_slice.ensures.value ∙ long

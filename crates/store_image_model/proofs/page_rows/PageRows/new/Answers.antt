use Rattle.std.proofs.Common.{◌≡◌, ◌++◌, List, Option, length, inr, slice_get, sym, ap, ◌∙◌, arith}
use Rattle.record_values.specs.declared.rid.TheConstants.{SLOTS_PER_PAGE}
use Rattle.record_values.specs.declared.row.Row.{Row}
use Rattle.store_image_model.proofs.Slotted.{none_elsewhere, slot_within, slots_shown}
use Rattle.store_image_model.proofs.page_rows.PageRows.new.Goals as goal

pub invariant_of-result : goal.invariant_of-result
invariant_of-result g c =
    let kept : c.extend_from_slice.new.self.items ≡ c.args.slots.now = c.in_ok-extend_from_slice.ensures.items
    ∙ ap (λ (xs : List (Option Row)). xs ++ c.args.slots.now) c.in_ok-kept.ensures.items in
    inr (omega (arith, ap length kept))

pub returns-clause-there : goal.returns-clause-there
returns-clause-there g c = λ slot low.
    let items : List (Option Row) = c.extend_from_slice.new.self.items in
    let kept : items ≡ c.args.slots.now = c.in_ok-extend_from_slice.ensures.items
    ∙ ap (λ (xs : List (Option Row)). xs ++ c.args.slots.now) c.in_ok-kept.ensures.items in
    let long : length items ≡ SLOTS_PER_PAGE = omega (arith, ap length kept) in
    ap (λ (xs : List (Option Row)). slice_get xs slot) (sym kept) ∙ slots_shown c.args.page items long slot low

pub returns-clause-elsewhere : goal.returns-clause-elsewhere
returns-clause-elsewhere g c = λ q apart. none_elsewhere c.args.page 0 c.extend_from_slice.new.self.items q apart

pub returns-clause-slots : goal.returns-clause-slots
returns-clause-slots g c = λ q r is.
    let items : List (Option Row) = c.extend_from_slice.new.self.items in
    let kept : items ≡ c.args.slots.now = c.in_ok-extend_from_slice.ensures.items
    ∙ ap (λ (xs : List (Option Row)). xs ++ c.args.slots.now) c.in_ok-kept.ensures.items in
    let long : length items ≡ SLOTS_PER_PAGE = omega (arith, ap length kept) in
    slot_within c.args.page items long q r is

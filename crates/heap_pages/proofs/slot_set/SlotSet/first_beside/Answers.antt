use Rattle.std.proofs.Common.{List, Bool, slice_get, ap, sym, ◌∙◌, arith, bit_and, w64}
use Rattle.std.specs.Int.{bit_not, trailing_zeros}
use Rattle.heap_pages.proofs.SlotBits.{none_beside, lowest_is, none_before_lowest}
use Rattle.heap_pages.proofs.slot_set.SlotSet.first_beside.Goals as goal

pub returns-then-bits-eq0-clause-none : goal.returns-then-bits-eq0-clause-none
returns-then-bits-eq0-clause-none c = λ t has.
    ap (λ (l : List Bool). slice_get l t) (sym c.other.view_is)
    ∙ none_beside c.self.inside.bits c.other.inside.bits c.self.invariant c.other.invariant c.if-bits-eq0.true t
    (ap (λ (l : List Bool). slice_get l t) c.self.view_is ∙ has)

pub returns-clause-found : goal.returns-clause-found
returns-clause-found c =
    let first = trailing_zeros w64 (bit_and c.self.inside.bits (bit_not w64 c.other.inside.bits)) in
    let at = lowest_is c.self.inside.bits c.other.inside.bits c.self.invariant c.other.invariant (omega (arith, c.if-bits-eq0.false)) in (
      ap (λ (l : List Bool). slice_get l first) (sym c.self.view_is) ∙ at.0,
      ap (λ (l : List Bool). slice_get l first) (sym c.other.view_is) ∙ at.1,
    )

pub returns-clause-first : goal.returns-clause-first
returns-clause-first c = λ t low has.
    ap (λ (l : List Bool). slice_get l t) (sym c.other.view_is)
    ∙ none_before_lowest c.self.inside.bits c.other.inside.bits c.self.invariant c.other.invariant (omega (arith, c.if-bits-eq0.false)) t low
    (ap (λ (l : List Bool). slice_get l t) c.self.view_is ∙ has)

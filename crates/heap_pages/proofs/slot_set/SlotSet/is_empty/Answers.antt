use Rattle.std.proofs.Common.{ℕ, ◌≡◌, ◌<◌, ◌==◌, List, Bool, false, Some, slice_get, subst}
use Rattle.std.specs.Prelude.{◌↔◌, IsTrue}
use Rattle.record_values.specs.declared.rid.TheConstants.{SLOTS_PER_PAGE}
use Rattle.heap_pages.proofs.SlotBits.{none_in}
use Rattle.heap_pages.proofs.slot_set.SlotSet.is_empty.Goals as goal

pub returns : goal.returns
returns c = subst (λ (l : List Bool). (IsTrue (c.self.inside.bits == 0) ↔ ((s : ℕ) → s < SLOTS_PER_PAGE → slice_get l s ≡ Some false))) c.self.view_is
    (none_in c.self.inside.bits c.self.invariant)

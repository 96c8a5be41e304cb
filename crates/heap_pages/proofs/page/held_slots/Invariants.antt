use Rattle.std.proofs.Common.{◌≡◌, ℕ, ◌<◌, Some, slice_get, take}
use Rattle.record_values.specs.declared.rid.TheConstants.{SLOTS_PER_PAGE}
use Rattle.record_values.specs.Values.{is_among}
use Rattle.heap_pages.proofs.page.held_slots.Given as goal

abbrev pub invariant-loop-rid : goal.invariant-loop-rid
invariant-loop-rid l = (s : ℕ) → s < SLOTS_PER_PAGE → slice_get l.slots s ≡ Some (is_among (record { page = l.page; slot = s }) (take l.rid-index l.held))

use Rattle.heap_pages.proofs.SlotBits.{no_slot}
use Rattle.heap_pages.proofs.slot_set.SlotSet.none.Goals as goal

pub returns : goal.returns
returns c = no_slot

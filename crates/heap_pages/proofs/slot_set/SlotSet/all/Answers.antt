use Rattle.heap_pages.proofs.SlotBits.{each_slot}
use Rattle.heap_pages.proofs.slot_set.SlotSet.all.Goals as goal

pub returns : goal.returns
returns c = each_slot

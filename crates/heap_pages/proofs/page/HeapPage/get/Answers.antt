use Rattle.std.proofs.Common.{length, refl}
use Rattle.std.proofs.lemmas.Option.{slice_get_read}
use Rattle.heap_pages.proofs.SlotLists.{slot_shown, no_slot_there}
use Rattle.heap_pages.proofs.page.HeapPage.get.Goals as goal

pub returns-in-Some : goal.returns-in-Some
returns-in-Some c =
    let slots = c.self.inside.slots in
    let found = c.in-Some.ensures.lookup in
    slot_shown slots c.args.self.now c.args.slot c.in-Some.row.now c.self.view_is
    (slice_get_read slots (length slots) c.args.slot c.in-Some.row.now refl found.3.0 found.1)

pub returns-in-None : goal.returns-in-None
returns-in-None c = no_slot_there c.self.inside.slots c.args.self.now c.args.slot c.self.view_is c.in-None.ensures.lookup.3

use Rattle.std.proofs.Common.{List, Bool, slice_set, ap, ◌∙◌}
use Rattle.heap_pages.proofs.SlotBits.{slot_put}
use Rattle.heap_pages.proofs.slot_set.SlotSet.put.Goals as goal

pub returns : goal.returns
returns c =
    let told = c.with_bit-self-inside in
    slot_put c.self.inside.bits told.result c.args.slot c.args.is_in told.ensures.bit told.ensures.others
    ∙ ap (λ (l : List Bool). slice_set l c.args.slot c.args.is_in) c.self.view_is

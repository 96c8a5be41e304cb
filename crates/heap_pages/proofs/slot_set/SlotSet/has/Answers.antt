use Rattle.std.proofs.Common.{◌==◌, List, Bool, Some, slice_get, sym, ap, ◌∙◌}
use Rattle.std.proofs.lemmas.Nat.Bits.{shr_and_one}
use Rattle.heap_pages.proofs.SlotBits.{get-flags_of}
use Rattle.heap_pages.proofs.slot_set.SlotSet.has.Goals as goal

pub returns : goal.returns
returns c = ap (λ (l : List Bool). slice_get l c.args.slot) (sym c.self.view_is) ∙ get-flags_of c.self.inside.bits c.args.slot c.requires
    ∙ ap (λ b. Some (b == 1)) (sym (shr_and_one c.self.inside.bits c.args.slot))

use Rattle.std.proofs.Common.{List, Bool, slice_get, sym, ap, ◌∙◌}
use Rattle.std.proofs.lemmas.Bool.{eqb-true}
use Rattle.heap_pages.proofs.SlotBits.{all_in}
use Rattle.heap_pages.proofs.slot_set.SlotSet.is_all.Goals as goal

pub returns : goal.returns
returns c = λ all s within. ap (λ (l : List Bool). slice_get l s) (sym c.self.view_is) ∙ all_in c.self.inside.bits (eqb-true _ _ all) s within

use Rattle.std.proofs.Common.{◌∙◌, refl}
use Rattle.shared.proofs.shared.Shared.create_patiently.Goals as goal

pub loop-init : goal.loop-init
loop-init g c = refl

pub loop-preserved : goal.loop-preserved
loop-preserved g c =
    let same = rw c.in-Err-TxnsActive.is at c.create_index-created.ensures.refused in
    same ∙ c.loop.invariant

pub returns-in_default : goal.returns-in_default
returns-in_default g c = rw (← c.loop.invariant) c.create_index-created.ensures

pub returns-then-is_over : goal.returns-then-is_over
returns-then-is_over g c = rw (← c.loop.invariant) c.create_index-created.ensures

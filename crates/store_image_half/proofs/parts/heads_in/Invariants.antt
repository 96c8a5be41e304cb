use Rattle.store_image_half.specs.Steps.{AreFirstHeads}
use Rattle.store_image_half.proofs.parts.heads_in.Given as goal

abbrev pub invariant-loop-k : goal.invariant-loop-k
invariant-loop-k g l = AreFirstHeads l.bytes l.k l.heads.items

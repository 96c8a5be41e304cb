use Rattle.std.proofs.Common.{◌∙◌, ap, ◌++◌, [], ◌∷◌, List, ℕ}
use Rattle.std.proofs.lemmas.List.{replicate_more}
use Rattle.block_device.specs.Blocks.{zero_block}
use Rattle.block_device.proofs.runs.zero_blocks.Goals as goal

pub loop-preserved : goal.loop-preserved
loop-preserved g c =
    let pushed = c.in_ok-push.ensures.items in
    pushed ∙ ap (λ (x : List ℕ). c.loop.image.items ++ x ∷ []) c.zero_block.ensures ∙ ap (λ (l : List (List ℕ)). l ++ zero_block ∷ []) c.loop.invariant
    ∙ replicate_more c.loop.counter zero_block

use Rattle.std.proofs.Common.{◌∙◌, ap, ◌++◌, [], ◌∷◌, List, ℕ}
use Rattle.sector_device.specs.Values.{zero_sector}
use Rattle.sector_device.proofs.Record.{replicate_push}
use Rattle.store_file.proofs.mirror.zeros.Goals as goal

pub loop-preserved : goal.loop-preserved
loop-preserved g c =
    let pushed = c.in_ok-push.ensures.items in
    pushed ∙ ap (λ (x : List ℕ). c.loop.image.items ++ x ∷ []) c.zero_sector.ensures ∙ ap (λ (l : List (List ℕ)). l ++ zero_sector ∷ []) c.loop.invariant
    ∙ replicate_push c.loop.counter zero_sector

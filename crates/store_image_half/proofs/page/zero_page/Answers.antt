use Rattle.std.proofs.Common.{◌≡◌, ◌+◌, ◌*◌, ◌-◌, take, ap, ◌∙◌, arith}
use Rattle.std.proofs.lemmas.List.{take-replicate, drop-replicate}
use Rattle.store_image_parts.specs.Spelling.{zeros}
use Rattle.store_image_half.proofs.page.zero_page.Goals as goal

pub returns-clause-edges : goal.returns-clause-edges
unfolding zeros
returns-clause-edges c = record { front = take-replicate 64 8192 0 (omega arith); behind = drop-replicate 8128 8192 0 }

pub returns-clause-rows : goal.returns-clause-rows
unfolding zeros
returns-clause-rows c = λ k low.
    let start = 64 + 128 * k in
    let size = 64 + 128 * (k + 1) - start in
    let is : size ≡ 128 = omega arith in
    record {
      spelled = ap (take size) (drop-replicate start 8192 0) ∙ take-replicate size (8192 - start) 0 (omega (arith, low)) ∙ ap zeros is;
      fits = tt;
    }

use Rattle.std.proofs.Common.{List, [], ap, arith, ◌+◌, ◌++◌, ◌∙◌, ◌∷◌, ℕ}
use Rattle.entry_scan.proofs.KeyOrder.{greater_behind, key_cmp}
use Rattle.entry_scan.proofs.range.+key_behind.Goals as goal

pub returns-else-last : goal.returns-else-last
returns-else-last t c = λ rest.
    let front = c.in_ok-last.front.now in
    let last = c.in_ok-last.last.now in
    ap (λ (bytes : List ℕ). key_cmp (bytes ++ rest) c.key_with.result) c.in_ok-last.ensures.cases.0
    ∙ ap (key_cmp ((front ++ last ∷ []) ++ rest)) c.key_with.ensures
    ∙ greater_behind front rest last (last + 1) (omega arith)

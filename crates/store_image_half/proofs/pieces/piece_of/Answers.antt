use Rattle.std.proofs.Common.{◌≡◌, ◌*◌, ◌/◌, ◌<◌, subst, ap, sym, ◌∙◌, arith, length, List, ℕ, get_or}
use Rattle.store_image_half.proofs.Cut.{nth_chunk, cut_is}
use Rattle.store_image_half.proofs.pieces.piece_of.Goals as goal

pub returns : goal.returns
returns g c =
    let n = g.row.N in
    let j = c.args.j in
    let long : length c.args.buffer.now ≡ 512 = omega (arith, c.told-buffer) in
    let below : j < length c.args.buffer.now / n = subst (λ (k : ℕ). j < k / n) (sym long) c.requires.inside in
    let r = c.index-pieces-j.result in
    c.index-pieces-j.is
    ∙ ap (λ (ps : List (List ℕ)). get_or ps j r) c.as_chunks.ensures.front
    ∙ nth_chunk n _ j c.args.buffer.now r below
    ∙ cut_is n (n * j) c.args.buffer.now

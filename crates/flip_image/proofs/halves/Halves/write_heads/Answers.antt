use Rattle.std.proofs.Common.{◌≡◌, arith}
use Rattle.store_image_half.specs.Layout.{heads_at}
use Rattle.flip_image.specs.Layout.{other, InHalfImage}
use Rattle.flip_image.proofs.Wider.{within_more}
use Rattle.flip_image.proofs.halves.Halves.write_heads.Goals as goal

pub returns-clause-within : goal.returns-clause-within
returns-clause-within g c =
    let h = c.args.self.now in
    within_more (λ n. n ≡ heads_at c.idle_first-first.result) (InHalfImage h.geometry (other h.current)) _ _ _
    (λ n is. (omega (arith, is, c.idle_first-first.ensures.value), omega (arith, is, c.idle_first-first.ensures.value)))
    c.write_heads.ensures.within

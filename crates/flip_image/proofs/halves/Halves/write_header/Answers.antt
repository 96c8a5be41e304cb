use Rattle.std.proofs.Common.{◌≡◌, arith}
use Rattle.flip_image.specs.Layout.{other, InHalfImage}
use Rattle.flip_image.proofs.Wider.{within_more}
use Rattle.flip_image.proofs.halves.Halves.write_header.Goals as goal

pub returns-clause-within : goal.returns-clause-within
returns-clause-within g c =
    let h = c.args.self.now in
    within_more (λ n. n ≡ c.idle_first-first.result) (InHalfImage h.geometry (other h.current)) _ _ _
    (λ n is. (omega (arith, is, c.idle_first-first.ensures.value), omega (arith, is, c.idle_first-first.ensures.value)))
    c.write_header.ensures.within

use Rattle.std.proofs.Common.{⊎_elim, inl, inr, ℕ, subst}
use Rattle.record_values.specs.GeometryValue.{GeometryValue}
use Rattle.store_image_half.specs.Layout.{InImage}
use Rattle.store_image_half.specs.Image.{InStart, InImageOf}
use Rattle.store_image_half.proofs.Written.{taken_inside}
use Rattle.flip_image.specs.Layout.{other, InHalfImage}
use Rattle.flip_image.proofs.Wider.{within_more}
use Rattle.flip_image.proofs.halves.Halves.write_start.Goals as goal

pub returns-clause-within : goal.returns-clause-within
returns-clause-within g c =
    let h = c.args.self.now in
    let cells = g.S.CellSource.cells c.args.source.now in
    let first : ℕ = c.idle_first-first.result in
    within_more (InStart first cells) (InHalfImage h.geometry (other h.current)) _ _ _
    (λ n is. subst (λ f. InImage h.geometry f n) c.idle_first-first.ensures.value
    (taken_inside h.geometry first cells c.requires.fits n (⊎_elim (λ heads. inr (inl heads)) (λ list. inr (inr (inr (inl list)))) is)))
    c.write_start.ensures.within

use Rattle.std.proofs.Common.{length, arith}
use Rattle.store_image_half.specs.Layout.{InList}
use Rattle.flip_image.specs.Layout.{other, InHalfImage}
use Rattle.flip_image.proofs.Wider.{within_more}
use Rattle.flip_image.proofs.halves.Halves.write_list.Goals as goal

pub returns-clause-within : goal.returns-clause-within
returns-clause-within g c =
    let h = c.args.self.now in
    within_more (InList c.idle_first-first.result c.args.h (length c.args.changes.now)) (InHalfImage h.geometry (other h.current)) _ _ _
    (λ n is. (omega (arith, is.0, c.idle_first-first.ensures.value), omega (arith, is.1, c.idle_first-first.ensures.value, c.requires.head, c.requires.count)))
    c.write_list.ensures.within

use Rattle.std.proofs.Common.{sym, subst, arith}
use Rattle.record_values.specs.GeometryValue.{GeometryValue}
use Rattle.store_image_half.specs.Layout.{InImage}
use Rattle.store_image_half.specs.Image.{InImageOf}
use Rattle.store_image_half.specs.Source.{FitsImage}
use Rattle.store_image_half.proofs.Written.{taken_inside}
use Rattle.flip_image.proofs.Wider.{within_more}
use Rattle.flip_image.proofs.halves.Halves.write_image.Goals as goal

pub write_image-requires : goal.write_image-requires
write_image-requires g c =
    rw c.geometry.ensures (record {
      fits = c.requires.fits;
      base = c.requires.base;
      inside = omega (arith, c.idle_first-first.ensures.inside, c.requires.inside);
      number = c.idle_first-first.ensures.number;
    })

pub returns : goal.returns
returns g c =
    let cells = g.S.CellSource.cells c.args.source.now in
    let geometry : GeometryValue = c.geometry.result in
    let first = c.idle_first-first.result in
    let fits = subst (λ (x : GeometryValue). FitsImage x cells) (sym c.geometry.ensures) c.requires.fits in
    rw (← c.idle_first-first.ensures.value, ← c.geometry.ensures) (record {
      written = c.write_image.ensures.written;
      rest = c.write_image.ensures.rest;
      outside = c.write_image.ensures.outside;
      within = within_more (InImageOf geometry first cells) (InImage geometry first) _ _ _ (λ n is. taken_inside geometry first cells fits n is)
          c.write_image.ensures.within;
      counts = c.write_image.ensures.counts;
    })

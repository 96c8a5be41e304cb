use Rattle.std.proofs.Common.{refl, sym, ap, ◌∙◌}
use Rattle.flip_image.specs.declared.half.Half.{Half}
use Rattle.flip_image.specs.Layout.{HalvesValue}
use Rattle.flip_image.proofs.Results.{from_ok, from_err}
use Rattle.flip_image.proofs.halves.Halves.flip.Goals as goal

pub write_flip_sector-requires : goal.write_flip_sector-requires
write_flip_sector-requires g c = c.requires.inside

pub returns-then-is_err : goal.returns-then-is_err
returns-then-is_err g c =
    let done = c.write_flip_sector.ensures in
    rw (← c.self.view_is) (record {
      flipped = tt;
      sector = tt;
      named = tt;
      synced = tt;
      outside = done.outside;
      any_moment = done.any_moment;
      err = refl;
      refused = (refl, from_err _ c.write_flip_sector.result (sym c.is_err.ensures.value ∙ c.if-is_err.true) done.counts.failed);
      quiet = tt;
      later = done.counts.later;
    })

pub returns : goal.returns
returns g c =
    let done = c.write_flip_sector.ensures in
    let ok = sym c.is_err.ensures.value ∙ c.if-is_err.false in
    rw (← c.self.view_is) (record {
      flipped = ap (λ (half : Half). let halves : HalvesValue = record { geometry = c.self.inside.geometry; current = half } in halves) c.other-next.ensures;
      sector = from_ok _ _ ok done.sector;
      named = from_ok _ _ ok done.named;
      synced = from_ok _ _ ok done.synced;
      outside = done.outside;
      any_moment = done.any_moment;
      err = tt;
      refused = tt;
      quiet = from_ok _ _ ok done.counts.none;
      later = done.counts.later;
    })

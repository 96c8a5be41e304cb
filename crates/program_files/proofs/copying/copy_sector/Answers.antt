use Rattle.std.proofs.Common.{inl, inr, refl, sym, ◌∙◌, ap}
use Rattle.sector_device.specs.Disk.{Disk, sector}
use Rattle.sector_device.proofs.Sectors.{content_after, sector_written}
use Rattle.program_files.proofs.CopiedSectors.{from_ok, from_err, same_here}
use Rattle.program_files.proofs.copying.copy_sector.Goals as goal

pub returns-then-is_err : goal.returns-then-is_err
returns-then-is_err g c = record {
  copied = tt;
  others = same_here _ _;
  kept = record { disk = c.read.ensures.disk; time = c.read.ensures.time };
  failed = inl (refl, from_err _ c.read.result (sym c.is_err.ensures.value ∙ c.if-is_err.true) c.read.ensures.counts.failed);
  quiet = tt;
}

pub returns-then-is_err-2 : goal.returns-then-is_err-2
returns-then-is_err-2 g c = record {
  copied = tt;
  others = content_after _ _ _ c.args.n _ _ c.write.result c.write.ensures.ok c.write.ensures.err refl (same_here _ _);
  kept = record { disk = c.read.ensures.disk; time = c.read.ensures.time };
  failed = inr (refl, from_err _ c.write.result (sym c.is_err-2.ensures.value ∙ c.if-is_err-2.true) c.write.ensures.counts.failed);
  quiet = tt;
}

pub returns : goal.returns
returns g c =
    let read = from_ok _ c.read.result (sym c.is_err.ensures.value ∙ c.if-is_err.false) c.read.ensures.ok in
    let written = from_ok _ c.write.result (sym c.is_err-2.ensures.value ∙ c.if-is_err-2.false) c.write.ensures.ok in
    record {
      copied = ap (λ (d : Disk). sector d.content c.args.n) written ∙ sector_written (g.N.Device.past_of c.args.to.now).disk c.args.n _ c.requires.room ∙ read;
      others = content_after _ _ _ c.args.n _ _ c.write.result c.write.ensures.ok c.write.ensures.err refl (same_here _ _);
      kept = record { disk = c.read.ensures.disk; time = c.read.ensures.time };
      failed = tt;
      quiet = (
        from_ok _ c.read.result (sym c.is_err.ensures.value ∙ c.if-is_err.false) c.read.ensures.counts.none,
        from_ok _ c.write.result (sym c.is_err-2.ensures.value ∙ c.if-is_err-2.false) c.write.ensures.counts.none,
      );
    }

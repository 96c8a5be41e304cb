use Rattle.std.proofs.Common.{Result, Ok, Err, ◌≡◌, ◌<◌, inl, inr, length, refl, sym, ◌∙◌, arith}
use Rattle.record_values.specs.GeometryValue.{sectors_of}
use Rattle.sector_device.specs.Disk.{CrashState}
use Rattle.record_values.specs.declared.error.Error.{Error}
use Rattle.record_values.specs.declared.error.Error.TheVariants.{DeviceFailed, DeviceTooSmall}
use Rattle.flip_image.proofs.Formats.{still}
use Rattle.flip_image.proofs.Results.{from_ok, from_err}
use Rattle.flip_image.proofs.halves.Halves.format.Goals as goal

failed_not_small : ◌≡◌ {A = Result Unit Error} (Err DeviceFailed) (Err DeviceTooSmall) → ⊥
failed_not_small is = (cc)

done_not_small : ◌≡◌ {A = Result Unit Error} (Ok tt) (Err DeviceTooSmall) → ⊥
done_not_small is = (cc)

pub returns-then-sectors-needed : goal.returns-then-sectors-needed
returns-then-sectors-needed g c =
    let image : CrashState = (g.D.Device.past_of c.args.device.now).disk.content in
    let small : length image < sectors_of c.args.geometry = omega (arith, c.if-sectors-needed.true, c.sectors.ensures, c.sectors-needed.ensures) in
    record {
      formatted = tt;
      closed = tt;
      flip = tt;
      gates = tt;
      synced = tt;
      outside = still _ image;
      too_small = (λ _. small, λ _. refl);
      unchanged = λ _. refl;
      refused = inl refl;
      quiet = tt;
      later = omega arith;
    }

pub write_store-requires : goal.write_store-requires
write_store-requires g c = omega (arith, c.if-sectors-needed.false, c.sectors.ensures, c.sectors-needed.ensures)

pub returns-then-is_err : goal.returns-then-is_err
returns-then-is_err g c =
    let done = c.write_store.ensures in
    record {
      formatted = tt;
      closed = tt;
      flip = tt;
      gates = tt;
      synced = tt;
      outside = done.outside;
      too_small = (
        λ is. absurd (failed_not_small is),
        λ small. absurd (omega (arith, small, c.if-sectors-needed.false, c.sectors.ensures, c.sectors-needed.ensures)),
      );
      unchanged = λ is. absurd (failed_not_small is);
      refused = inr (refl, from_err _ c.write_store.result (sym c.is_err.ensures.value ∙ c.if-is_err.true) done.counts.failed);
      quiet = tt;
      later = done.counts.later;
    }

pub returns : goal.returns
returns g c =
    let done = c.write_store.ensures in
    let ok = sym c.is_err.ensures.value ∙ c.if-is_err.false in
    record {
      formatted = from_ok _ _ ok done.formatted;
      closed = from_ok _ _ ok done.closed;
      flip = from_ok _ _ ok done.flip;
      gates = from_ok _ _ ok done.gates;
      synced = from_ok _ _ ok done.synced;
      outside = done.outside;
      too_small = (
        λ is. absurd (done_not_small is),
        λ small. absurd (omega (arith, small, c.if-sectors-needed.false, c.sectors.ensures, c.sectors-needed.ensures)),
      );
      unchanged = λ is. absurd (done_not_small is);
      refused = tt;
      quiet = from_ok _ _ ok done.counts.none;
      later = done.counts.later;
    }

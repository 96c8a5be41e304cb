use Rattle.std.proofs.Common.{◌≡◌, ℕ, Err, sym, ◌∙◌, ap, subst}
use Rattle.std.proofs.lemmas.Result.{err_from_is_err_and}
use Rattle.sector_device.specs.Disk.{Disk, SameOutside}
use Rattle.flip_image.specs.Layout.{header_sector}
use Rattle.store_salvage.proofs.Parts.{from_ok}
use Rattle.store_salvage.proofs.entries.leave_entries.Goals as goal

pub returns-in_err-found : goal.returns-in_err-found
returns-in_err-found g c =
    let p = err_from_is_err_and c.from_residual.result c.from_residual.ensures.1 in
    rw (p.1 ∙ ap Err p.2) (record {
      done = tt;
      refused = rw (c.geometry.ensures, c.header_sector_in-first.ensures.value) at c.in_err-found.ensures.refused;
      quiet = tt;
    })

pub returns : goal.returns
returns g c =
    let halves = c.args.halves.now in
    let new = (g.D.Device.past_of c.write_header.new.device).disk.content in
    let first = c.header_sector_in-first.ensures.value in
    let found = c.in_ok-found.ensures in
    let wrote = c.write_header.ensures in
    let good = sym c.is_err.ensures.value ∙ c.if-is_err.false in
    record {
      done = record {
        header = c.in_ok-found.found;
        said = rw (c.geometry.ensures, first) at found.said;
        says = rw (c.geometry-2.ensures, first) at (from_ok _ _ good wrote.written);
        others = subst (λ (d : Disk). SameOutside (λ n. n ≡ header_sector halves.geometry halves.current) d.content new) found.reads.disk
            (subst (λ (s : ℕ). SameOutside (λ n. n ≡ s) (g.D.Device.past_of c.header_at.new.device).disk.content new) first wrote.outside);
      };
      refused = tt;
      quiet = from_ok _ _ good wrote.counts.none ∙ found.quiet;
    }

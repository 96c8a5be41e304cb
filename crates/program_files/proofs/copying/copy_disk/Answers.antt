use Rattle.std.proofs.Common.{◌<◌, inl, inr, Err, refl, sym, ◌∙◌, ap, subst, arith}
use Rattle.std.proofs.lemmas.Result.{err_from_is_err_and}
use Rattle.sector_device.specs.Disk.{Disk, SameOutside}
use Rattle.sector_device.proofs.Within.{reads_none}
use Rattle.program_files.specs.Copied.{HoldsFirst}
use Rattle.program_files.proofs.CopiedSectors.{fails_later, from_err, from_ok, same_here}
use Rattle.program_files.proofs.copying.copy_disk.Goals as goal

pub returns-then-sectors : goal.returns-then-sectors
returns-then-sectors g c = record {
  copied = tt;
  rest = same_here _ _;
  kept = reads_none _;
  room = tt;
  refused = inl (refl, omega (arith, c.if-sectors.true, c.sectors.ensures));
  quiet = tt;
}

pub returns-then-sectors-2 : goal.returns-then-sectors-2
returns-then-sectors-2 g c = record {
  copied = tt;
  rest = same_here _ _;
  kept = reads_none _;
  room = tt;
  refused = inr (inl (refl, omega (arith, c.if-sectors-2.true, c.sectors-2.ensures)));
  quiet = tt;
}

pub copy_sectors-requires : goal.copy_sectors-requires
copy_sectors-requires g c = record {
  there = omega (arith, c.if-sectors.false, c.sectors.ensures);
  room = omega (arith, c.if-sectors-2.false, c.sectors-2.ensures);
}

pub returns-in_err-copy_sectors : goal.returns-in_err-copy_sectors
returns-in_err-copy_sectors g c =
    let p = err_from_is_err_and c.from_residual.result c.from_residual.ensures.1 in
    let done = c.in_err-copy_sectors.ensures in
    rw (p.1 ∙ ap Err p.2) (record {
      copied = tt;
      rest = c.copy_sectors.ensures.rest;
      kept = c.copy_sectors.ensures.kept;
      room = tt;
      refused = inr (inr done.failed);
      quiet = tt;
    })

pub returns-then-is_err : goal.returns-then-is_err
returns-then-is_err g c =
    let failed = sym c.is_err.ensures.value ∙ c.if-is_err.true in
    let done = c.in_ok-copy_sectors.ensures in
    let content = ap (λ (d : Disk). d.content) (from_err _ c.sync.result failed c.sync.ensures.err) in
    record {
      copied = tt;
      rest = rw content (c.copy_sectors.ensures.rest);
      kept = c.copy_sectors.ensures.kept;
      room = tt;
      refused = inr (inr (fails_later _ _ _ _ _ _ _ done.quiet.0 done.quiet.1
          (inr (refl, from_err _ c.sync.result failed c.sync.ensures.counts.failed))));
      quiet = tt;
    }

pub returns : goal.returns
returns g c =
    let good = sym c.is_err.ensures.value ∙ c.if-is_err.false in
    let done = c.in_ok-copy_sectors.ensures in
    let disk = from_ok _ c.sync.result good c.sync.ensures.ok in
    record {
      copied = subst (λ (d : Disk). HoldsFirst c.args.sectors (g.O.Device.past_of c.args.from.now).disk.content d) (sym disk)
          (record { same = done.copied; synced = λ n. refl });
      rest = subst (λ (d : Disk). SameOutside (λ n. n < c.args.sectors) (g.N.Device.past_of c.args.to.now).disk.content d.content) (sym disk)
          c.copy_sectors.ensures.rest;
      kept = c.copy_sectors.ensures.kept;
      room = (omega (arith, c.if-sectors.false, c.sectors.ensures), omega (arith, c.if-sectors-2.false, c.sectors-2.ensures));
      refused = tt;
      quiet = (done.quiet.0, from_ok _ c.sync.result good c.sync.ensures.counts.none ∙ done.quiet.1);
    }

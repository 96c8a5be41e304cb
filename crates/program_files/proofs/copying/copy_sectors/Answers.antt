use Rattle.std.proofs.Common.{◌≡◌, Err, length, refl, ◌∙◌, ap, arith}
use Rattle.std.proofs.lemmas.Result.{err_from_is_err_and}
use Rattle.sector_device.specs.Disk.{Disk, sector}
use Rattle.sector_device.proofs.Within.{reads_none, reads_then}
use Rattle.program_files.proofs.CopiedSectors.{copied_more, fails_later, rest_more, same_here}
use Rattle.program_files.proofs.copying.copy_sectors.Goals as goal

pub loop-n-init : goal.loop-n-init
loop-n-init g c = record {
  copied = λ k below. absurd (omega (arith, below));
  rest = same_here _ _;
  reads = reads_none _;
  old_quiet = refl;
  new_quiet = refl;
}

pub copy_sector-requires-clause-there : goal.copy_sector-requires-clause-there
copy_sector-requires-clause-there g c = omega (
  arith,
  c.requires.there,
  c.loop-n-test.true,
  ap (λ (d : Disk). length d.content) c.loop-n.invariant.reads.disk,
)

pub copy_sector-requires-clause-room : goal.copy_sector-requires-clause-room
copy_sector-requires-clause-room g c = omega (arith, c.requires.room, c.loop-n-test.true, c.loop-n.invariant.rest.sectors)

pub returns-in_err-copy_sector : goal.returns-in_err-copy_sector
returns-in_err-copy_sector g c =
    let so_far = c.loop-n.invariant in
    let p = err_from_is_err_and c.from_residual.result c.from_residual.ensures.1 in
    rw (p.1 ∙ ap Err p.2) (record {
      copied = tt;
      rest = rest_more c.loop-n.n _ _ _ _ c.loop-n-test.true so_far.rest c.copy_sector.ensures.others;
      kept = reads_then _ _ _ so_far.reads c.copy_sector.ensures.kept;
      failed = fails_later _ _ _ _ _ _ _ so_far.old_quiet so_far.new_quiet c.in_err-copy_sector.ensures.failed;
      quiet = tt;
    })

pub loop-n-preserved : goal.loop-n-preserved
loop-n-preserved g c =
    let so_far = c.loop-n.invariant in
    let n = c.loop-n.n in
    record {
      copied = copied_more n _ _ _ so_far.copied c.copy_sector.ensures.others
          (c.in_ok-copy_sector.ensures.copied ∙ ap (λ (d : Disk). sector d.content n) so_far.reads.disk);
      rest = rest_more n _ _ _ _ c.loop-n-test.true so_far.rest c.copy_sector.ensures.others;
      reads = reads_then _ _ _ so_far.reads c.copy_sector.ensures.kept;
      old_quiet = c.in_ok-copy_sector.ensures.quiet.0 ∙ so_far.old_quiet;
      new_quiet = c.in_ok-copy_sector.ensures.quiet.1 ∙ so_far.new_quiet;
    }

pub returns : goal.returns
returns g c =
    let so_far = c.loop-n.invariant in
    let all : c.loop-n.n ≡ c.args.sectors = omega (arith, c.loop-n-test.false, c.loop-n.auto.n-end) in
    record {
      copied = λ k below. so_far.copied k (omega (arith, below, all));
      rest = so_far.rest;
      kept = so_far.reads;
      failed = tt;
      quiet = (so_far.old_quiet, so_far.new_quiet);
    }

use Rattle.std.proofs.Common.{Err, refl, ◌∙◌, ap, arith}
use Rattle.std.proofs.lemmas.Result.{err_from_is_err_and}
use Rattle.sector_device.proofs.Counts.{counts_later}
use Rattle.block_file.proofs.NewFile.{new_more}
use Rattle.block_file.proofs.making.write_kept.Goals as goal

pub loop-k-init : goal.loop-k-init
loop-k-init g c = record {
  kept = λ j none. absurd (omega (arith, none));
  size = refl;
  within = λ image start so_far. so_far;
  back = refl;
  quiet = refl;
}

pub write_one-requires : goal.write_one-requires
write_one-requires g c = record {
  behind = omega (arith, c.requires.behind);
  inside = omega (arith, c.loop-k-test.true, c.requires.inside, c.loop-k.invariant.size);
}

pub returns-in_err-write_one : goal.returns-in_err-write_one
returns-in_err-write_one g c =
    let p = err_from_is_err_and c.from_residual.result c.from_residual.ensures.1 in
    let so_far = c.loop-k.invariant in
    let all = c.write_one.ensures in
    rw (p.1 ∙ ap Err p.2) (record {
      kept = tt;
      size = all.size ∙ so_far.size;
      within = λ image start from. all.within image start (so_far.within image start from);
      back = all.back ∙ so_far.back;
      counts = counts_later _ _ _ _ so_far.quiet c.in_err-write_one.ensures.counts;
    })

pub loop-k-preserved : goal.loop-k-preserved
loop-k-preserved g c =
    let h = g.B.Blocks.past_of in
    let so_far = c.loop-k.invariant in
    let all = c.write_one.ensures in
    let done = c.in_ok-write_one.ensures in
    let k = c.loop-k.k in
    record {
      kept = new_more c.args.table c.args.first k (h c.loop-k.below).file.content (h c.write_one.new.below).file.content c.new_block.result done.ok
          (omega (arith, c.loop-k-test.true, c.requires.inside, so_far.size)) c.new_block.ensures so_far.kept;
      size = all.size ∙ so_far.size;
      within = λ image start from. all.within image start (so_far.within image start from);
      back = all.back ∙ so_far.back;
      quiet = done.counts.none ∙ so_far.quiet;
    }

pub returns : goal.returns
returns g c =
    let so_far = c.loop-k.invariant in
    record {
      kept = λ k below. so_far.kept k (omega (arith, below, c.loop-k-test.false));
      size = so_far.size;
      within = so_far.within;
      back = so_far.back;
      counts = record { later = omega (arith, so_far.quiet); none = so_far.quiet; failed = tt };
    }

use Rattle.std.proofs.Common.{◌+◌, ◌<◌, ℕ, List, length, drop, slice_set, refl, ap, subst, ◌∙◌, arith, below_more, length-set}
use Rattle.block_device.specs.Blocks.{IsBlock, with_run}
use Rattle.block_device.proofs.CrashFiles.{set_whole, run_more, run_all}
use Rattle.block_device.proofs.runs.put_run.Goals as goal

pub loop-i-init : goal.loop-i-init
loop-i-init c = record {
  rest = ap (λ n. with_run c.args.content.now n c.args.run.now) (omega arith);
  size = refl;
  whole = λ all. all;
  run = λ k below. absurd (omega (arith, below));
}

pub loop-i-preserved : goal.loop-i-preserved
loop-i-preserved c =
    let so_far = c.loop-i.invariant in
    let i = c.loop-i.i in
    let below : i < length c.args.run.now = c.loop-i-test.true in
    let is = c.block_of.ensures.value in
    let all = c.block_of.ensures.whole in
    record {
      rest = ap (λ (bytes : List ℕ). with_run (slice_set c.loop-i.content (c.args.first + i) bytes) (c.args.first + (i + 1)) (drop (i + 1) c.args.run.now)) is
          ∙ run_more (with_run c.args.content.now c.args.first c.args.run.now) c.loop-i.content c.args.first i c.args.run.now below so_far.rest;
      size = length-set c.loop-i.content (c.args.first + i) c.block_of.result ∙ so_far.size;
      whole = λ whole. set_whole c.loop-i.content (c.args.first + i) c.block_of.result all (so_far.whole whole);
      run = below_more _ _ so_far.run (subst IsBlock is all);
    }

pub returns-clause-content : goal.returns-clause-content
returns-clause-content c =
    let so_far = c.loop-i.invariant in
    run_all _ c.loop-i.content c.args.first c.loop-i.i c.args.run.now (omega arith) so_far.rest

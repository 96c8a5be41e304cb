use Rattle.std.proofs.Common.{◌+◌, ◌<◌, true, false, length, slice_index_or, refl, ◌∙◌, arith, length-set}
use Rattle.block_device.proofs.CrashFiles.{mark_none, mark_more}
use Rattle.block_device.proofs.runs.mark_run.Goals as goal

pub loop-i-init : goal.loop-i-init
loop-i-init c = record { marks = λ n. mark_none c.args.first n (slice_index_or c.args.marks.now n false); size = refl }

pub loop-i-preserved : goal.loop-i-preserved
loop-i-preserved c =
    let so_far = c.loop-i.invariant in
    let room : c.args.first + c.loop-i.i < length c.loop-i.marks = omega (arith, so_far.size, c.requires, c.loop-i-test.true) in
    record {
      marks = λ n. mark_more c.loop-i.marks c.args.first c.loop-i.i n _ room (so_far.marks n);
      size = length-set c.loop-i.marks (c.args.first + c.loop-i.i) true ∙ so_far.size;
    }

use Rattle.std.proofs.Common.{ap, arith, ◌∙◌, Err}
use Rattle.store_reader.proofs.Records.{following_more, reached_more, unfit_here}
use Rattle.store_reader.proofs.store_cells.StoreCells.redo_all.Goals as goal

pub returns-in-Err-clause-unfit : goal.returns-in-Err-clause-unfit
returns-in-Err-clause-unfit g c is =
    let so = c.loop-index.invariant in
    unfit_here c.args.self.now c.loop-index.self c.args.records.now c.loop-index.index c.index-records-index.result
    (omega arith) c.index-records-index.is so.following so.reached (c.redo.ensures.unfit.0 (c.in-Err.is ∙ ap Err is))

pub returns-in-Err-clause-no_memory : goal.returns-in-Err-clause-no_memory
returns-in-Err-clause-no_memory g c is =
    let so = c.loop-index.invariant in
    following_more c.args.self.now c.loop-index.self c.args.records.now c.loop-index.index c.index-records-index.result
    (omega arith) c.index-records-index.is so.following so.reached (c.redo.ensures.no_memory (c.in-Err.is ∙ ap Err is))

pub loop-index-preserved : goal.loop-index-preserved
loop-index-preserved g c =
    let so = c.loop-index.invariant in
    record {
      following = following_more c.args.self.now c.loop-index.self c.args.records.now c.loop-index.index c.index-records-index.result
          (omega arith) c.index-records-index.is so.following so.reached c.in_default.ensures.fit;
      reached = reached_more c.args.self.now c.loop-index.self c.args.records.now c.loop-index.index c.index-records-index.result
          (omega arith) c.index-records-index.is so.following so.reached c.redo.new.self c.in_default.ensures.fit c.in_default.ensures.ok;
    }

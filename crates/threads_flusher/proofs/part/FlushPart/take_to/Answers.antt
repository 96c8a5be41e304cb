use Rattle.std.proofs.Common.{Err, [], ◌++◌, ap, ◌∙◌, refl}
use Rattle.std.proofs.lemmas.Result.{err_from_is_err_and}
use Rattle.threads_flusher.proofs.Taking.{popped_none, popped_then}
use Rattle.threads_flusher.proofs.part.FlushPart.take_to.Goals as goal

pub loop-init : goal.loop-init
loop-init g c = ([], popped_none c.args.self.now)

pub loop-preserved : goal.loop-preserved
loop-preserved g c =
    let before = c.loop.invariant in
    let now = c.take.ensures.takes in
    (before.0 ++ now.0, popped_then c.args.self.now c.loop.self c.take.new.self before.0 now.0 before.1 now.1)

pub returns-in_err-take : goal.returns-in_err-take
returns-in_err-take g c =
    let before = c.loop.invariant in
    let now = c.take.ensures.takes in
    let p = err_from_is_err_and c.from_residual.result c.from_residual.ensures.1 in
    rw (p.1 ∙ ap Err p.2) (record {
      takes = (before.0 ++ now.0, popped_then c.args.self.now c.loop.self c.take.new.self before.0 now.0 before.1 now.1);
      all = tt;
      no_memory = c.in_err-take.ensures.no_memory;
    })

pub returns-then-has_popped : goal.returns-then-has_popped
returns-then-has_popped g c = record { takes = c.loop.invariant; all = c.if-has_popped.ensures.0 refl; no_memory = tt }

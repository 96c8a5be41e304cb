use Rattle.std.proofs.Common.{◌∙◌, ap, refl, sym}
use Rattle.std.proofs.lemmas.Bool.{false≢true}
use Rattle.board.specs.Views.{Sighting}
use Rattle.threads_loops.proofs.Moments.{stopped_as}
use Rattle.threads_loops.proofs.clean.clean_until.Goals as goal

pub returns-then-has_ended : goal.returns-then-has_ended
returns-then-has_ended g c = record {
  part = c.loop.invariant;
  stopped = λ alone. absurd (false≢true (sym (c.has_ended.ensures alone) ∙ c.if-has_ended.true));
}

pub returns-then-is_stopped : goal.returns-then-is_stopped
returns-then-is_stopped g c =
    let seen = c.stopped-is_stopped.ensures.seen in
    record {
      part = stopped_as c.args.part.now c.loop.part c.stopped-is_stopped.new.self _ c.loop.invariant seen;
      stopped = λ alone. ap (λ (s : Sighting). s.stopped) seen ∙ c.if-is_stopped.true;
    }

pub loop-init : goal.loop-init
loop-init g c = refl

pub loop-preserved-in-Cleaned-1 : goal.loop-preserved-in-Cleaned-1
loop-preserved-in-Cleaned-1 g c = stopped_as c.args.part.now c.loop.part c.stopped-is_stopped.new.self _ c.loop.invariant c.stopped-is_stopped.ensures.seen

pub loop-preserved-in-Kept-1 : goal.loop-preserved-in-Kept-1
loop-preserved-in-Kept-1 g c = stopped_as c.args.part.now c.loop.part c.stopped-is_stopped.new.self _ c.loop.invariant c.stopped-is_stopped.ensures.seen

pub loop-preserved : goal.loop-preserved
loop-preserved g c = stopped_as c.args.part.now c.loop.part c.stopped-is_stopped.new.self _ c.loop.invariant c.stopped-is_stopped.ensures.seen

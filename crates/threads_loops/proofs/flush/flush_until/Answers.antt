use Rattle.std.proofs.Common.{◌∙◌, refl, sym}
use Rattle.std.proofs.lemmas.Bool.{false≢true}
use Rattle.threads_flusher.specs.Going.{TakesIn}
use Rattle.threads_flusher.proofs.Taking.{took_look}
use Rattle.threads_loops.specs.Through.{RunsThrough}
use Rattle.threads_loops.proofs.Rounds.{stands_by_taking}
use Rattle.threads_loops.proofs.Running.{goes_by_running}
use Rattle.threads_loops.proofs.Through.{through_taking, through_taking_up, through_then}
use Rattle.threads_loops.proofs.flush.flush_until.Goals as goal

pub flush_round-seen-requires : goal.flush_round-seen-requires
flush_round-seen-requires g c =
    let was = c.loop.part in
    let mid = c.stopped.new.self in
    record { copying = stands_by_taking was mid (took_look was mid c.stopped.ensures.looks) c.loop.invariant.copying }

pub loop-init : goal.loop-init
loop-init g c = record {
  through = through_taking_up g.D.Device.past_of g.D.Device.failures g.B.Group.site.opened c.args.part.now c.take_up.new.part c.take_up.ensures.up;
  copying = c.take_up.ensures.copying;
}

pub loop-preserved : goal.loop-preserved
loop-preserved g c =
    let past_of = g.D.Device.past_of in
    let failures = g.D.Device.failures in
    let o = g.B.Group.site.opened in
    let was = c.loop.part in
    let mid = c.stopped.new.self in
    let takes : TakesIn was mid = took_look was mid c.stopped.ensures.looks in
    let through : RunsThrough past_of g.D.Device.marks failures o c.args.part.now mid = through_then past_of failures o _ was mid c.loop.invariant.through
    (through_taking past_of failures o was mid takes) in
    record {
      through = through_then past_of failures o _ mid c.flush_round-seen.new.part through c.flush_round-seen.ensures.through;
      copying = c.flush_round-seen.ensures.copying;
    }

pub returns-then-has_failed : goal.returns-then-has_failed
returns-then-has_failed g c = record {
  goes_on = goes_by_running g.D.Device.past_of g.D.Device.failures g.B.Group.site.opened c.args.part.now c.loop.part c.stands.ensures
      c.loop.invariant.through;
  through = c.loop.invariant.through;
  stopped = tt;
  failed = (refl, sym c.has_failed.ensures ∙ c.if-has_failed.true);
}

pub returns-then-has_ended : goal.returns-then-has_ended
returns-then-has_ended g c = record {
  goes_on = goes_by_running g.D.Device.past_of g.D.Device.failures g.B.Group.site.opened c.args.part.now c.loop.part c.stands.ensures
      c.loop.invariant.through;
  through = c.loop.invariant.through;
  stopped = (
    (λ alone. absurd (false≢true (sym (c.has_ended.ensures alone) ∙ c.if-has_ended.true))),
    sym c.has_failed.ensures ∙ c.if-has_failed.false,
  );
  failed = tt;
}

pub returns-then-stopped : goal.returns-then-stopped
returns-then-stopped g c =
    let past_of = g.D.Device.past_of in
    let failures = g.D.Device.failures in
    let o = g.B.Group.site.opened in
    let old = c.args.part.now in
    let was = c.loop.part in
    let new = c.stopped.new.self in
    let is = c.stopped.ensures in
    let takes : TakesIn was new = took_look was new is.looks in
    let through : RunsThrough past_of g.D.Device.marks failures o old new = through_then past_of failures o _ was new c.loop.invariant.through
    (through_taking past_of failures o was new takes) in
    record {
      goes_on = goes_by_running past_of failures o old new c.stands.ensures through;
      through = through;
      stopped = ((λ alone. is.seen ∙ c.if-stopped.true), takes.got.failed ∙ (sym c.has_failed.ensures ∙ c.if-has_failed.false));
      failed = tt;
    }

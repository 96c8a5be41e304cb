use Rattle.std.proofs.Common.{◌∙◌, ap, arith, inl, inr, refl, sym}
use Rattle.std.proofs.lemmas.Bool.{false≢true}
use Rattle.shared.specs.Seats.{BuildValue}
use Rattle.threads_loops.proofs.Steps.{attempted_as, raised, was_attempted, was_completed, was_done, was_published, was_refused}
use Rattle.threads_loops.proofs.build.build_until.Goals as goal

-- ---- the exits

pub returns-then-has_ended : goal.returns-then-has_ended
returns-then-has_ended g c = record {
  done = tt;
  published = tt;
  why = inl (refl, λ alone. absurd (false≢true (sym (c.has_ended.ensures alone) ∙ c.if-has_ended.true)));
  rises = c.loop.invariant.rises;
  attempted = c.loop.invariant.attempted;
}

pub returns-then-stopped : goal.returns-then-stopped
returns-then-stopped g c =
    let same = ap (λ (b : BuildValue). b.progress) c.stopped.ensures.seen in
    record {
      done = tt;
      published = tt;
      why = inl (refl, λ alone. ap (λ (b : BuildValue). b.stopped) c.stopped.ensures.seen ∙ c.if-stopped.true);
      rises = omega (arith, c.loop.invariant.rises, same);
      attempted = attempted_as g.B.Group.site.opened _ _ _ same c.loop.invariant.attempted;
    }

pub returns-in-Done : goal.returns-in-Done
returns-in-Done g c =
    let o = g.B.Group.site.opened in
    let step = c.build_step-step in
    let same = ap (λ (b : BuildValue). b.progress) c.stopped.ensures.seen in
    let raises = ap (λ (b : BuildValue). b.progress) c.raise_progress.ensures in
    record {
      done = was_done o step.result.0 step.result.1 step.ensures.stepped c.in-Done.ticket c.in-Done.ensures;
      published = was_published o step.result.0 step.result.1 step.ensures.stepped c.in-Done.ticket c.in-Done.ensures _ (omega (arith, raises));
      why = tt;
      rises = omega (arith, c.loop.invariant.rises, same, raises);
      attempted = raised o _ _ step.result.1 _ raises (attempted_as o _ _ _ same c.loop.invariant.attempted)
          (was_completed o step.result.0 step.result.1 step.ensures.stepped c.in-Done.ticket c.in-Done.ensures);
    }

pub returns-in-Refused : goal.returns-in-Refused
returns-in-Refused g c =
    let o = g.B.Group.site.opened in
    let is = c.in-Refused.ensures in
    let step = c.build_step-step in
    let same = ap (λ (b : BuildValue). b.progress) c.stopped.ensures.seen in
    record {
      done = tt;
      published = tt;
      why = inr (
        is.1,
        was_refused o step.result.0 step.result.1 step.ensures.stepped c.in-Refused.error is.0,
        λ on.
            (is.2 on, λ full. step.ensures.quiet c.in-Refused.error is.0 (is.3 on full)),
      );
      rises = omega (arith, c.loop.invariant.rises, same);
      attempted = attempted_as o _ _ _ same c.loop.invariant.attempted;
    }

-- ---- the rounds

pub loop-init : goal.loop-init
loop-init g c = record {
  rises = omega arith;
  attempted = λ more. absurd (omega (arith, more));
}

pub loop-preserved-in-Attempted : goal.loop-preserved-in-Attempted
loop-preserved-in-Attempted g c =
    let same = ap (λ (b : BuildValue). b.progress) c.stopped.ensures.seen in
    let raises = ap (λ (b : BuildValue). b.progress) c.raise_progress-in-Attempted.ensures in
    let o = g.B.Group.site.opened in
    record {
      rises = omega (arith, c.loop.invariant.rises, same, raises);
      attempted = raised o _ _ c.build_step-step.result.1 _ raises (attempted_as o _ _ _ same c.loop.invariant.attempted)
          (was_attempted o c.build_step-step.result.0 c.build_step-step.result.1 c.build_step-step.ensures.stepped c.in-Attempted.ensures.0
          c.in-Attempted.ensures.1);
    }

pub loop-preserved-in-Scanned : goal.loop-preserved-in-Scanned
loop-preserved-in-Scanned g c =
    let same = ap (λ (b : BuildValue). b.progress) c.stopped.ensures.seen in
    record {
      rises = omega (arith, c.loop.invariant.rises, same);
      attempted = attempted_as g.B.Group.site.opened _ _ _ same c.loop.invariant.attempted;
    }

pub loop-preserved-in-Marked : goal.loop-preserved-in-Marked
loop-preserved-in-Marked g c =
    let same = ap (λ (b : BuildValue). b.progress) c.stopped.ensures.seen in
    record {
      rises = omega (arith, c.loop.invariant.rises, same);
      attempted = attempted_as g.B.Group.site.opened _ _ _ same c.loop.invariant.attempted;
    }

pub loop-preserved : goal.loop-preserved
loop-preserved g c =
    let same = ap (λ (b : BuildValue). b.progress) c.stopped.ensures.seen in
    record {
      rises = omega (arith, c.loop.invariant.rises, same);
      attempted = attempted_as g.B.Group.site.opened _ _ _ same c.loop.invariant.attempted;
    }

use Rattle.std.proofs.Common.{◌∙◌}
use Rattle.std.proofs.lemmas.Bool.{iff_false}
use Rattle.std.proofs.lemmas.Result.{err_from_is_err_and}
use Rattle.threads_loops.proofs.Rounds.{image_again}
use Rattle.threads_loops.proofs.Through.{through_then}
use Rattle.threads_loops.proofs.flush.copy_some.Goals as goal

pub loop-init : goal.loop-init
loop-init g c = record {
  through = c.in_ok-copy.ensures.through;
  copying = c.in_ok-copy.ensures.copying;
  image = c.in_ok-copy.ensures.image;
}

pub loop-preserved : goal.loop-preserved
loop-preserved g c =
    let past_of = g.D.Device.past_of in
    let failures = g.D.Device.failures in
    let o = g.B.Group.site.opened in
    let old = c.args.part.now in
    let mid = c.loop.part in
    let new = c.copy-in-loop.new.part in
    let next = c.in_ok-copy-2.ensures in
    record {
      through = through_then past_of failures o old mid new c.loop.invariant.through next.through;
      copying = next.copying;
      image = λ wanted. image_again old mid new (λ idle. iff_false c.is_idle.ensures c.if-is_idle.false (c.copying.ensures ∙ idle))
          (c.loop.invariant.image wanted) next.image;
    }

pub returns-in_err-copy : goal.returns-in_err-copy
returns-in_err-copy g c =
    let is = c.copy.ensures in
    let p = err_from_is_err_and c.from_residual.result c.from_residual.ensures.1 in
    rw p.1 (record {
      through = is.through;
      copying = is.copying;
      image = tt;
    })

pub returns-in_err-copy-2 : goal.returns-in_err-copy-2
returns-in_err-copy-2 g c =
    let past_of = g.D.Device.past_of in
    let failures = g.D.Device.failures in
    let o = g.B.Group.site.opened in
    let old = c.args.part.now in
    let mid = c.loop.part in
    let new = c.copy-in-loop.new.part in
    let is = c.copy-in-loop.ensures in
    let p = err_from_is_err_and c.from_residual-in_err-copy-2.result c.from_residual-in_err-copy-2.ensures.1 in
    rw p.1 (record {
      through = through_then past_of failures o old mid new c.loop.invariant.through is.through;
      copying = is.copying;
      image = tt;
    })

pub returns-then-is_idle : goal.returns-then-is_idle
returns-then-is_idle g c = record {
  through = c.loop.invariant.through;
  copying = c.loop.invariant.copying;
  image = c.loop.invariant.image;
}

pub returns : goal.returns
returns g c = record {
  through = c.loop.invariant.through;
  copying = c.loop.invariant.copying;
  image = c.loop.invariant.image;
}

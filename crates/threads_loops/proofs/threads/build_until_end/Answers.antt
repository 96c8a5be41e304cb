use Rattle.std.proofs.Common.{arith}
use Rattle.threads_loops.proofs.Steps.{attempted_on, ended_why, still_last}
use Rattle.threads_loops.proofs.threads.build_until_end.Goals as goal

pub loop-preserved : goal.loop-preserved
loop-preserved g c =
    let now = c.build_until.ensures in
    let before = c.loop.invariant in
    record {
      rises = omega (arith, before.rises, now.rises);
      attempted = attempted_on g.B.Group.site.opened _ _ _ now.rises before.attempted now.attempted;
      done = c.in-Ok.ensures.done;
      published = c.in-Ok.ensures.published;
    }

pub returns-in-Err : goal.returns-in-Err
returns-in-Err g c =
    let o = g.B.Group.site.opened in
    let now = c.build_until.ensures in
    let before = c.loop.invariant in
    record {
      done = before.done;
      published = still_last o c.loop.completed _ _ now.rises before.published;
      rises = omega (arith, before.rises, now.rises);
      attempted = attempted_on o _ _ _ now.rises before.attempted now.attempted;
    }

pub tell-requires : goal.tell-requires
tell-requires g c = ended_why g.B.Group.site.opened _ c.in-Err.error c.in-Err.ensures.why

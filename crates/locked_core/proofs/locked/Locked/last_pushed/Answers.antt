use Rattle.std.proofs.Common.{◌∙◌, arith}
use Rattle.locked_core.specs.Locked.{locked_of}
use Rattle.locked_core.proofs.Popped.{pushed_then_waiting}
use Rattle.locked_core.proofs.locked.Locked.last_pushed.Goals as goal

pub returns : goal.returns
returns g c =
    let l = locked_of c.args.self.now in
    omega (
      arith,
      pushed_then_waiting g.B.Group.site.opened.given.last c.last.result c.waiting.result l.pushed l.core.outbox
          (c.last.ensures ∙ c.each_hold.ensures.last (record { pages = 0; entries = 0; slots = 0 })) c.waiting.ensures,
    )

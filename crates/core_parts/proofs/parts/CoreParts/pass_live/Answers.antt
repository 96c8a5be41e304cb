use Rattle.std.proofs.Common.{sym, subst}
use Rattle.core_parts.specs.Parts.{parts_of}
use Rattle.core_parts.specs.Passing.{PassesLive}
use Rattle.core_parts.proofs.KeptLive.{way_begun, way_done, way_ended, way_more}
use Rattle.core_parts.proofs.parts.CoreParts.pass_live.Goals as goal

pub loop-init : goal.loop-init
loop-init g c = way_begun (parts_of c.args.self.now)

pub loop-preserved : goal.loop-preserved
loop-preserved g c =
    way_more (parts_of c.args.self.now) (parts_of c.loop.self) (parts_of c.pass_run.new.self) c.loop.counter c.loop.invariant
    (c.pass_run.ensures.passed c.if-not-pass_run.false)

pub returns-then-not-pass_run : goal.returns-then-not-pass_run
returns-then-not-pass_run g c =
    let old = parts_of c.args.self.now in
    subst (PassesLive old c.args.runs) (sym (c.pass_run.ensures.unchanged c.if-not-pass_run.true))
    (way_ended old (parts_of c.loop.self) c.loop.counter c.args.runs c.requires c.loop.invariant (c.pass_run.ensures.none c.if-not-pass_run.true))

pub returns : goal.returns
returns g c =
    way_done (parts_of c.args.self.now) (parts_of c.loop.self) c.loop.counter c.args.runs c.requires c.loop.invariant c.loop-test.false

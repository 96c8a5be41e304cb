use Rattle.std.proofs.Common.{arith, refl}
use Rattle.std.proofs.lemmas.List.{take_more}
use Rattle.nsf_index_c.specs.Applying.{none_made}
use Rattle.nsf_index_c.proofs.Applied.{made_more, stopped}
use Rattle.nsf_index_c.proofs.held.Held.apply.Goals as goal

pub loop-at-init : goal.loop-at-init
loop-at-init c = (refl, none_made)

pub returns-then-status-ne-OK : goal.returns-then-status-ne-OK
returns-then-status-ne-OK c =
    stopped c.args.changes.now _ c.loop-at.at c.loop-at.made c.make_asked-status.result c.args.self.now c.loop-at.self
    c.make_asked-status.new.self c.loop-at-test.true (take_more c.args.changes.now c.loop-at.at _ c.loop-at-test.true) c.loop-at.invariant.0
    c.loop-at.invariant.1 c.make_asked-status.ensures (omega (arith, c.if-status-ne-OK.true))

pub loop-at-preserved : goal.loop-at-preserved
loop-at-preserved c = (
  refl,
  made_more c.args.changes.now _ c.loop-at.at c.make_asked-status.result c.args.self.now c.loop-at.self c.make_asked-status.new.self
      (take_more c.args.changes.now c.loop-at.at _ c.loop-at-test.true) c.loop-at.invariant.1 c.make_asked-status.ensures
      c.if-status-ne-OK.false,
)

use Rattle.std.proofs.Common.{arith, refl, sym, ◌∙◌}
use Rattle.std.proofs.lemmas.List.{at_drop_all}
use Rattle.threads_sessions.specs.Active.{place_from}
use Rattle.threads_sessions.proofs.Lists.{first_here, not_here}
use Rattle.threads_sessions.proofs.active.index_of.Goals as goal

pub loop-i-init : goal.loop-i-init
loop-i-init g c = refl

pub returns-then-eq : goal.returns-then-eq
returns-then-eq g c = record {
  place = first_here c.args.txn c.loop-i.i c.args.active.now c.index-active-i.result c.loop-i-test.true c.index-active-i.is _ c.loop-i.invariant
      (sym c.eq.ensures ∙ c.if-eq.true);
  within = c.loop-i-test.true;
}

pub loop-i-preserved : goal.loop-i-preserved
loop-i-preserved g c = not_here c.args.txn c.loop-i.i c.args.active.now c.index-active-i.result c.loop-i-test.true c.index-active-i.is _ c.loop-i.invariant
    (sym c.eq.ensures ∙ c.if-eq.false)

pub returns : goal.returns
returns g c = record {
  place = sym (at_drop_all (place_from c.args.txn c.loop-i.i) c.args.active.now c.loop-i.i (omega (arith, c.loop-i-test.false))) ∙ c.loop-i.invariant;
  within = tt;
}

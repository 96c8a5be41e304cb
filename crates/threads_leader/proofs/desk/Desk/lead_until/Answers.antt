use Rattle.std.proofs.Common.{refl, arith}
use Rattle.threads_leader.proofs.Waiting.{looks_again}
use Rattle.threads_leader.proofs.desk.Desk.lead_until.Goals as goal

pub loop-init : goal.loop-init
loop-init g c = record { seen = refl; rises = omega arith }

pub returns-then-is_acked : goal.returns-then-is_acked
returns-then-is_acked g c = record {
  seen = looks_again c.args.seat.now c.loop.seat c.is_acked.new.seat c.loop.invariant.seen c.is_acked.ensures.seen;
  rises = omega (arith, c.loop.invariant.rises, c.is_acked.ensures.rises);
}

pub returns-then-is_over : goal.returns-then-is_over
returns-then-is_over g c = record {
  seen = looks_again c.args.seat.now c.loop.seat c.is_acked.new.seat c.loop.invariant.seen c.is_acked.ensures.seen;
  rises = omega (arith, c.loop.invariant.rises, c.is_acked.ensures.rises);
}

pub loop-preserved : goal.loop-preserved
loop-preserved g c = record {
  seen = looks_again c.args.seat.now c.loop.seat c.is_acked.new.seat c.loop.invariant.seen c.is_acked.ensures.seen;
  rises = omega (arith, c.loop.invariant.rises, c.is_acked.ensures.rises);
}

use Rattle.std.proofs.Common.{refl, arith}
use Rattle.shared.proofs.Waiting.{acked_since, looked_again, not_acked_since, waits_on}
use Rattle.shared.proofs.shared.Shared.await_ack.Goals as goal

pub loop-init : goal.loop-init
loop-init g c = record { seen = refl; rises = omega arith }

pub returns-in-Some-try_ack : goal.returns-in-Some-try_ack
returns-in-Some-try_ack g c =
    let is = acked_since c.args.seat.now c.loop.seat c.try_ack.new.seat c.loop.invariant.seen c.args.ticket c.in-Some-try_ack.ack
    c.in-Some-try_ack.ensures.acked in
    record {
      acked = is.0;
      refused = tt;
      seat = is.1;
      rises = omega (arith, c.loop.invariant.rises, c.try_ack.ensures.rises);
    }

pub returns-in-Some-ended : goal.returns-in-Some-ended
returns-in-Some-ended g c =
    let first = c.args.seat.now in
    let mid = c.try_ack.new.seat in
    let new = c.ended.new.seat in
    let is = not_acked_since first mid new (looked_again first c.loop.seat mid c.loop.invariant.seen c.in_default.ensures.seen)
    c.args.ticket c.in-Some-ended.error c.in_default.ensures.none c.in-Some-ended.ensures.why in
    record {
      acked = tt;
      refused = is.0;
      seat = is.1;
      rises = omega (arith, c.loop.invariant.rises, c.try_ack.ensures.rises, is.2);
    }

pub loop-preserved : goal.loop-preserved
loop-preserved g c =
    let first = c.args.seat.now in
    let mid = c.try_ack.new.seat in
    let new = c.ended.new.seat in
    let is = waits_on first mid new (looked_again first c.loop.seat mid c.loop.invariant.seen c.in_default.ensures.seen)
    c.in_default-ended.ensures.none in
    record { seen = is.0; rises = omega (arith, c.loop.invariant.rises, c.try_ack.ensures.rises, is.1) }

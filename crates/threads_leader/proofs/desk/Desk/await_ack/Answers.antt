use Rattle.std.proofs.Common.{arith}
use Rattle.std.proofs.lemmas.Result.{IfErr-weaker, IfOk-weaker}
use Rattle.threads_leader.proofs.Waiting.{acked_behind, not_acked_behind, sees_behind}
use Rattle.threads_leader.proofs.desk.Desk.await_ack.Goals as goal

pub returns : goal.returns
returns g c =
    let first = c.args.seat.now in
    let mid = c.lead_until.new.seat in
    let new = c.await_ack.new.seat in
    let led = c.lead_until.ensures in
    let is = c.await_ack.ensures in
    record {
      acked = IfOk-weaker c.await_ack.result _ _ (λ ack. acked_behind first mid new led.seen c.args.ticket ack) is.acked;
      refused = IfErr-weaker c.await_ack.result _ _ (λ e. not_acked_behind first mid new led.seen c.args.ticket e) is.refused;
      seat = sees_behind first mid new led.seen is.seat;
      rises = omega (arith, led.rises, is.rises);
    }

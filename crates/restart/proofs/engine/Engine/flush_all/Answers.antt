use Rattle.std.proofs.Common.{◌≡◌, ◌∙◌, ◌+◌, ◌-◌, ◌<◌, ℕ, Some, true, false, ap, subst, sym}
use Rattle.core_parts.specs.View.{CoreValue}
use Rattle.std.specs.Option.{option_map_or}
use Rattle.restart.specs.Parts.{horizon_of}
use Rattle.restart.specs.Repeated.{FlushesAll, FlushesOn, asks_again}
use Rattle.restart.proofs.AllFlushed.{none_flushed, one_more, is_final, has_room, rises, smaller}
use Rattle.restart.proofs.engine.Engine.flush_all.Goals as goal

pub flushes-init : goal.flushes-init
flushes-init g c = record { goes_on = λ mid on. on; known = λ m is. cc }

-- this reply is the final one
pub returns-then-not-asks_again : goal.returns-then-not-asks_again
returns-then-not-asks_again g c =
    let h = g.D.Device.past_of in
    let f = g.D.Device.failures in
    let reply = c.flush_once-reply.result in
    let mid = c.flushes.self in
    let new = c.flush_once-reply.new.self in
    let settled : asks_again c.last-last.result c.flushes.told reply ≡ false = cc in
    let whole : FlushesAll h f c.last-last.result reply c.args.self.now new = record {
      mid = mid;
      before = c.flushes.invariant.goes_on mid (none_flushed h f _ _ mid);
      final_flush = c.flush_once-reply.ensures;
      ends = is_final h f _ c.flushes.told mid new reply settled c.flushes.invariant.known c.flush_once-reply.ensures;
      room = has_room h f mid new reply c.flush_once-reply.ensures;
    } in
    subst (λ (last : ℕ). FlushesAll h f last reply c.args.self.now new) (c.last-last.ensures ∙ ap (λ (v : CoreValue). v.last) c.core.ensures) whole

-- this reply comes before those that follow
pub flushes-preserved : goal.flushes-preserved
flushes-preserved g c =
    let h = g.D.Device.past_of in
    let f = g.D.Device.failures in
    let reply = c.flush_once-reply.result in
    let new = c.flush_once-reply.new.self in
    let again : asks_again c.last-last.result c.flushes.told reply ≡ true = cc in
    record {
      goes_on = λ mid on.
          c.flushes.invariant.goes_on mid (one_more h f _ c.flushes.told c.flushes.self new mid reply again c.flush_once-reply.ensures
          (subst (λ (n : ℕ). FlushesOn h f c.last-last.result (Some n) new mid) c.horizon.ensures on));
      known = λ m is. cc;
    }

-- fewer records are yet to be told of
pub flushes-smaller : goal.flushes-smaller
flushes-smaller g c =
    let h = g.D.Device.past_of in
    let f = g.D.Device.failures in
    let reply = c.flush_once-reply.result in
    let new = c.flush_once-reply.new.self in
    let again : asks_again c.last-last.result c.flushes.told reply ≡ true = cc in
    let up = rises h f c.last-last.result c.flushes.told c.flushes.self new reply again c.flush_once-reply.ensures in
    subst (λ (n : ℕ). c.last-last.result - n < option_map_or (λ m. c.last-last.result - m) c.flushes.told (c.last-last.result + 1)) (sym c.horizon.ensures)
    (smaller c.last-last.result c.flushes.told (horizon_of new) up.0 up.1)

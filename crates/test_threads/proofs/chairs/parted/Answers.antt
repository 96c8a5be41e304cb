use Rattle.std.proofs.Common.{◌∙◌}
use Rattle.test_threads.proofs.Orders.{one_pushed}
use Rattle.test_threads.proofs.chairs.parted.Goals as goal

pub loop-chair-preserved : goal.loop-chair-preserved
loop-chair-preserved g c = λ ordered.
    let l = c.loop-chair in
    let at = c.in-Some.chair.at in
    let was = c.is_next-ordered.ensures ordered in
    one_pushed l.seats.items c.push.new.self.items at.seat c.in_ok-push.ensures.items (l.invariant was.0)
    (at.is_so ∙ (was.1 ∙ (c.len.ensures ∙ l.seats.ok.0)))

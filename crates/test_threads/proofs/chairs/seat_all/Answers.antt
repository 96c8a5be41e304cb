use Rattle.std.proofs.Common.{◌≡◌, ◌∙◌, ◌++◌, List, map, subst, sym}
use Rattle.shared.specs.Seats.{SeatValue}
use Rattle.test_threads.proofs.Orders.{next_is, none_seated, one_seated}
use Rattle.test_threads.proofs.chairs.seat_all.Goals as goal

pub invariant_of-at : goal.invariant_of-at
invariant_of-at g c =
    let z = g.B.Group.site in
    let l = c.loop-seat in
    let all = subst (λ (xs : List SeatValue). map (λ w. w.at.seat) l.chairs.items ++ xs ≡ c.args.seats.items) c.in-Some.ensures.steps.0 l.invariant in
    record {
      is_so = next_is (λ w. w.at.seat) z.board z.seats l.chairs.items c.in-Some.seat c.next.new.self.rest.items c.args.seats.items
          c.requires.new all ∙ sym (c.len-number.ensures ∙ l.chairs.ok.0);
    }

pub loop-seat-init : goal.loop-seat-init
loop-seat-init g c = none_seated (λ w. w.at.seat) _ _ _ c.requires.none c.into_iter-seat-iterator.ensures.into_iter_gives.0

pub loop-seat-preserved : goal.loop-seat-preserved
loop-seat-preserved g c =
    one_seated (λ w. w.at.seat) _ _ _ _ _ _ c.in_ok-push.ensures.items c.in-Some.ensures.steps.0 c.loop-seat.invariant

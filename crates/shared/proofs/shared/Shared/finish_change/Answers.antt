use Rattle.std.proofs.Common.{◌≡◌, ◌∙◌, ap, refl, subst, sym, true, false}
use Rattle.core_model.specs.Events.{Event, Refused}
use Rattle.threads_sessions.specs.Values.{is_unfinished}
use Rattle.shared.specs.Changed.{unfinished_of}
use Rattle.shared.specs.Seats.{SeatValue}
use Rattle.shared.specs.Served.{WasServedTo}
use Rattle.shared.proofs.Made.{left_over, more_made, nothing_made, not_none, not_unfinished}
use Rattle.shared.proofs.SameSeat.{again_alone, still_alone}
use Rattle.shared.proofs.shared.Shared.finish_change.Goals as goal

pub loop-init : goal.loop-init
loop-init g c = record {
  seat = refl;
  none = λ _. refl;
  steps = λ change asked. nothing_made c.args.txn change c.args.seat.now.session asked;
}

pub returns-then-not-unfinished : goal.returns-then-not-unfinished
returns-then-not-unfinished g c =
    let was = c.loop.invariant in
    let is : is_unfinished c.loop.seat.session c.args.txn ≡ false = ap (λ (s : SeatValue). is_unfinished s.session c.args.txn) (sym c.seat.view_is)
    ∙ sym c.if-not-unfinished.ensures in
    record {
      none = λ none. (refl, was.none none);
      changed = λ change asked. (was.steps change asked, not_unfinished c.loop.seat.session c.args.txn is);
      served = tt;
      seat = was.seat;
    }

pub step_change-requires : goal.step_change-requires
step_change-requires g c = ap (λ (s : SeatValue). is_unfinished s.session c.args.txn) (sym c.seat.view_is) ∙ sym c.if-not-unfinished.ensures

pub returns-in-Err : goal.returns-in-Err
returns-in-Err g c =
    let was = c.loop.invariant in
    let t = c.args.txn in
    let first = c.args.seat.now in
    let old = c.loop.seat in
    let new = c.step_change.new.seat in
    let same = c.in-Err.ensures.refused in
    let is : is_unfinished old.session t ≡ true = ap (λ (s : SeatValue). is_unfinished s.session t) (sym c.seat.view_is)
    ∙ sym c.if-not-unfinished.ensures in
    record {
      none = λ none. absurd (not_none old.session t is (ap (λ p. unfinished_of p t) (was.none none) ∙ none));
      changed = λ change asked. left_over t change first.session old.session new.session (was.steps change asked) is (ap (λ (s : SeatValue). s.session) same);
      served = subst (λ (s : SeatValue). ∥ WasServedTo g.B.Group.site.opened s.number s.session (Event.Step t) (Refused c.in-Err.error) ∥₁) (sym same)
          c.in-Err.ensures.served;
      seat = still_alone first old new was.seat same;
    }

pub loop-preserved : goal.loop-preserved
loop-preserved g c =
    let was = c.loop.invariant in
    let t = c.args.txn in
    let is : is_unfinished c.loop.seat.session t ≡ true = ap (λ (s : SeatValue). is_unfinished s.session t) (sym c.seat.view_is)
    ∙ sym c.if-not-unfinished.ensures in
    record {
      seat = again_alone c.args.seat.now c.loop.seat c.step_change.new.seat was.seat c.step_change.ensures.seat;
      none = λ none. absurd (not_none c.loop.seat.session t is (ap (λ p. unfinished_of p t) (was.none none) ∙ none));
      steps = λ change asked.
          let made = was.steps change asked in
          more_made t change c.args.seat.now.session c.loop.seat.session c.step_change.new.seat.session made
          (c.in_default.ensures.ok change (made.unfinished (not_none c.loop.seat.session t is)));
    }

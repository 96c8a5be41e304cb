use Rattle.std.proofs.Common.{◌≡◌, ◌∙◌, ap, refl, sym, true}
use Rattle.std.proofs.lemmas.Bool.{false≢true}
use Rattle.threads_sessions.specs.Values.{is_active, SessionValue}
use Rattle.shared.specs.Seats.{SeatValue}
use Rattle.shared.proofs.Made.{none_foreign, not_refused}
use Rattle.shared.proofs.shared.Shared.carry_on.Goals as goal

pub returns-then-not-is_active : goal.returns-then-not-is_active
returns-then-not-is_active g c =
    rw (← c.seat.view_is) (record {
      foreign = λ _. (refl, refl);
      none = λ own. absurd (false≢true (c.if-not-is_active.ensures ∙ own));
      ok = tt;
      err = λ change asked. absurd (none_foreign c.seat.inside.part.session c.args.txn change c.if-not-is_active.ensures asked);
      served = λ own. absurd (false≢true (c.if-not-is_active.ensures ∙ own));
      seat = refl;
    })

pub returns-in-Some : goal.returns-in-Some
returns-in-Some g c =
    let own : is_active c.args.seat.now.session c.args.txn ≡ true =
    ap (λ (s : SeatValue). is_active s.session c.args.txn) (sym c.seat.view_is) ∙ sym c.if-not-is_active.ensures in
    record {
      foreign = λ none. absurd (false≢true (sym none ∙ own));
      none = λ _ none. absurd (not_refused c.in-Some.error (c.in-Some.ensures.none none).0);
      ok = tt;
      err = λ change asked. c.in-Some.ensures.changed change asked;
      served = λ _. c.in-Some.ensures.served;
      seat = c.finish_change.ensures.seat;
    }

pub returns-in-None : goal.returns-in-None
returns-in-None g c =
    let own : is_active c.args.seat.now.session c.args.txn ≡ true =
    ap (λ (s : SeatValue). is_active s.session c.args.txn) (sym c.seat.view_is) ∙ sym c.if-not-is_active.ensures in
    record {
      foreign = λ none. absurd (false≢true (sym none ∙ own));
      none = λ _ none. (
        tt,
        c.finish_change.ensures.seat ∙ ap (λ (p : SessionValue). record c.args.seat.now { session = p }) (c.finish_change.ensures.none none).1,
      );
      ok = λ change asked. c.in-None.ensures.changed change asked;
      err = tt;
      served = tt;
      seat = c.finish_change.ensures.seat;
    }

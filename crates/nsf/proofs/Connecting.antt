-- A seat that waits for its commit.
use Rattle.std.proofs.Common.{◌≡◌, ◌≤◌, ◌∙◌, ℕ, ap, arith, refl, subst, sym}
use Rattle.core_model.specs.Histories.{Opened}
use Rattle.core_parts.specs.declared.parts.Ticket.{Ticket}
use Rattle.threads_sessions.specs.Values.{SessionValue}
use Rattle.shared.specs.Seats.{AckValue, SeatValue}
use Rattle.shared.specs.Waits.{IsAcked}
use Rattle.record_values.specs.declared.row.Row.{Row}
use Rattle.shared.specs.declared.one_change.Placed.{Placed}
use Rattle.nsf.specs.Connected.{IsSafelyPut, WasPut, with_commit_of, with_row}

-- it has another session, and then sees more of the board
pub seat_then : (old mid new : SeatValue) (s : SessionValue) → mid ≡ record old { session = s } → new ≡ record mid { sight = new.sight }
    → new ≡ record old { session = new.session; sight = new.sight }
seat_then old mid new s made sees =
    let step : new ≡ record old { session = s; sight = new.sight } =
    sees ∙ ap (λ (m : SeatValue). record m { sight = new.sight }) made in
    step ∙ ap (λ (m : SeatValue). record old { session = m.session; sight = new.sight }) (sym step)

-- another session alone
pub seat_made : (old new : SeatValue) → new ≡ record old { session = new.session } → new ≡ record old { session = new.session; sight = new.sight }
seat_made old new made = made ∙ ap (λ (m : SeatValue). record old { session = new.session; sight = m.sight }) (sym made)

pub acked_commit : (old mid new : SeatValue) (txn : ℕ) (ticket : Ticket) (ack : AckValue) → mid ≡ with_commit_of old txn ticket → IsAcked ticket mid new ack
    → IsAcked ack.ticket (with_commit_of old txn ack.ticket) new ack
acked_commit old mid new txn ticket ack made is =
    subst (λ (t : Ticket). IsAcked t (with_commit_of old txn t) new ack) (sym is.0) (subst (λ (s : SeatValue). IsAcked ticket s new ack) made is)

-- the horizon that it has read reaches the record
pub acked_safe : (ticket : Ticket) (before after : SeatValue) (ack : AckValue) → IsAcked ticket before after ack → ticket.record ≤ after.sight.horizon
acked_safe ticket before after ack is = omega (arith, is.1, ap (λ (s : SeatValue). s.sight.horizon) is.3)

-- ---- a row in a transaction of its own

pub safely_put : (o : Opened) (old mid new : SeatValue) (row : Row) (placed : Placed) (ack : AckValue) → mid ≡ with_row old row placed
    → WasPut o old row placed → IsAcked placed.ticket mid new ack → new ≡ record mid { sight = new.sight } → IsSafelyPut o old row placed.rid new
safely_put o old mid new row placed ack made was acked sees = record {
  put = placed;
  place = refl;
  was = was;
  seat = sees ∙ ap (λ (m : SeatValue). record m { sight = new.sight }) made;
  safe = acked_safe placed.ticket mid new ack acked;
}

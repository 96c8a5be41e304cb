-- What a wait at a desk has seen.
use Rattle.std.proofs.Common.{◌≡◌, true, false, inl, inr, sym, ap, ◌∙◌}
use Rattle.board.specs.Views.{leaves_as, stays_as}
use Rattle.core_parts.specs.declared.parts.Ticket.{Ticket}
use Rattle.record_values.specs.declared.error.Error.{Error}
use Rattle.threads_loops.specs.Seats.{AckValue, SeatValue}
use Rattle.threads_loops.specs.Waits.{HasReadWhy, IsAcked, IsNotAcked}

-- nothing but a horizon was seen, and whether the failed flag was read behind it
abbrev pub HasLooked : (before after : SeatValue) → Type 0
HasLooked before after = after
    ≡ record before { sight = record before.sight { horizon = after.sight.horizon; checked = after.sight.checked } }

module _ (first was new : SeatValue) (looked : HasLooked first was) where
  -- it saw a horizon again
  pub looks_again : new ≡ record was { sight = record was.sight { horizon = new.sight.horizon; checked = false } } → HasLooked first new
  looks_again is =
      let after : new ≡ record first { sight = record first.sight { horizon = new.sight.horizon; checked = false } } =
      is ∙ ap (λ (s : SeatValue). record s { sight = record s.sight { horizon = new.sight.horizon; checked = false } }) looked in
      after ∙ ap (λ (s : SeatValue). record first { sight = record first.sight { horizon = s.sight.horizon; checked = s.sight.checked } }) (sym after)

  -- what it has seen alone changed
  pub sees_behind : new ≡ record was { sight = new.sight } → new ≡ record first { sight = new.sight }
  sees_behind is = is ∙ ap (λ (s : SeatValue). record s { sight = new.sight }) looked

  pub acked_behind : (ticket : Ticket) (ack : AckValue) → IsAcked ticket was new ack → IsAcked ticket first new ack
  acked_behind ticket ack is = (
    is.0,
    is.1,
    is.2 ∙ ap (λ (s : SeatValue). record new.sight { name = leaves_as s.sight.name; stops = false }) looked,
    is.3 ∙ ap (λ (s : SeatValue). record s { sight = record s.sight { horizon = ack.sight.horizon; checked = false; name = stays_as s.sight.name } })
        looked,
  )

  read_behind : (e : Error) → HasReadWhy e (record was { sight = record was.sight { horizon = new.sight.horizon } }) new
      → HasReadWhy e (record first { sight = record first.sight { horizon = new.sight.horizon } }) new
  read_behind e (inl why) = inl (
    why.0,
    why.1 ∙ ap (λ (s : SeatValue). record s { sight = record s.sight { horizon = new.sight.horizon; checked = true; failed = true } }) looked,
  )
  read_behind e (inr why) = inr (
    why.0,
    sym (ap (λ (s : SeatValue). s.sight.failed) looked) ∙ why.1,
    why.2 ∙ ap (λ (s : SeatValue). record s { sight = record s.sight { horizon = new.sight.horizon; checked = true; stopped = true } }) looked,
  )

  pub not_acked_behind : (ticket : Ticket) (e : Error) → IsNotAcked ticket was new e → IsNotAcked ticket first new e
  not_acked_behind ticket e is = (is.0, read_behind e is.1)

-- What a wait has seen, from one look to the next.
use Rattle.std.proofs.Common.{◌≡◌, ◌<◌, ℕ, Bool, false, true, inl, inr, refl, sym, ap, ◌∙◌, arith}
use Rattle.std.specs.Prelude.{IsTrue}
use Rattle.std.proofs.lemmas.Bool.{false≢true}
use Rattle.board.specs.Views.{leaves_as, Sighting, stays_as}
use Rattle.core_parts.specs.declared.parts.Ticket.{Ticket}
use Rattle.record_values.specs.declared.error.Error.{Error}
use Rattle.shared.specs.Seats.{AckValue, SeatValue}
use Rattle.shared.specs.Waits.{HasReadWhy, IsAcked, IsNotAcked}

-- nothing but a horizon was seen, and whether the failed flag was read behind it
abbrev pub HasLooked : (before after : SeatValue) → Type 0
HasLooked before after = after
    ≡ record before { sight = record before.sight { horizon = after.sight.horizon; checked = after.sight.checked } }

-- of a seat, what it has seen alone changed
abbrev pub SeesAlone : (before after : SeatValue) → Type 0
SeesAlone before after = after ≡ record before { sight = after.sight }

module _ (first was new : SeatValue) (looked : HasLooked first was) where
  pub acked_since : (ticket : Ticket) (ack : AckValue) → IsAcked ticket was new ack → IsAcked ticket first new ack × SeesAlone first new
  acked_since ticket ack is =
      let after : new ≡ record first { sight = record first.sight { horizon = ack.sight.horizon; checked = false; name = stays_as first.sight.name } } =
      is.3 ∙ ap (λ (s : SeatValue). record s { sight = record s.sight { horizon = ack.sight.horizon; checked = false; name = stays_as s.sight.name } })
      looked in (
        (
          is.0,
          is.1,
          is.2 ∙ ap (λ (s : SeatValue). record new.sight { name = leaves_as s.sight.name; stops = false }) looked,
          after,
        ),
        after ∙ ap (λ (s : SeatValue). record first { sight = s.sight }) (sym after),
      )

  -- it saw a horizon again
  pub looked_again : new ≡ record was { sight = record was.sight { horizon = new.sight.horizon; checked = false } }
      → new ≡ record first { sight = record first.sight { horizon = new.sight.horizon; checked = false } }
  looked_again is = is ∙ ap (λ (s : SeatValue). record s { sight = record s.sight { horizon = new.sight.horizon; checked = false } }) looked

module _ (first mid new : SeatValue)
    (looked : mid ≡ record first { sight = record first.sight { horizon = mid.sight.horizon; checked = false } }) where
  -- and read why it waits no longer
  pub not_acked_since : (ticket : Ticket) (e : Error) → mid.sight.horizon < ticket.record → HasReadWhy e mid new
      → IsNotAcked ticket first new e × SeesAlone first new × (new.sight.horizon ≡ mid.sight.horizon)
  not_acked_since ticket e low (inl why) =
      let level : new.sight.horizon ≡ mid.sight.horizon = ap (λ (s : SeatValue). s.sight.horizon) why.1 in
      let after : new ≡ record first { sight = record first.sight { horizon = mid.sight.horizon; checked = true; failed = true } } =
      why.1 ∙ ap (λ (s : SeatValue). record s { sight = record s.sight { checked = true; failed = true } }) looked in (
        (
          omega (arith, low, level),
          inl (
            why.0,
            after ∙ ap (λ (h : ℕ). record first { sight = record first.sight { horizon = h; checked = true; failed = true } }) (sym level),
          ),
        ),
        after ∙ ap (λ (s : SeatValue). record first { sight = s.sight }) (sym after),
        level,
      )
  not_acked_since ticket e low (inr why) =
      let level : new.sight.horizon ≡ mid.sight.horizon = ap (λ (s : SeatValue). s.sight.horizon) why.2 in
      let after : new ≡ record first { sight = record first.sight { horizon = mid.sight.horizon; checked = true; stopped = true } } =
      why.2 ∙ ap (λ (s : SeatValue). record s { sight = record s.sight { checked = true; stopped = true } }) looked in (
        (
          omega (arith, low, level),
          inr (
            why.0,
            sym (ap (λ (s : SeatValue). s.sight.failed) looked) ∙ why.1,
            after ∙ ap (λ (h : ℕ). record first { sight = record first.sight { horizon = h; checked = true; stopped = true } }) (sym level),
          ),
        ),
        after ∙ ap (λ (s : SeatValue). record first { sight = s.sight }) (sym after),
        level,
      )

  -- or that it waits on
  pub waits_on : new ≡ record mid { sight = record mid.sight { checked = true } } → HasLooked first new × (new.sight.horizon ≡ mid.sight.horizon)
  waits_on is =
      let after : new ≡ record first { sight = record first.sight { horizon = mid.sight.horizon; checked = true } } =
      is ∙ ap (λ (s : SeatValue). record s { sight = record s.sight { checked = true } }) looked in (
        after ∙ ap (λ (s : SeatValue). record first { sight = record first.sight { horizon = s.sight.horizon; checked = s.sight.checked } }) (sym after),
        ap (λ (s : SeatValue). s.sight.horizon) is,
      )

-- ---- the flags

-- a flag that stays as it is read isn't set, where it is read so
pub not_set : (b : Bool) → (IsTrue b → IsTrue false) → b ≡ false
not_set true stays = absurd (false≢true (stays refl))
not_set false stays = refl

module _ (first mid new : Sighting) (looked : mid ≡ record first { failed = false; checked = true }) (stays : IsTrue first.failed → IsTrue false) where
  pub stopped_then : (b : Bool) → new ≡ record mid { stopped = b } → new ≡ record first { checked = true; stopped = b }
  stopped_then b is = is ∙ (ap (λ (v : Sighting). record v { stopped = b }) looked
      ∙ ap (λ (f : Bool). record first { failed = f; checked = true; stopped = b }) (sym (not_set first.failed stays)))

  pub unstopped_then : (IsTrue mid.stopped → IsTrue false) → first.stopped ≡ false
  unstopped_then still = not_set first.stopped (λ set. still (ap (λ (v : Sighting). v.stopped) looked ∙ set))

  pub nothing_then : new ≡ record mid { stopped = false } → (IsTrue mid.stopped → IsTrue false) → new ≡ record first { checked = true }
  nothing_then is still = stopped_then false is ∙ ap (λ (b : Bool). record first { checked = true; stopped = b }) (sym (unstopped_then still))

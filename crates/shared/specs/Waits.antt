-- What a wait for a record to be safe is answered.
use Rattle.std.specs.Prelude.{◌≡◌, ◌⊎◌, ◌≤◌, ◌<◌, false, true}
use Rattle.board.specs.Views.{leaves_as, stays_as}
use Rattle.core_parts.specs.declared.parts.Ticket.{Ticket}
use Rattle.record_values.specs.declared.error.Error.{Error}
use Rattle.record_values.specs.declared.error.Error.TheVariants.{DeviceFailed, Stopped}
use Rattle.shared.specs.Seats.{AckValue, SeatValue}

-- An acknowledgement of the ticket: the horizon that the seat read last reaches its record. It has seen what the seat
-- has. The seat has seen that horizon, and nothing else of it changed but its view's name.
abbrev pub IsAcked : Ticket → (before after : SeatValue) → AckValue → Type 0
IsAcked ticket before after ack = (ack.ticket ≡ ticket) × (ticket.record ≤ ack.sight.horizon)
    × (ack.sight ≡ record after.sight { name = leaves_as before.sight.name; stops = false })
    × (after ≡ record before {
      sight = record before.sight { horizon = ack.sight.horizon; checked = false; name = stays_as before.sight.name };
    })

-- `DeviceFailed`, and the seat has seen that the failed flag is set; or `Stopped`, and it found that it isn't set, and
-- has seen that the stop flag is set. It read the failed flag behind the last horizon that it read, and nothing else of
-- it changed.
abbrev pub HasReadWhy : Error → (before after : SeatValue) → Type 0
HasReadWhy e before after =
    ((e ≡ DeviceFailed) × (after ≡ record before { sight = record before.sight { checked = true; failed = true } }))
    ⊎ ((e ≡ Stopped) × (before.sight.failed ≡ false)
    × (after ≡ record before { sight = record before.sight { checked = true; stopped = true } }))

-- No acknowledgement of the ticket: the horizon that the seat read last is below its record, and behind that the seat
-- read why it waits no longer.
abbrev pub IsNotAcked : Ticket → (before after : SeatValue) → Error → Type 0
IsNotAcked ticket before after e = (after.sight.horizon < ticket.record)
    × HasReadWhy e (record before { sight = record before.sight { horizon = after.sight.horizon } }) after

-- What contracts see of a seat, of an acknowledgement, and of the builder's part.
use Rattle.std.specs.Prelude.{[], Bool, List, slice_get, Some, length, ℕ, ◌≡◌}
use Rattle.atomic_table.specs.Seated.{TableId}
use Rattle.board.specs.Views.{nothing_seen, Sighting}
use Rattle.core_parts.specs.declared.parts.Ticket.{Ticket}
use Rattle.threads_sessions.specs.Values.{SessionValue, empty_session}

-- a seat: its number, its session, and what it has seen of the board
pub record SeatValue : Type 0 where
  pub number : ℕ
  pub session : SessionValue
  pub sight : Sighting

-- an acknowledgement: the ticket, and what a view of the board has seen
pub record AckValue : Type 0 where
  pub ticket : Ticket
  pub sight : Sighting

-- the builder's part: how many attempts it has published, and whether it found the stop flag set
pub record BuildValue : Type 0 where
  pub progress : ℕ
  pub stopped : Bool

-- the view of a board, whatever its name, has seen nothing
abbrev pub HasSeenNothing : TableId → Sighting → Type 0
HasSeenNothing board sight = record sight { name = [] } ≡ nothing_seen board

-- a seat of this number, with nothing in its session, that has seen nothing of the board
abbrev pub IsNewSeat : TableId → ℕ → SeatValue → Type 0
IsNewSeat board k s = (s.number ≡ k) × (s.session ≡ empty_session) × HasSeenNothing board s.sight

-- so many seats, each new and at its number
pub record AreNewSeats (board : TableId) (count : ℕ) (seats : List SeatValue) : Type 0 where
  pub counted : length seats ≡ count
  pub each : (k : ℕ) (s : SeatValue) → slice_get seats k ≡ Some s → IsNewSeat board k s

-- What contracts see of a seat.
use Rattle.std.specs.Prelude.{ℕ}
use Rattle.threads_sessions.specs.Values.{SessionValue}

-- its number, and its session
pub record SeatValue : Type 0 where
  pub number : ℕ
  pub session : SessionValue

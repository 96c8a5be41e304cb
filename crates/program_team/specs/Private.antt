-- What private functions say; no public clause cites it.
use Rattle.std.specs.Prelude.{◌≡◌, ◌++◌, ◌∷◌, [], All, List, Some, slice_get, ℕ}
use Rattle.model.specs.declared.write.Write.{Write}
use Rattle.core_parts.specs.declared.parts.Ticket.{Ticket}
use Rattle.threads_sessions.specs.Values.{CommitValue}
use Rattle.shared.specs.Seats.{AckValue, SeatValue}
use Rattle.program_team.specs.Kept.{HasTicket, told_ticket}
use Rattle.program_team.specs.declared.writer.Acknowledged.{Acknowledged}

-- the seat has its number, and the commits that it had
abbrev pub KeepsCommits : (old new : SeatValue) → Type 0
KeepsCommits old new = (new.number ≡ old.number) × (new.session.commits ≡ old.session.commits)

-- one commit more, with this ticket
abbrev pub Commits : (old new : SeatValue) → Ticket → Type 0
Commits old new ticket =
    (new.number ≡ old.number)
    × ((writes : List Write) × (new.session.commits ≡ old.session.commits ++ record { ticket = ticket; writes = writes }
    ∷ []))

-- some commits more, or none
abbrev pub Adds : (old new : SeatValue) → Type 0
Adds old new = (new.number ≡ old.number) × ((more : List CommitValue)
    × (new.session.commits ≡ old.session.commits ++ more))

-- the seat has made the commit of this ticket
abbrev pub HasMade : SeatValue → Ticket → Type 0
HasMade seat ticket = HasTicket (λ c. c.ticket) seat.session.commits ticket

-- each row that is told is of a commit that the seat made, and of an acknowledgement
abbrev pub Tells : SeatValue → List AckValue → List Acknowledged → Type 0
Tells seat acks told = All (λ made. HasMade seat (told_ticket made)
    × HasTicket (λ a. a.ticket) acks (told_ticket made)) told

-- so it is of each of these writers
abbrev pub AllTell : {W : Type 0} → (W → SeatValue) → (W → List AckValue) → (W → List Acknowledged) → List W → Type 0
AllTell {W} seat acks told writers = (k : ℕ) (w : W) → slice_get writers k ≡ Some w → Tells (seat w) (acks w) (told w)

-- A writer has gone on: its seat has its number, and what it tells is as before of commits that the seat made, and of
-- acknowledgements.
pub record GoesOn (old : SeatValue) (old_acks : List AckValue) (old_told : List Acknowledged) (new : SeatValue)
    (acks : List AckValue) (told : List Acknowledged) : Type 0 where
  pub number : new.number ≡ old.number
  pub tells : Tells old old_acks old_told → Tells new acks told

-- The replies of the calls.
use Rattle.std.specs.Prelude.{Err, None, Ok, Option, Result, Some, ℕ}
use Rattle.record_values.specs.declared.error.Error.{Error}
use Rattle.core_model.specs.Events.{Refused, Reply}
use Rattle.core_parts.specs.declared.parts.Ticket.{Ticket}
use Rattle.core_parts.specs.declared.parts.Detached.{Detached}

-- a result as a reply
abbrev pub reply_by : {T : Type 0} → (T → Reply) → Result T Error → Reply
reply_by f (Ok x) = f x
reply_by f (Err e) = Refused e

-- a ticket as a reply: a commit's has its number
abbrev pub ticket_by : (ℕ → Reply) → ℕ → Option ℕ → Reply
ticket_by other number None = other number
ticket_by other number (Some commit) = Reply.Committed number commit

-- a ticket with the number of a commit is that of a commit, and one without tells of another step
abbrev pub ticketed : (ℕ → Reply) → Ticket → Reply
ticketed other ticket = ticket_by other ticket.record ticket.commit

-- and without, here, of a creation or of a dropping
abbrev pub reply_of_ticket : Ticket → Reply
reply_of_ticket ticket = ticketed Reply.Ticketed ticket

-- a dropped index as a reply
abbrev pub reply_of_detached : {A : Type 0} → Detached A → Reply
reply_of_detached dropped = reply_of_ticket dropped.ticket

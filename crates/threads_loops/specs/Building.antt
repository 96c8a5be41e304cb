-- What a step of the builder means to the loop.
use Rattle.std.specs.Prelude.{◌≡◌, ◌≢◌, ◌⊎◌, ◌<◌, ◌≤◌, Bool, false, true, ℕ, Option, Result, Ok, Err, IfErr, IfOk}
use Rattle.std.specs.Prelude.{IfSome}
use Rattle.record_values.specs.declared.error.Error.{Error}
use Rattle.record_values.specs.declared.error.Error.TheVariants.{IndexFull, NoIndex, NoMemory, Stopped}
use Rattle.record_values.specs.declared.pair.Pair.{Pair}
use Rattle.core_model.specs.Events.{Built, Event, Refused, Reply}
use Rattle.core_model.specs.Events as events
use Rattle.core_model.specs.Histories.{Opened}
use Rattle.core_parts.specs.Builds.{built}
use Rattle.nsf_core.specs.Loading.{IsQuiet}
use Rattle.core_parts.specs.declared.parts.Ticket.{Ticket}
use Rattle.core_parts.specs.declared.reply.BuildReply.{BuildReply}
use Rattle.core_parts.specs.declared.reply.BuildReply.TheVariants as reply
use Rattle.shared.specs.Seats.{BuildValue}
use Rattle.shared.specs.Served.{WasServed}
use Rattle.threads_loops.specs.declared.build.Outcome.{Outcome}
use Rattle.threads_loops.specs.declared.build.Outcome.TheVariants.{Done, Refused, Scanned, Attempted, Marked, Nothing}

-- Some core that may lie under the lock replies so to a step of the builder, and has made so many attempts then.
pub record HasStepped (o : Opened) (reply : Reply) (attempts : ℕ) : Type 0 where
  pub served : WasServed o Event.Build reply
  pub counted : served.new.attempts ≡ attempts

-- so it replies by a pair that it placed, or that has an entry, or that the index is complete
abbrev pub HasAttempted : Opened → ℕ → Type 0
HasAttempted o attempts = ((pair : Pair) × (HasStepped o (Built (events.Placed pair)) attempts
    ⊎ HasStepped o (Built (events.Rejected pair)) attempts))
    ⊎ ((ticket : Ticket) × HasStepped o (built (reply.Done ticket)) attempts)

-- It replies that the index is complete, with this ticket, and no attempt that it has made then is missing in what was
-- published.
pub record HasPublished (o : Opened) (ticket : Ticket) (progress : ℕ) : Type 0 where
  pub attempts : ℕ
  pub stepped : HasStepped o (built (reply.Done ticket)) attempts
  pub told : attempts ≤ progress

-- Some core that may lie under the lock refuses a step of the builder so, and has no transaction active.
pub record HasRefused (o : Opened) (e : Error) : Type 0 where
  pub served : WasServed o Event.Build (Refused e)
  pub quiet : IsQuiet served.new

-- Such a refusal may end a builder that is ended with its clients: that there is no index doesn't, and that it is full
-- does only where no transaction was active.
abbrev pub EndsRun : Opened → Error → Type 0
EndsRun o e = (e ≢ NoIndex) × (e ≡ IndexFull → ∥ HasRefused o e ∥₁)

-- A builder that is ended with its clients may end so: it is stopped; or a step is refused, but not for want of memory
-- or of an index, nor of room while a transaction is active.
abbrev pub EndsBuilder : Opened → Error → Type 0
EndsBuilder o e = e ≢ Stopped → (e ≢ NoMemory) × ∥ WasServed o Event.Build (Refused e) ∥₁ × EndsRun o e

-- A builder that is ended with its clients has gone on so: it completed the index, and has published all attempts; or
-- it ended. What it publishes never goes back, and is the number of attempts then.
pub record BuildsOn (o : Opened) (old : BuildValue) (result : Result Ticket Error) (new : BuildValue) : Type 0 where
  pub done : IfOk result (λ ticket. ∥ WasServed o Event.Build (built (reply.Done ticket)) ∥₁)
  pub published : IfOk result (λ ticket. ∥ HasPublished o ticket new.progress ∥₁)
  pub why : IfErr result (EndsBuilder o)
  pub rises : old.progress ≤ new.progress
  pub attempted : old.progress < new.progress → ∥ HasAttempted o new.progress ∥₁

-- why a builder ended that ended so: it was stopped, where it tells an index
abbrev pub reason_of : Result Ticket Error → Error
reason_of (Ok ticket) = Stopped
reason_of (Err e) = e

-- So it has gone on where it completed this index last, if any, and may have ended by whatever reason. (No public
-- clause cites this.)
pub record HasBuilt (o : Opened) (old : BuildValue) (completed : Option Ticket) (new : BuildValue) : Type 0 where
  pub done : IfSome completed (λ ticket. ∥ WasServed o Event.Build (built (reply.Done ticket)) ∥₁)
  pub published : IfSome completed (λ ticket. ∥ HasPublished o ticket new.progress ∥₁)
  pub rises : old.progress ≤ new.progress
  pub attempted : old.progress < new.progress → ∥ HasAttempted o new.progress ∥₁

-- What a step means to a loop that waits for an index and for room in it, or to one that doesn't: the loop ends where
-- the step completed the index, or where it was refused, but for want of memory; and for want of an index, or of room
-- where a transaction is active, only where the loop doesn't wait. (No public clause cites this.)
abbrev pub IsOutcome : (waits quiet : Bool) → Outcome → Result BuildReply Error → Type 0
IsOutcome waits quiet (Done ticket) step = step ≡ Ok (reply.Done ticket)
IsOutcome waits quiet (Refused e) step = (step ≡ Err e) × (e ≢ NoMemory) × (waits ≡ true → e ≢ NoIndex)
    × (waits ≡ true → e ≡ IndexFull → quiet ≡ true)
IsOutcome waits quiet Attempted step = (pair : Pair)
    × ((step ≡ Ok (reply.Placed pair)) ⊎ (step ≡ Ok (reply.Rejected pair)))
IsOutcome waits quiet Scanned step = (page : ℕ) × (step ≡ Ok (reply.Scanned page))
IsOutcome waits quiet Marked step = (pair : Pair) × (ticket : Ticket) × (step ≡ Ok (reply.Marked pair ticket))
IsOutcome waits quiet Nothing step = (step ≡ Ok reply.Idle) ⊎ (step ≡ Err NoMemory)
    ⊎ ((step ≡ Err NoIndex) × (waits ≡ true)) ⊎ ((step ≡ Err IndexFull) × (waits ≡ true) × (quiet ≡ false))

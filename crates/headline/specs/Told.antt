-- What requests and their replies tell: the commits, what became of the index, and what is safe.
use Rattle.std.specs.Ordering.{nat_cmp}
use Rattle.std.specs.Prelude.{List, None, Option, Some, [], map, max, ℕ, ◌++◌, ◌∷◌}
use Rattle.record_values.specs.Values.{Place}
use Rattle.record_values.specs.declared.row.Row.{Row}
use Rattle.model.specs.History.{Checkpointed, Committed, Completed, Created, Deed, Dropped, Item}
use Rattle.model.specs.declared.write.Write.{Write}
use Rattle.core_model.specs.Steps.{update}
use Rattle.core_parts.specs.declared.parts.Ticket.{Ticket}
use Rattle.core_parts.specs.declared.reply.BuildReply.TheVariants as build
use Rattle.restart.specs.declared.event.Event.{Event}
use Rattle.restart.specs.declared.event.Event.TheVariants as event
use Rattle.restart.specs.declared.event.Reply.{Reply}
use Rattle.restart.specs.declared.event.Reply.TheVariants as reply

-- what each active transaction has written, in order, by its number; `no_writes` before any
abbrev pub Writes : Type 0
Writes = ℕ → List Write

-- a transaction puts a row at a place, or takes it out
abbrev pub with_write : Writes → ℕ → Place → Option Row → Writes
with_write writes txn rid row = update nat_cmp writes txn (writes txn ++ record { rid = rid; row = row } ∷ [])

-- after a request that was accepted; an insertion's place is told by its reply
abbrev pub written_by : Writes → Event → Option Place → Writes
written_by writes (event.Insert txn key body) (Some rid) =
    with_write writes txn rid (Some (record { key = key; body = body }))
written_by writes (event.Delete txn rid) place = with_write writes txn rid None
written_by writes (event.Update txn rid key body) place =
    with_write writes txn rid (Some (record { key = key; body = body }))
written_by writes (event.End txn) place = update nat_cmp writes txn []
written_by writes (event.Commit txn) place = update nat_cmp writes txn []
written_by writes request place = writes

-- after a request with this reply: one that was skipped or refused wrote nothing
abbrev pub written : {M : Type 0} → Writes → Event → Reply M → Writes
written writes request (reply.Rid rid) = written_by writes request (Some rid)
written writes request reply.Skipped = writes
written writes request (reply.Refused error) = writes
written writes request answer = written_by writes request None

-- the creation of the index, or its dropping
abbrev pub turn_of : Event → List Deed
turn_of event.Create = Created ∷ []
turn_of event.Drop = Dropped ∷ []
turn_of request = []

-- what a ticket tells: with the number of a commit, that its transaction's writes were committed; without one, these
-- deeds
abbrev pub deeds_told : Writes → Event → List Deed → (commit : Option ℕ) → List Deed
deeds_told writes request deeds None = deeds
deeds_told writes (event.Commit txn) deeds (Some commit) = Committed (writes txn) ∷ []
deeds_told writes request deeds (Some commit) = []

-- the same as items of the ticket's log record
abbrev pub told_in : Writes → Event → Ticket → List Deed → List Item
told_in writes request ticket deeds =
    map (λ deed. record { number = ticket.record; deed = deed }) (deeds_told writes request deeds ticket.commit)

-- what a reply tells: a commit, the index's creation, a checkpoint of its builder, the end of its build, or its
-- dropping
abbrev pub told_by : {M : Type 0} → Writes → Event → Reply M → List Item
told_by writes request (reply.Ticket ticket) = told_in writes request ticket (turn_of request)
told_by writes request (reply.Built (build.Marked pair ticket)) = told_in writes request ticket (Checkpointed pair ∷ [])
told_by writes request (reply.Built (build.Done ticket)) = told_in writes request ticket (Completed ∷ [])
told_by writes request answer = []

-- what the replies to these requests tell, in order
abbrev pub told_over : {M : Type 0} → Writes → List Event → List (Reply M) → List Item
told_over writes (request ∷ requests) (answer ∷ answers) =
    told_by writes request answer ++ told_over (written writes request answer) requests answers
told_over writes requests answers = []

-- each record up to this number is safe, as the replies tell
abbrev pub acknowledged : {M : Type 0} → List (Reply M) → ℕ
acknowledged [] = 0
acknowledged (reply.Horizon number ∷ replies) = max number (acknowledged replies)
acknowledged (reply.Flipped number ∷ replies) = max number (acknowledged replies)
acknowledged (answer ∷ replies) = acknowledged replies

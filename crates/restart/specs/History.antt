-- What was asked and answered, in the words of the core.
use Rattle.std.specs.Prelude.{List, None, Option, Some, [], max, ℕ, ◌++◌, ◌∷◌, ◌≢◌}
use Rattle.core_model.specs.Events as core
use Rattle.core_model.specs.Events.{Standing, standing_after}
use Rattle.core_parts.specs.Builds.{built}
use Rattle.core_parts.specs.Cleaning.{cleaner}
use Rattle.core_parts.specs.Replies.{reply_of_ticket}
use Rattle.restart.specs.declared.event.Event.{Event}
use Rattle.restart.specs.declared.event.Event.TheVariants as event
use Rattle.restart.specs.declared.event.Reply.{Reply}
use Rattle.restart.specs.declared.event.Reply.TheVariants as reply

-- what is asked of the core; a flush and a copy ask nothing of it
abbrev pub asked : Event → Option core.Event
asked event.Begin = Some core.Begin
asked (event.Insert txn key body) = Some (core.Insert txn (record { key = key; body = body }))
asked (event.Delete txn rid) = Some (core.Delete txn rid)
asked (event.Update txn rid key body) = Some (core.Update txn rid (record { key = key; body = body }))
asked (event.Step txn) = Some (core.Step txn)
asked (event.Undo txn) = Some (core.Undo txn)
asked (event.End txn) = Some (core.End txn)
asked (event.Commit txn) = Some (core.Commit txn)
asked event.Create = Some core.Create
asked event.Drop = Some core.Drop
asked event.Build = Some core.Build
asked event.Clean = Some core.Clean
asked event.Flush = None
asked event.Copy = None
asked (event.Get rid) = Some (core.Get rid)
asked (event.Find key) = Some (core.Find key)
asked event.Life = Some core.Life

-- what the core answered; the answers to a flush and to a copy are none of its
abbrev pub answered : {M : Type 0} → Reply M → Option core.Reply
answered (reply.Txn n) = Some (core.Txn n)
answered (reply.Rid rid) = Some (core.Rid rid)
answered reply.Stepped = Some core.Stepped
answered reply.Undone = Some core.Undone
answered reply.Empty = Some core.Empty
answered reply.Ended = Some core.Ended
answered (reply.Ticket ticket) = Some (reply_of_ticket ticket)
answered (reply.Built b) = Some (built b)
answered (reply.Cleaned c) = Some (cleaner c)
answered (reply.Horizon n) = None
answered reply.LogFull = None
answered reply.Copied = None
answered (reply.Flipped n) = None
answered reply.Again = None
answered (reply.Row row) = Some (core.RowIs row)
answered (reply.Found rids) = Some (core.Found rids.items)
answered (reply.Life life) = Some (core.LifeIs life)
answered reply.Skipped = Some core.Skipped
answered (reply.Refused e) = Some (core.Refused e)

-- an event with its reply, where the core was asked and has answered
abbrev pub both : Option core.Event → Option core.Reply → List (core.Event × core.Reply)
both None answer = []
both (Some e) None = []
both (Some e) (Some r) = (e, r) ∷ []

-- each event of the core with its reply
abbrev pub core_calls : {M : Type 0} → List Event → List (Reply M) → List (core.Event × core.Reply)
core_calls (e ∷ events) (r ∷ replies) = both (asked e) (answered r) ++ core_calls events replies
core_calls events replies = []

-- what the replies, one after another, leave of the standing
abbrev pub standing_over : Standing → List (core.Event × core.Reply) → Standing
standing_over k [] = k
standing_over k (call ∷ calls) = standing_over (standing_after k call.1) calls

-- the greatest record number that a reply has told to be safe, or n
abbrev pub acknowledged : {M : Type 0} → ℕ → List (Reply M) → ℕ
acknowledged n [] = n
acknowledged n (reply.Txn t ∷ replies) = acknowledged n replies
acknowledged n (reply.Rid r ∷ replies) = acknowledged n replies
acknowledged n (reply.Stepped ∷ replies) = acknowledged n replies
acknowledged n (reply.Undone ∷ replies) = acknowledged n replies
acknowledged n (reply.Empty ∷ replies) = acknowledged n replies
acknowledged n (reply.Ended ∷ replies) = acknowledged n replies
acknowledged n (reply.Ticket t ∷ replies) = acknowledged n replies
acknowledged n (reply.Built b ∷ replies) = acknowledged n replies
acknowledged n (reply.Cleaned c ∷ replies) = acknowledged n replies
acknowledged n (reply.Horizon m ∷ replies) = acknowledged (max n m) replies
acknowledged n (reply.LogFull ∷ replies) = acknowledged n replies
acknowledged n (reply.Copied ∷ replies) = acknowledged n replies
acknowledged n (reply.Flipped m ∷ replies) = acknowledged (max n m) replies
acknowledged n (reply.Again ∷ replies) = acknowledged n replies
acknowledged n (reply.Row row ∷ replies) = acknowledged n replies
acknowledged n (reply.Found rids ∷ replies) = acknowledged n replies
acknowledged n (reply.Life life ∷ replies) = acknowledged n replies
acknowledged n (reply.Skipped ∷ replies) = acknowledged n replies
acknowledged n (reply.Refused e ∷ replies) = acknowledged n replies

-- what may be answered to a flush: how far all is safe, that the log is full, or a refusal
abbrev pub IsOfFlush : {M : Type 0} → Reply M → Type 0
IsOfFlush (reply.Txn t) = ⊥
IsOfFlush (reply.Rid r) = ⊥
IsOfFlush reply.Stepped = ⊥
IsOfFlush reply.Undone = ⊥
IsOfFlush reply.Empty = ⊥
IsOfFlush reply.Ended = ⊥
IsOfFlush (reply.Ticket t) = ⊥
IsOfFlush (reply.Built b) = ⊥
IsOfFlush (reply.Cleaned c) = ⊥
IsOfFlush (reply.Horizon m) = Unit {0}
IsOfFlush reply.LogFull = Unit {0}
IsOfFlush reply.Copied = ⊥
IsOfFlush (reply.Flipped m) = ⊥
IsOfFlush reply.Again = ⊥
IsOfFlush (reply.Row row) = ⊥
IsOfFlush (reply.Found rids) = ⊥
IsOfFlush (reply.Life life) = ⊥
IsOfFlush reply.Skipped = ⊥
IsOfFlush (reply.Refused e) = Unit {0}

-- and to a copy: that a piece was taken, that the image is current, that it was given up, or a refusal
abbrev pub IsOfCopy : {M : Type 0} → Reply M → Type 0
IsOfCopy (reply.Txn t) = ⊥
IsOfCopy (reply.Rid r) = ⊥
IsOfCopy reply.Stepped = ⊥
IsOfCopy reply.Undone = ⊥
IsOfCopy reply.Empty = ⊥
IsOfCopy reply.Ended = ⊥
IsOfCopy (reply.Ticket t) = ⊥
IsOfCopy (reply.Built b) = ⊥
IsOfCopy (reply.Cleaned c) = ⊥
IsOfCopy (reply.Horizon m) = ⊥
IsOfCopy reply.LogFull = ⊥
IsOfCopy reply.Copied = Unit {0}
IsOfCopy (reply.Flipped m) = Unit {0}
IsOfCopy reply.Again = Unit {0}
IsOfCopy (reply.Row row) = ⊥
IsOfCopy (reply.Found rids) = ⊥
IsOfCopy (reply.Life life) = ⊥
IsOfCopy reply.Skipped = ⊥
IsOfCopy (reply.Refused e) = Unit {0}

-- The reply is of the request's kind: what the core can answer, to a request that asks it for something; and what a
-- flush or a copy may.
abbrev pub IsOfKind : {M : Type 0} → Event → Reply M → Type 0
IsOfKind event.Begin r = answered r ≢ None
IsOfKind (event.Insert txn key body) r = answered r ≢ None
IsOfKind (event.Delete txn rid) r = answered r ≢ None
IsOfKind (event.Update txn rid key body) r = answered r ≢ None
IsOfKind (event.Step txn) r = answered r ≢ None
IsOfKind (event.Undo txn) r = answered r ≢ None
IsOfKind (event.End txn) r = answered r ≢ None
IsOfKind (event.Commit txn) r = answered r ≢ None
IsOfKind event.Create r = answered r ≢ None
IsOfKind event.Drop r = answered r ≢ None
IsOfKind event.Build r = answered r ≢ None
IsOfKind event.Clean r = answered r ≢ None
IsOfKind event.Flush r = IsOfFlush r
IsOfKind event.Copy r = IsOfCopy r
IsOfKind (event.Get rid) r = answered r ≢ None
IsOfKind (event.Find key) r = answered r ≢ None
IsOfKind event.Life r = answered r ≢ None

-- each request has one reply, which is of its kind
abbrev pub AreOfKind : {M : Type 0} → List Event → List (Reply M) → Type 0
AreOfKind [] [] = Unit {0}
AreOfKind (e ∷ events) (r ∷ replies) = IsOfKind e r × AreOfKind events replies
AreOfKind events replies = ⊥

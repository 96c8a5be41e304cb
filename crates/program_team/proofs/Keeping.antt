-- What a seat keeps, and what a writer tells.
use Rattle.std.proofs.Common.{◌≡◌, ◌⊎◌, ◌∙◌, ◌++◌, ◌∷◌, [], Err, IfOk, List, None, Ok, OnErr, OnOk, Option, Result, Some, ⊎_elim, ap, append-nil}
use Rattle.std.proofs.Common.{append_assoc, refl, subst, sym, ℕ}
use Rattle.std.proofs.lemmas.List.Elements.{All-push, All-weaker}
use Rattle.model.specs.declared.write.Write.{Write}
use Rattle.core_parts.specs.declared.parts.Ticket.{Ticket}
use Rattle.record_values.specs.declared.error.Error.{Error}
use Rattle.threads_sessions.specs.Steps.{committed, ended}
use Rattle.threads_sessions.specs.Values.{CommitValue, SessionValue, rows_of}
use Rattle.shared.specs.Changed.{HasChanged, IsGoingBack}
use Rattle.shared.specs.Seats.{AckValue, SeatValue}
use Rattle.shared.specs.Waits.{HasReadWhy}
use Rattle.program_team.specs.Kept.{HasTicket, told_ticket}
use Rattle.program_team.specs.Private.{Adds, Commits, HasMade, KeepsCommits, Tells}
use Rattle.program_team.specs.declared.writer.Acknowledged.{Acknowledged}

-- ---- a seat

pub same_keeps : (old new : SeatValue) → new ≡ old → KeepsCommits old new
same_keeps old new same = (ap (λ (s : SeatValue). s.number) same, ap (λ (s : SeatValue). s.session.commits) same)

-- where a call sets the session to one with the same commits, or leaves the seat
pub set_keeps : {T : Type 0} (r : Result T Error) (old new : SeatValue) (session : T → SessionValue) → ((t : T) → (session t).commits ≡ old.session.commits)
    → IfOk r (λ t. new ≡ record old { session = session t }) → OnErr r (new ≡ old) → KeepsCommits old new
set_keeps (Ok t) old new session keeps is same = (ap (λ (s : SeatValue). s.number) is, ap (λ (s : SeatValue). s.session.commits) is ∙ keeps t)
set_keeps (Err e) old new session keeps is same = same_keeps old new same

-- a change is no commit
pub changed_keeps : (old new : SeatValue) (txn : ℕ) (change : Write) (rest : Option Error) → new ≡ record old { session = new.session }
    → HasChanged old.session txn change rest new.session → KeepsCommits old new
changed_keeps old new txn change None seat changed = (ap (λ (s : SeatValue). s.number) seat, ap (λ (s : SessionValue). s.commits) changed.0.others)
changed_keeps old new txn change (Some e) seat changed = (ap (λ (s : SeatValue). s.number) seat, ap (λ (s : SessionValue). s.commits) changed.0.others)

pub keeps_both : (a b c : SeatValue) → KeepsCommits a b → KeepsCommits b c → KeepsCommits a c
keeps_both a b c one two = (two.0 ∙ one.0, two.1 ∙ one.1)

pub keeps_adds : (a b c : SeatValue) → KeepsCommits a b → Adds b c → Adds a c
keeps_adds a b c one two = (two.0 ∙ one.0, (two.1.0, two.1.1 ∙ ap (λ (cs : List CommitValue). cs ++ two.1.0) one.1))

pub adds_none : (a b : SeatValue) → KeepsCommits a b → Adds a b
adds_none a b keeps = (keeps.0, ([], keeps.1 ∙ sym (append-nil a.session.commits)))

pub adds_one : (a b : SeatValue) (t : Ticket) → Commits a b t → Adds a b
adds_one a b t made = (made.0, (record { ticket = t; writes = made.1.0 } ∷ [], made.1.1))

-- one commit more
pub commits_one : (old new : SeatValue) (txn : ℕ) (t : Ticket) → new ≡ record old { session = committed old.session txn t } → Commits old new t
commits_one old new txn t is = (ap (λ (s : SeatValue). s.number) is, (rows_of txn old.session.active, ap (λ (s : SeatValue). s.session.commits) is))

pub keeps_commits : (a b c : SeatValue) (t : Ticket) → Commits a b t → KeepsCommits b c → Commits a c t
keeps_commits a b c t made keeps = (keeps.0 ∙ made.0, (made.1.0, keeps.1 ∙ made.1.1))

pub made_one : (a b : SeatValue) (t : Ticket) → Commits a b t → HasMade b t
made_one a b t made = record { before = a.session.commits; one = record { ticket = t; writes = made.1.0 }; after = []; there = made.1.1; is = refl }

-- a wait that was refused leaves number and session
pub waited_keeps : (e : Error) (old before after : SeatValue) → before.number ≡ old.number → before.session ≡ old.session → HasReadWhy e before after
    → KeepsCommits old after
waited_keeps e old before after number session why = ⊎_elim
    (λ failed. (
      ap (λ (s : SeatValue). s.number) failed.1 ∙ number,
      ap (λ (s : SeatValue). s.session.commits) failed.1
          ∙ ap (λ (s : SessionValue). s.commits) session,
    ))
    (λ stopped. (
      ap (λ (s : SeatValue). s.number) stopped.2 ∙ number,
      ap (λ (s : SeatValue). s.session.commits) stopped.2
          ∙ ap (λ (s : SessionValue). s.commits) session,
    ))
    why

-- ---- a ticket

pub has_more : {X : Type 0} (ticket_of : X → Ticket) (xs ys : List X) (t : Ticket) → HasTicket ticket_of xs t → HasTicket ticket_of (xs ++ ys) t
has_more ticket_of xs ys t has = record {
  before = has.before;
  one = has.one;
  after = has.after ++ ys;
  there = ap (λ zs. zs ++ ys) has.there ∙ append_assoc has.before (has.one ∷ has.after) ys;
  is = has.is;
}

pub has_last : {X : Type 0} (ticket_of : X → Ticket) (xs : List X) (x : X) (t : Ticket) → ticket_of x ≡ t → HasTicket ticket_of (xs ++ x ∷ []) t
has_last ticket_of xs x t is = record { before = xs; one = x; after = []; there = refl; is = is }

-- ---- what is told

-- stays so when commits and acknowledgements are added
pub tells_more : (old new : SeatValue) (acks more : List AckValue) (told : List Acknowledged) → Adds old new → Tells old acks told
    → Tells new (acks ++ more) told
tells_more old new acks more told adds tells = All-weaker
    (λ (made : Acknowledged). HasMade old (told_ticket made) × HasTicket (λ (a : AckValue). a.ticket) acks (told_ticket made))
    (λ (made : Acknowledged). HasMade new (told_ticket made) × HasTicket (λ (a : AckValue). a.ticket) (acks ++ more) (told_ticket made))
    (λ made has. (
      subst (λ (cs : List CommitValue). HasTicket (λ (c : CommitValue). c.ticket) cs (told_ticket made)) (sym adds.1.1)
          (has_more (λ (c : CommitValue). c.ticket) old.session.commits adds.1.0 (told_ticket made) has.0),
      has_more (λ (a : AckValue). a.ticket) acks more (told_ticket made) has.1,
    ))
    told tells

pub tells_seat : (old new : SeatValue) (acks : List AckValue) (told : List Acknowledged) → Adds old new → Tells old acks told → Tells new acks told
tells_seat old new acks told adds tells =
    subst (λ (list : List AckValue). Tells new list told) (append-nil acks) (tells_more old new acks [] told adds tells)

-- one more
pub tells_one : (seat : SeatValue) (acks : List AckValue) (ack : AckValue) (told : List Acknowledged) (made : Acknowledged) → HasMade seat (told_ticket made)
    → ack.ticket ≡ told_ticket made → Tells seat acks told → Tells seat (acks ++ ack ∷ []) (told ++ made ∷ [])
tells_one seat acks ack told made has is tells =
    All-push (λ (x : Acknowledged). HasMade seat (told_ticket x)
    × HasTicket (λ (a : AckValue). a.ticket) (acks ++ ack ∷ []) (told_ticket x)) told made
    (tells_more seat seat acks (ack ∷ []) told (adds_none seat seat (refl, refl)) tells) (
      has,
      has_last (λ (a : AckValue). a.ticket) acks ack (told_ticket made) is,
    )

-- a transaction that was taken back, or begins to be
pub abort_keeps : {T : Type 0} (r : Result T Error) (old new : SeatValue) (txn : ℕ) → new ≡ record old { session = new.session }
    → OnOk r (new.session ≡ ended old.session txn)
    → OnErr r ((new.session ≡ old.session) ⊎ IsGoingBack old.session txn new.session) → KeepsCommits old new
abort_keeps (Ok t) old new txn seat ok err = (ap (λ (s : SeatValue). s.number) seat, ap (λ (s : SessionValue). s.commits) ok)
abort_keeps (Err e) old new txn seat ok err = (
  ap (λ (s : SeatValue). s.number) seat,
  ⊎_elim (λ same. ap (λ (s : SessionValue). s.commits) same) (λ back. ap (λ (s : SessionValue). s.commits) back.others) err,
)

-- what follows of a refusal
pub err_weaker : {T E P Q : Type 0} (r : Result T E) → OnErr r P → (P → Q) → OnErr r Q
err_weaker (Ok t) p next = tt
err_weaker (Err e) p next = next p

pub on_err : {T E P : Type 0} (r : Result T E) → P → OnErr r P
on_err (Ok t) p = tt
on_err (Err e) p = p

-- what holds in any case
pub on_ok : {T E P : Type 0} (r : Result T E) → P → OnOk r P
on_ok (Ok t) p = p
on_ok (Err e) p = tt

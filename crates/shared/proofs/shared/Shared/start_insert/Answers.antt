use Rattle.std.proofs.Common.{Some, IfOk, map, subst, sym, true, ◌≡◌, ◌∙◌, ap}
use Rattle.core_model.specs.Events.{Event, Reply}
use Rattle.core_parts.specs.Replies.{reply_by}
use Rattle.nsf_core.specs.Value.{value_of}
use Rattle.threads_sessions.specs.Halves.{shown}
use Rattle.threads_sessions.specs.Values.{is_active, is_ready}
use Rattle.shared.specs.Changed.{IsUnderWay}
use Rattle.shared.specs.Seats.{SeatValue}
use Rattle.shared.specs.Served.{WasServedTo}
use Rattle.shared.proofs.Made.{insert_made}
use Rattle.shared.proofs.Moments.{served_to}
use Rattle.shared.proofs.SameSeat.{any_session, same_on_err}
use Rattle.shared.proofs.shared.Shared.start_insert.Goals as goal

pub returns-clause-served : goal.returns-clause-served
returns-clause-served g c = λ own.
    let o = g.B.Group.site.opened in
    let was = c.deref_mut.result.now in
    let reply = reply_by Reply.Rid c.insert-started.result in
    subst (λ (s : SeatValue). ∥ WasServedTo o s.number s.session (Event.Insert c.args.txn (record { key = c.args.key; body = c.args.body })) reply ∥₁)
    c.seat.view_is
    (served_to o (value_of was.core) (value_of c.insert-started.new.self.core) was.pusher.records (map shown was.book.items) was.shared
    (Event.Insert c.args.txn (record { key = c.args.key; body = c.args.body })) reply
    (c.insert-started.ensures.served (ap (λ (s : SeatValue). is_active s.session c.args.txn) c.seat.view_is ∙ own)) _ _ c.insert-started.ensures.before)

pub returns-clause-ok : goal.returns-clause-ok
returns-clause-ok g c =
    let o = g.B.Group.site.opened in
    let was = c.deref_mut.result.now in
    let part = c.seat.inside.part in
    subst (λ (s : SeatValue). IfOk c.insert-started.result (λ rid.
    IsUnderWay s.session c.args.txn (record { rid = rid; row = Some (record { key = c.args.key; body = c.args.body }) }) c.insert-started.new.seat.session))
    c.seat.view_is
    (insert_made o (value_of was.core) (value_of c.insert-started.new.self.core) was.pusher.records
    (map shown was.book.items) was.shared part.number part.session c.insert-started.new.seat.session c.insert-started.ensures.before c.args.txn
    (λ own. subst (λ (s : SeatValue). is_active s.session c.args.txn ≡ true → is_ready s.session c.args.txn ≡ true) (sym c.seat.view_is) c.requires own)
    (record { key = c.args.key; body = c.args.body }) c.insert-started.result (λ none.
    (c.insert-started.ensures.foreign none).0) c.insert-started.ensures.served c.insert-started.ensures.ok)

pub returns-clause-foreign : goal.returns-clause-foreign
returns-clause-foreign g c = λ none. (c.insert-started.ensures.foreign (ap (λ (s : SeatValue). is_active s.session c.args.txn) c.seat.view_is ∙ none)).0

pub returns-clause-refused : goal.returns-clause-refused
returns-clause-refused g c = let new = c.insert-started in
    same_on_err c.seat.inside.part new.new.seat c.seat.inside.view _ c.seat.view_is new.ensures.number new.result new.ensures.refused

pub returns-clause-seat : goal.returns-clause-seat
returns-clause-seat g c = let new = c.insert-started in any_session c.seat.inside.part new.new.seat c.seat.inside.view _ c.seat.view_is new.ensures.number

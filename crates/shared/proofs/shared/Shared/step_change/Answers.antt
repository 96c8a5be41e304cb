use Rattle.std.proofs.Common.{OnOk, Some, map, subst, ◌≡◌, ◌∙◌, ap}
use Rattle.core_model.specs.Events.{Event, Reply}
use Rattle.model.specs.declared.write.Write.{Write}
use Rattle.core_parts.specs.Replies.{reply_by}
use Rattle.nsf_core.specs.Value.{value_of}
use Rattle.threads_sessions.specs.Halves.{shown}
use Rattle.threads_sessions.specs.Values.{is_unfinished}
use Rattle.shared.specs.Changed.{IsUnderWay, unfinished_of}
use Rattle.shared.specs.Seats.{SeatValue}
use Rattle.shared.specs.Served.{WasServedTo}
use Rattle.shared.proofs.Made.{step_made, active_too}
use Rattle.shared.proofs.Moments.{served_to}
use Rattle.shared.proofs.shared.Shared.step_change.Goals as goal

pub next_step-stepped-requires-clause-unfinished : goal.next_step-stepped-requires-clause-unfinished
next_step-stepped-requires-clause-unfinished g c = λ own. ap (λ (s : SeatValue). is_unfinished s.session c.args.txn) c.seat.view_is ∙ c.requires

pub returns-clause-served : goal.returns-clause-served
returns-clause-served g c =
    let o = g.B.Group.site.opened in
    let was = c.deref_mut.result.now in
    let reply = reply_by (λ _. Reply.Stepped) c.next_step-stepped.result in
    subst (λ (s : SeatValue). ∥ WasServedTo o s.number s.session (Event.Step c.args.txn) reply ∥₁) c.seat.view_is
    (served_to o (value_of was.core) (value_of c.next_step-stepped.new.self.core) was.pusher.records (map shown was.book.items) was.shared
    (Event.Step c.args.txn) reply
    (c.next_step-stepped.ensures.served (active_too c.seat.inside.part.session c.args.txn
    (ap (λ (s : SeatValue). is_unfinished s.session c.args.txn) c.seat.view_is ∙ c.requires))) _ _ c.next_step-stepped.ensures.before)

pub returns-clause-ok : goal.returns-clause-ok
returns-clause-ok g c =
    let o = g.B.Group.site.opened in
    let was = c.deref_mut.result.now in
    let part = c.seat.inside.part in
    subst (λ (s : SeatValue). OnOk c.next_step-stepped.result ((w : Write) → unfinished_of s.session c.args.txn ≡ Some w
    → IsUnderWay s.session c.args.txn w c.next_step-stepped.new.seat.session)) c.seat.view_is
    (step_made o (value_of was.core) (value_of c.next_step-stepped.new.self.core) was.pusher.records
    (map shown was.book.items) was.shared part.number part.session c.next_step-stepped.new.seat.session c.next_step-stepped.ensures.before c.args.txn
    c.next_step-stepped.result (λ none. (c.next_step-stepped.ensures.foreign none).0) c.next_step-stepped.ensures.served c.next_step-stepped.ensures.ok)

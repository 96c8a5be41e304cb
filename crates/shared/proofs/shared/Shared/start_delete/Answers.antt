use Rattle.std.proofs.Common.{None, map, subst, sym, true, refl, ◌≡◌}
use Rattle.core_model.specs.Events.{Event, Reply}
use Rattle.model.specs.declared.write.Write.{Write}
use Rattle.core_parts.specs.Replies.{reply_by}
use Rattle.nsf_core.specs.Value.{value_of}
use Rattle.threads_sessions.specs.Halves.{shown}
use Rattle.threads_sessions.specs.Values.{is_active, is_ready}
use Rattle.shared.specs.Seats.{SeatValue}
use Rattle.shared.proofs.Made.{delete_made, was_changed}
use Rattle.shared.proofs.Moments.{served_to}
use Rattle.shared.proofs.SameSeat.{any_session, same_on_err}
use Rattle.shared.proofs.shared.Shared.start_delete.Goals as goal

pub returns : goal.returns
returns g c =
    let o = g.B.Group.site.opened in
    let was = c.deref_mut.result.now in
    let t = c.args.txn in
    let part = c.seat.inside.part in
    let step = c.delete-started in
    let is = step.ensures in
    let q = step.new.seat.session in
    let event = Event.Delete t c.args.rid in
    let change : Write = record { rid = c.args.rid; row = None } in
    let ready = subst (λ (s : SeatValue). is_active s.session t ≡ true → is_ready s.session t ≡ true) (sym c.seat.view_is) c.requires in
    rw (← c.seat.view_is) (record {
      foreign = λ none. (is.foreign none).0;
      served = λ own. served_to o (value_of was.core) (value_of step.new.self.core) was.pusher.records (map shown was.book.items) was.shared
          event (reply_by (λ _. Reply.Stepped) step.result) (is.served own) _ _ is.before;
      ok = delete_made o (value_of was.core) (value_of step.new.self.core) was.pusher.records (map shown was.book.items) was.shared
          part.number part.session q is.before t ready c.args.rid step.result (λ none. (is.foreign none).0) is.served is.ok;
      row = was_changed o (value_of was.core) (value_of step.new.self.core) was.pusher.records (map shown was.book.items) was.shared
          part.number part.session q is.before t event change step.result (λ none. (is.foreign none).0) is.served is.row;
      refused = same_on_err part step.new.seat c.seat.inside.view _ refl is.number step.result is.refused;
      seat = any_session part step.new.seat c.seat.inside.view _ refl is.number;
    })

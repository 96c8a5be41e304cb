use Rattle.std.proofs.Common.{◌≡◌, ◌∙◌, ap, inl, inr, map, refl, subst, sym, true}
use Rattle.std.proofs.lemmas.Bool.{false≢true}
use Rattle.std.proofs.lemmas.Result.{err_from_is_err_and}
use Rattle.core_model.specs.Events.{Event, Refused}
use Rattle.core_parts.specs.Moves.{HasNoChange, txn_shown}
use Rattle.nsf_core.specs.Value.{value_of}
use Rattle.threads_sessions.specs.Halves.{shown}
use Rattle.threads_sessions.specs.Values.{is_active}
use Rattle.shared.specs.Changed.{IsGoingBack}
use Rattle.shared.specs.Seats.{SeatValue}
use Rattle.shared.proofs.Backward.{back_step}
use Rattle.shared.proofs.Ends.{was_taken}
use Rattle.shared.proofs.Moments.{served_to}
use Rattle.shared.proofs.SameSeat.{any_session, same_session}
use Rattle.shared.proofs.Undone.{was_undone}
use Rattle.shared.proofs.shared.Shared.take_back.Goals as goal

pub end-ended-requires-clause-none_left : goal.end-ended-requires-clause-none_left
end-ended-requires-clause-none_left g c = λ _. c.if-may_end.ensures.0 refl

pub returns-in_ok-ended : goal.returns-in_ok-ended
returns-in_ok-ended g c =
    let o = g.B.Group.site.opened in
    let was = c.deref_mut-locked.result.now in
    let t = c.args.txn in
    let part = c.seat.inside.part in
    let step = c.end-ended in
    let own : is_active part.session t ≡ true = ap (λ (s : SeatValue). is_active s.session t) c.seat.view_is ∙ c.requires in
    rw (← c.seat.view_is) (record {
      last = λ _. c.in_ok-ended.ensures.ok;
      taken = λ _. was_taken o (value_of was.core) (value_of step.new.self.core) was.pusher.records
          (map shown was.book.items) was.shared part.number part.session step.ensures.before t own (c.if-may_end.ensures.0 refl)
          (c.in_ok-ended.ensures.served own);
      back = λ is. absurd (false≢true (sym is));
      undone = λ is. absurd (false≢true (sym is));
      refused = tt;
      served = tt;
      seat = any_session part step.new.seat c.seat.inside.view _ refl step.ensures.number;
    })

pub returns-in_err-ended : goal.returns-in_err-ended
returns-in_err-ended g c =
    let p = err_from_is_err_and c.from_residual.result c.from_residual.ensures.1 in
    let o = g.B.Group.site.opened in
    let was = c.deref_mut-locked.result.now in
    let part = c.seat.inside.part in
    let step = c.end-ended in
    let own : is_active part.session c.args.txn ≡ true = ap (λ (s : SeatValue). is_active s.session c.args.txn) c.seat.view_is ∙ c.requires in
    rw (← c.seat.view_is) (rw (p.1, p.2) (record {
      last = tt;
      taken = tt;
      back = tt;
      undone = tt;
      refused = same_session part step.new.seat c.seat.inside.view _ refl step.ensures.number c.in_err-ended.ensures.refused;
      served = inl (served_to o (value_of was.core) (value_of step.new.self.core) was.pusher.records (map shown was.book.items) was.shared
          (Event.End c.args.txn) (Refused c.in_err-ended.field-0.0) (c.in_err-ended.ensures.served own) _ _ step.ensures.before);
      seat = any_session part step.new.seat c.seat.inside.view _ refl step.ensures.number;
    }))

pub returns-in_ok-undone : goal.returns-in_ok-undone
returns-in_ok-undone g c =
    let o = g.B.Group.site.opened in
    let was = c.deref_mut-locked.result.now in
    let t = c.args.txn in
    let part = c.seat.inside.part in
    let step = c.undo_step-undone in
    let own : is_active part.session t ≡ true = ap (λ (s : SeatValue). is_active s.session t) c.seat.view_is ∙ c.requires in
    let left : HasNoChange (txn_shown (value_of was.core) t) → ⊥ = λ none. absurd (false≢true (c.if-may_end.ensures.1 none)) in
    rw (← c.seat.view_is) (record {
      last = λ is. absurd (false≢true is);
      taken = λ is. absurd (false≢true is);
      back = λ _. subst (IsGoingBack part.session t) (sym c.in_ok-undone.ensures.ok) (back_step t part.session (value_of step.new.self.core) own);
      undone = λ _. was_undone o (value_of was.core) (value_of step.new.self.core) was.pusher.records
          (map shown was.book.items) t was.shared part.number part.session step.new.seat.session step.ensures.before left _
          (c.in_ok-undone.ensures.served own) c.in_ok-undone.ensures.ok;
      refused = tt;
      served = tt;
      seat = any_session part step.new.seat c.seat.inside.view _ refl step.ensures.number;
    })

pub returns-in_err-undone : goal.returns-in_err-undone
returns-in_err-undone g c =
    let p = err_from_is_err_and c.from_residual-in_err-undone.result c.from_residual-in_err-undone.ensures.1 in
    let o = g.B.Group.site.opened in
    let was = c.deref_mut-locked.result.now in
    let part = c.seat.inside.part in
    let step = c.undo_step-undone in
    let own : is_active part.session c.args.txn ≡ true = ap (λ (s : SeatValue). is_active s.session c.args.txn) c.seat.view_is ∙ c.requires in
    rw (← c.seat.view_is) (rw (p.1, p.2) (record {
      last = tt;
      taken = tt;
      back = tt;
      undone = tt;
      refused = same_session part step.new.seat c.seat.inside.view _ refl step.ensures.number c.in_err-undone.ensures.refused;
      served = inr (served_to o (value_of was.core) (value_of step.new.self.core) was.pusher.records (map shown was.book.items) was.shared
          (Event.Undo c.args.txn) (Refused c.in_err-undone.field-0.0) (c.in_err-undone.ensures.served own) _ _ step.ensures.before);
      seat = any_session part step.new.seat c.seat.inside.view _ refl step.ensures.number;
    }))

use Rattle.std.proofs.Common.{◌≡◌, ◌∙◌, inl, map, refl, subst, suc, sym}
use Rattle.std.proofs.Math.Logic.{∥∥₁_map, ∥∥₁_map₂}
use Rattle.std.proofs.lemmas.Bool.{false≢true}
use Rattle.std.proofs.lemmas.Result.{err_from_is_err_and}
use Rattle.core_model.specs.Events.{Event, Refused, Reply}
use Rattle.core_parts.specs.Moves.{HasNoChange, txn_shown}
use Rattle.locked_core.specs.Locked.{locked_of}
use Rattle.nsf_core.specs.Value.{value_of}
use Rattle.threads_sessions.specs.Halves.{shown}
use Rattle.threads_sessions.specs.Steps.{ended}
use Rattle.threads_sessions.specs.Values.{SessionValue}
use Rattle.shared.specs.AtOnce.{IsLeft}
use Rattle.shared.proofs.AtOnce.{calls_more, end_refused, left_back, left_on, on_err_then, on_ok_then, then_call}
use Rattle.shared.proofs.Undone.{undo_served}
use Rattle.shared.proofs.shared.Shared.clear_held.Goals as goal

pub loop-init : goal.loop-init
loop-init g c = record { left = record { others = refl; active = c.requires }; served = ∣ (0, refl) ∣₁; number = refl }

pub end-requires-clause-none_left : goal.end-requires-clause-none_left
end-requires-clause-none_left g c = λ _. c.if-may_end.ensures.0 refl

pub returns-then-may_end : goal.returns-then-may_end
returns-then-may_end g c =
    let t = c.args.txn in
    let old = ended c.args.part.now.session t in
    let was = c.loop.invariant in
    record {
      cleared = on_ok_then _ _ c.end.result (λ (is : c.end.new.seat.session ≡ ended c.loop.part.session t). is ∙ was.left.others) c.end.ensures.ok;
      left = on_err_then _ _ c.end.result (λ (same : c.end.new.seat.session ≡ c.loop.part.session).
          subst (λ (s : SessionValue). IsLeft old t s) (sym same) was.left) c.end.ensures.refused;
      served = end_refused t (locked_of c.args.locked.now).core (locked_of c.loop.locked).core (locked_of c.end.new.self).core was.served c.end.result
          (c.end.ensures.served was.left.active);
      number = c.end.ensures.number ∙ was.number;
    }

pub returns-in_err-undo_step : goal.returns-in_err-undo_step
returns-in_err-undo_step g c =
    let p = err_from_is_err_and c.from_residual.result c.from_residual.ensures.1 in
    let t = c.args.txn in
    let old = ended c.args.part.now.session t in
    let was = c.loop.invariant in
    let e = c.in_err-undo_step.field-0.0 in
    rw (p.1, p.2) (record {
      cleared = tt;
      left = subst (λ (s : SessionValue). IsLeft old t s) (sym c.in_err-undo_step.ensures.refused) was.left;
      served = ∥∥₁_map was.served (λ u. (
        u.0,
        Event.Undo t,
        inl refl,
        then_call (Event.Undo t) Reply.Undone u.0 (Event.Undo t) (Refused e) (locked_of c.args.locked.now).core (locked_of c.loop.locked).core
            (locked_of c.undo_step.new.self).core u.1 (c.in_err-undo_step.ensures.served was.left.active),
      ));
      number = c.undo_step.ensures.number ∙ was.number;
    })

pub loop-preserved : goal.loop-preserved
loop-preserved g c =
    let t = c.args.txn in
    let was = c.loop.invariant in
    let is = c.loop.locked in
    let some : HasNoChange (txn_shown (value_of is.core) t) → ⊥ = λ none. absurd (false≢true (c.if-may_end.ensures.1 none)) in
    record {
      left = left_on (ended c.args.part.now.session t) t c.loop.part.session c.undo_step.new.seat.session was.left
          (left_back t c.loop.part.session c.undo_step.new.seat.session was.left.active (locked_of c.undo_step.new.self).core c.in_ok-undo_step.ensures.ok);
      served = ∥∥₁_map₂ is.shared was.served (λ all u. (
        suc u.0,
        calls_more (Event.Undo t) Reply.Undone u.0 (locked_of c.args.locked.now).core (locked_of is).core (locked_of c.undo_step.new.self).core u.1
            (undo_served g.B.Group.site.opened (value_of is.core) (value_of c.undo_step.new.self.core) is.pusher.records (map shown is.book.items) t all some _
            (c.in_ok-undo_step.ensures.served was.left.active)),
      ));
      number = c.undo_step.ensures.number ∙ was.number;
    }

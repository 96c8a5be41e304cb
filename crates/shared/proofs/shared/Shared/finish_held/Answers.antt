use Rattle.std.proofs.Common.{◌≡◌, ◌∙◌, ap, map, refl, suc, sym, true}
use Rattle.std.proofs.Math.Logic.{∥∥₁_map}
use Rattle.core_model.specs.Events.{Event, Refused}
use Rattle.locked_core.specs.Locked.{locked_of}
use Rattle.nsf_core.specs.Value.{value_of}
use Rattle.threads_sessions.specs.Halves.{shown}
use Rattle.threads_sessions.specs.Steps.{ended}
use Rattle.threads_sessions.specs.Values.{is_active, is_unfinished, SessionValue}
use Rattle.shared.proofs.AtOnce.{left_stepped, next_changing, steps_more, then_last}
use Rattle.shared.proofs.Made.{active_too, not_unfinished}
use Rattle.shared.proofs.shared.Shared.finish_held.Goals as goal

pub loop-init : goal.loop-init
loop-init g c = record { served = ∣ (0, refl) ∣₁; changing = λ change is. is; others = refl; number = refl }

pub returns-then-not-unfinished : goal.returns-then-not-unfinished
returns-then-not-unfinished g c =
    let was = c.loop.invariant in
    record {
      served = was.served;
      changing = was.changing;
      finished = not_unfinished c.loop.part.session c.args.txn (sym c.if-not-unfinished.ensures);
      others = was.others;
      number = was.number;
    }

pub next_step-requires-clause-unfinished : goal.next_step-requires-clause-unfinished
next_step-requires-clause-unfinished g c = λ _. sym c.if-not-unfinished.ensures

pub returns-in-Err : goal.returns-in-Err
returns-in-Err g c =
    let was = c.loop.invariant in
    let t = c.args.txn in
    let p = c.loop.part.session in
    let q = c.next_step.new.seat.session in
    let own : is_active p t ≡ true = active_too p t (sym c.if-not-unfinished.ensures) in
    let same : q ≡ p = c.in-Err.ensures.refused in
    record {
      served = ∥∥₁_map was.served (λ s. (
        s.0,
        then_last t s.0 (Event.Step t) (Refused c.in-Err.error) (locked_of c.args.locked.now).core (locked_of c.loop.locked).core
            (locked_of c.next_step.new.self).core s.1 (c.in-Err.ensures.served own),
      ));
      changing = λ change is. rw same (was.changing change is);
      finished = tt;
      others = ap (λ (s : SessionValue). ended s t) same ∙ was.others;
      number = c.next_step.ensures.number ∙ was.number;
    }

pub loop-preserved : goal.loop-preserved
loop-preserved g c =
    let was = c.loop.invariant in
    let t = c.args.txn in
    let is = c.loop.locked in
    let p = c.loop.part.session in
    let q = c.next_step.new.seat.session in
    let left : is_unfinished p t ≡ true = sym c.if-not-unfinished.ensures in
    let own : is_active p t ≡ true = active_too p t left in
    let sv = c.in_default.ensures.served own in
    record {
      served = ∥∥₁_map was.served (λ s. (
        suc s.0,
        steps_more t s.0 (locked_of c.args.locked.now).core (locked_of is).core (locked_of c.next_step.new.self).core s.1 sv,
      ));
      changing = λ change there.
          next_changing g.B.Group.site.opened (value_of is.core) (value_of c.next_step.new.self.core) is.pusher.records (map shown is.book.items) is.shared
          c.loop.part.number p q c.next_step.ensures.before t own left sv c.in_default.ensures.ok change (was.changing change there);
      others = (left_stepped t p q own (locked_of c.next_step.new.self).core c.in_default.ensures.ok).others ∙ was.others;
      number = c.next_step.ensures.number ∙ was.number;
    }

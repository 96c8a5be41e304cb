use Rattle.std.proofs.Common.{◌≡◌, ◌∙◌, subst, sym}
use Rattle.std.proofs.Math.Logic.{∥∥₁_map}
use Rattle.core_model.specs.Events.{Event, Refused}
use Rattle.core_parts.specs.declared.parts.Ticket.{Ticket}
use Rattle.locked_core.specs.Locked.{locked_of}
use Rattle.threads_sessions.specs.Steps.{committed, ended}
use Rattle.threads_sessions.specs.Values.{SessionValue}
use Rattle.shared.specs.AtOnce.{at_step, IsChanging, IsLeft, last_calls}
use Rattle.shared.proofs.AtOnce.{commit_refused, commit_served, committed_one, if_ok_then, on_err_then}
use Rattle.shared.proofs.shared.Shared.commit_held.Goals as goal

pub returns-in-Some : goal.returns-in-Some
returns-in-Some g c =
    let t = c.args.txn in
    let e = c.in-Some.error in
    record {
      committed = tt;
      served = tt;
      refused = λ first reply started.
          ∥∥₁_map c.in-Some.ensures.served (λ s. (last_calls t s.0 (Event.Step t) (Refused e), at_step t first e reply s.0 started, s.1));
      left = record {
        others = c.finish_held.ensures.others;
        active = (c.finish_held.ensures.changing c.requires.0 c.requires.1).active;
      };
      number = c.finish_held.ensures.number;
    }

pub commit-requires-clause-ready : goal.commit-requires-clause-ready
commit-requires-clause-ready g c = λ _. (c.finish_held.ensures.changing c.requires.0 c.requires.1).ready c.in_default.ensures.finished

pub returns : goal.returns
returns g c =
    let t = c.args.txn in
    let first = c.finish_held in
    let last = c.commit in
    let now : IsChanging first.new.part.session t c.requires.0 = first.ensures.changing c.requires.0 c.requires.1 in
    let old = (locked_of c.args.locked.now).core in
    let between = (locked_of first.new.locked).core in
    let new = (locked_of last.new.self).core in
    let sv = last.ensures.served now.active in
    record {
      committed = if_ok_then _ _ last.result (λ (ticket : Ticket) (is : last.new.seat.session ≡ committed first.new.part.session t ticket) change was.
          committed_one t change ticket (ended c.args.part.now.session t) first.new.part.session last.new.seat.session first.ensures.others
          ((first.ensures.changing change was).made c.in_default.ensures.finished) is) last.ensures.ok;
      served = commit_served t old between new c.in_default.ensures.served last.result sv;
      refused = commit_refused t old between new c.in_default.ensures.served last.result sv;
      left = on_err_then _ _ last.result (λ (same : last.new.seat.session ≡ first.new.part.session).
          subst (λ (s : SessionValue). IsLeft (ended c.args.part.now.session t) t s) (sym same) (record { others = first.ensures.others; active = now.active }))
          last.ensures.refused;
      number = last.ensures.number ∙ first.ensures.number;
    }

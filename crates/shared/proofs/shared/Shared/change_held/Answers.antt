use Rattle.std.proofs.Common.{◌∙◌, ◌∷◌, [], ap, refl, subst}
use Rattle.std.proofs.Math.Logic.{∥∥₁_map}
use Rattle.std.proofs.lemmas.Result.{err_from_is_err_and}
use Rattle.core_model.specs.Events.{Refused}
use Rattle.locked_core.specs.Locked.{locked_of}
use Rattle.threads_sessions.specs.Values.{SessionValue}
use Rattle.shared.specs.AtOnce.{answer_of, at_change, change_of, event_of, IsLeft, with_commit}
use Rattle.shared.proofs.AtOnce.{change_started}
use Rattle.shared.proofs.shared.Shared.change_held.Goals as goal

pub returns-in_err-rid : goal.returns-in_err-rid
returns-in_err-rid g c =
    let p = err_from_is_err_and c.from_residual.result c.from_residual.ensures.1 in
    let t = c.args.txn in
    let e = c.in_err-rid.field-0.0 in
    let first = event_of c.args.asked t in
    rw (p.1, p.2) (record {
      committed = tt;
      served = tt;
      refused = ∣ ((first, Refused e) ∷ [], at_change t first e, ((locked_of c.start_held.new.locked).core, c.in_err-rid.ensures.served, refl)) ∣₁;
      left = c.start_held.ensures.left;
      number = c.start_held.ensures.number;
    })

pub commit_held-requires : goal.commit_held-requires
commit_held-requires g c = (change_of c.args.asked c.in_ok-rid.rid, c.in_ok-rid.ensures.changing)

pub returns-in_err-ticket : goal.returns-in_err-ticket
returns-in_err-ticket g c =
    let p = err_from_is_err_and c.from_residual-in_err-ticket.result c.from_residual-in_err-ticket.ensures.1 in
    let t = c.args.txn in
    let first = event_of c.args.asked t in
    let reply = answer_of c.args.asked c.in_ok-rid.rid in
    let begun = c.start_held in
    rw (p.1, p.2) (record {
      committed = tt;
      served = tt;
      refused = ∥∥₁_map (c.in_err-ticket.ensures.refused first reply (change_started c.args.asked t c.in_ok-rid.rid)) (λ r.
          ((first, reply) ∷ r.0, r.1, ((locked_of begun.new.locked).core, c.in_ok-rid.ensures.served, r.2)));
      left = subst (λ (s : SessionValue). IsLeft s t c.commit_held.new.part.session) begun.ensures.left.others c.in_err-ticket.ensures.left;
      number = c.commit_held.ensures.number ∙ begun.ensures.number;
    })

pub returns : goal.returns
returns g c =
    let change = change_of c.args.asked c.in_ok-rid.rid in
    let begun = c.start_held in
    record {
      committed = c.in_ok-ticket.ensures.committed change c.in_ok-rid.ensures.changing
          ∙ ap (λ (s : SessionValue). with_commit s c.in_ok-ticket.ticket change) begun.ensures.left.others;
      served = ∥∥₁_map c.in_ok-ticket.ensures.served (λ s. (s.0, ((locked_of begun.new.locked).core, c.in_ok-rid.ensures.served, s.1)));
      refused = tt;
      left = tt;
      number = c.commit_held.ensures.number ∙ begun.ensures.number;
    }

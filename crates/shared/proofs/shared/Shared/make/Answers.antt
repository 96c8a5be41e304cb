use Rattle.std.proofs.Common.{◌≡◌, None, refl}
use Rattle.threads_sessions.specs.Values.{SessionValue}
use Rattle.shared.specs.AtOnce.{change_of, with_commit}
use Rattle.shared.specs.declared.one_change.Placed.{Placed}
use Rattle.shared.specs.declared.one_change.Refusal.{Refusal}
use Rattle.shared.proofs.AtOnce.{if_err_then, if_ok_then}
use Rattle.shared.proofs.SameSeat.{any_session, same_session, with_session}
use Rattle.shared.proofs.shared.Shared.make.Goals as goal

pub returns : goal.returns
returns g c =
    let part = c.seat.inside.part in
    let view = c.seat.inside.view in
    let step = c.make_held-made in
    let now = step.new.part in
    rw (← c.seat.view_is) (record {
      committed = if_ok_then _ _ step.result (λ (made : Placed) (is : now.session ≡ with_commit part.session made.ticket (change_of c.args.asked made.rid)).
          with_session part now view _ refl step.ensures.number (λ (s : SessionValue). with_commit s made.ticket (change_of c.args.asked made.rid)) is)
          step.ensures.committed;
      made = step.ensures.made;
      refused = step.ensures.refused;
      nothing_stays = if_err_then _ _ step.result (λ (r : Refusal) (is : r.left ≡ None → now.session ≡ part.session) none.
          same_session part now view _ refl step.ensures.number (is none)) step.ensures.nothing_stays;
      left = step.ensures.left;
      why_left = step.ensures.why_left;
      seat = any_session part now view _ refl step.ensures.number;
    })

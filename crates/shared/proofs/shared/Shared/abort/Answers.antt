use Rattle.std.proofs.Common.{◌≡◌, ◌∙◌, ◌⊎◌, ap, inl, refl, subst, sym, true}
use Rattle.std.proofs.Math.Logic.{∥∥₁_map₂}
use Rattle.std.proofs.lemmas.Bool.{false≢true}
use Rattle.std.proofs.lemmas.Result.{err_from_is_err_and}
use Rattle.core_model.specs.Events.{Event, Refused}
use Rattle.threads_sessions.specs.Values.{is_active}
use Rattle.shared.specs.Seats.{SeatValue}
use Rattle.shared.specs.Served.{WasServedTo, WasTakenBack, WasUndone}
use Rattle.shared.proofs.Backward.{back_ended, back_more, back_stays}
use Rattle.shared.proofs.Undone.{none_undone, stays_undone, step_undone}
use Rattle.shared.proofs.SameSeat.{again_alone, still_alone}
use Rattle.shared.proofs.shared.Shared.abort.Goals as goal

pub returns-then-not-is_active : goal.returns-then-not-is_active
returns-then-not-is_active g c =
    rw (← c.seat.view_is) (record {
      foreign = λ _. (refl, refl);
      ok = tt;
      aborted = tt;
      err = inl refl;
      undone = ∣ none_undone g.B.Group.site.opened c.seat.inside.part.number c.args.txn c.seat.inside.part.session c.seat.inside.part.session refl ∣₁;
      served = λ own. absurd (false≢true (c.if-not-is_active.ensures ∙ own));
      seat = refl;
    })

pub loop-init : goal.loop-init
loop-init g c =
    rw (← c.seat.view_is) (record {
      seat = refl;
      own = sym c.if-not-is_active.ensures;
      back = inl refl;
      undone = ∣ none_undone g.B.Group.site.opened c.seat.inside.part.number c.args.txn c.seat.inside.part.session c.seat.inside.part.session refl ∣₁;
    })

pub take_back-requires : goal.take_back-requires
take_back-requires g c = c.loop.invariant.own

pub returns-in_err-last : goal.returns-in_err-last
returns-in_err-last g c =
    let p = err_from_is_err_and c.from_residual.result c.from_residual.ensures.1 in
    let o = g.B.Group.site.opened in
    let t = c.args.txn in
    let first = c.args.seat.now in
    let was = c.loop.seat in
    let new = c.take_back.new.seat in
    let e = c.in_err-last.field-0.0 in
    let same = ap (λ (s : SeatValue). s.session) c.in_err-last.ensures.refused in
    let own : is_active first.session t ≡ true = ap (λ (s : SeatValue). is_active s.session t) (sym c.seat.view_is) ∙ sym c.if-not-is_active.ensures in
    rw (p.1, p.2) (record {
      foreign = λ none. absurd (false≢true (sym none ∙ own));
      ok = tt;
      aborted = tt;
      err = back_stays t first.session was.session new.session c.loop.invariant.back same;
      undone = stays_undone o first.number t first.session was.session new.session c.loop.invariant.undone same;
      served = λ _. subst (λ (s : SeatValue). ∥ WasServedTo o s.number s.session (Event.End t) (Refused e) ∥₁
          ⊎ ∥ WasServedTo o s.number s.session (Event.Undo t) (Refused e) ∥₁) (sym c.in_err-last.ensures.refused) c.in_err-last.ensures.served;
      seat = still_alone first was new c.loop.invariant.seat c.in_err-last.ensures.refused;
    })

pub returns-then-last : goal.returns-then-last
returns-then-last g c =
    let o = g.B.Group.site.opened in
    let t = c.args.txn in
    let first = c.args.seat.now in
    let was = c.loop.seat in
    let new = c.take_back.new.seat in
    let own : is_active first.session t ≡ true = ap (λ (s : SeatValue). is_active s.session t) (sym c.seat.view_is) ∙ sym c.if-not-is_active.ensures in
    let taken = subst (λ n. ∥ WasTakenBack o n was.session t ∥₁) (ap (λ (s : SeatValue). s.number) c.loop.invariant.seat)
    (c.in_ok-last.ensures.taken c.if-last.true) in
    record {
      foreign = λ none. absurd (false≢true (sym none ∙ own));
      ok = back_ended t first.session was.session new.session c.loop.invariant.back (c.in_ok-last.ensures.last c.if-last.true);
      aborted = ∥∥₁_map₂ c.loop.invariant.undone taken (λ undone a.
          record { last = was.session; back = c.loop.invariant.back; undone = undone; taken = a });
      err = tt;
      undone = tt;
      served = tt;
      seat = again_alone first was new c.loop.invariant.seat c.take_back.ensures.seat;
    }

pub loop-preserved : goal.loop-preserved
loop-preserved g c =
    let was = c.loop.invariant in
    let step = c.in_ok-last.ensures.back c.if-last.false in
    let o = g.B.Group.site.opened in
    let n = c.args.seat.now.number in
    let undone = subst (λ m. ∥ WasUndone o m c.loop.seat.session c.args.txn c.take_back.new.seat.session ∥₁) (ap (λ (s : SeatValue). s.number) was.seat)
    (c.in_ok-last.ensures.undone c.if-last.false) in
    record {
      seat = again_alone c.args.seat.now c.loop.seat c.take_back.new.seat was.seat c.take_back.ensures.seat;
      own = step.active;
      back = back_more c.args.txn c.args.seat.now.session c.loop.seat.session c.take_back.new.seat.session was.back step;
      undone = step_undone o n c.args.txn c.args.seat.now.session c.loop.seat.session c.take_back.new.seat.session was.undone undone;
    }

use Rattle.std.proofs.Common.{Some, refl}
use Rattle.std.proofs.lemmas.Result.{err_from_is_err_and}
use Rattle.core_model.specs.Events.{Event}
use Rattle.shared.proofs.Made.{all_made, changed_on}
use Rattle.shared.proofs.SameSeat.{again_alone, err_also, ok_no_err}
use Rattle.shared.proofs.shared.Shared.update.Goals as goal

pub returns-in_err-start_update : goal.returns-in_err-start_update
returns-in_err-start_update g c =
    let p = err_from_is_err_and c.from_residual.result c.from_residual.ensures.1 in
    let is = c.in_err-start_update.ensures in
    rw (p.1, p.2) (record {
      foreign = λ none. err_also _ _ (is.foreign none);
      served = is.served;
      place = tt;
      changed = tt;
      row = tt;
      rest = tt;
      refused = is.refused;
      seat = c.start_update.ensures.seat;
    })

pub returns : goal.returns
returns g c =
    let first = c.args.seat.now in
    let begun = c.in_ok-start_update.ensures in
    let started = c.start_update.new.seat in
    let finished = c.finish_change-rest in
    record {
      foreign = λ none. absurd (ok_no_err _ _ (begun.foreign none));
      served = begun.served;
      place = refl;
      changed = all_made c.args.txn (record { rid = c.args.rid; row = Some (record { key = c.args.key; body = c.args.body }) }) first.session
          started.session finished.new.seat.session finished.result begun.ok finished.ensures.none finished.ensures.changed;
      row = changed_on c.args.txn (record { rid = c.args.rid; row = Some (record { key = c.args.key; body = c.args.body }) }) g.B.Group.site.opened
          first.number (Event.Update c.args.txn c.args.rid (record { key = c.args.key; body = c.args.body })) first.session
          started.session finished.new.seat.session finished.result begun.ok finished.ensures.none finished.ensures.changed begun.row;
      rest = finished.ensures.served;
      refused = tt;
      seat = again_alone first started finished.new.seat c.start_update.ensures.seat finished.ensures.seat;
    }

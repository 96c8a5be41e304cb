use Rattle.std.proofs.Common.{Some}
use Rattle.std.proofs.lemmas.Result.{err_from_is_err_and}
use Rattle.shared.proofs.Made.{all_made, set_row}
use Rattle.shared.proofs.SameSeat.{again_alone, err_also, ok_no_err}
use Rattle.shared.proofs.shared.Shared.insert.Goals as goal

pub returns-in_err-rid : goal.returns-in_err-rid
returns-in_err-rid g c =
    let p = err_from_is_err_and c.from_residual.result c.from_residual.ensures.1 in
    let is = c.in_err-rid.ensures in
    rw (p.1, p.2) (record {
      foreign = λ none. err_also _ _ (is.foreign none);
      served = is.served;
      changed = tt;
      row = tt;
      rest = tt;
      refused = is.refused;
      seat = c.start_insert.ensures.seat;
    })

pub returns : goal.returns
returns g c =
    let first = c.args.seat.now in
    let begun = c.in_ok-rid.ensures in
    let started = c.start_insert.new.seat in
    let finished = c.finish_change-rest in
    record {
      foreign = λ none. absurd (ok_no_err _ _ (begun.foreign none));
      served = begun.served;
      changed = all_made c.args.txn (record { rid = c.in_ok-rid.rid; row = Some (record { key = c.args.key; body = c.args.body }) }) first.session
          started.session finished.new.seat.session finished.result begun.ok finished.ensures.none finished.ensures.changed;
      row = set_row c.args.txn (record { rid = c.in_ok-rid.rid; row = Some (record { key = c.args.key; body = c.args.body }) }) first.session
          started.session finished.new.seat.session finished.result begun.ok finished.ensures.none finished.ensures.changed begun.row;
      rest = finished.ensures.served;
      refused = tt;
      seat = again_alone first started finished.new.seat c.start_insert.ensures.seat finished.ensures.seat;
    }

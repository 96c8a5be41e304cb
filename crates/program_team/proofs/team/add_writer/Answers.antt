use Rattle.std.proofs.Common.{◌≡◌, Err, List, Ok, OnOk, Result}
use Rattle.std.proofs.lemmas.Result.{IfOk-from_err}
use Rattle.std.specs.Bool.{if◌then◌else◌}
use Rattle.std.specs.Result.{is_ok}
use Rattle.program_team.proofs.Keeping.{on_ok}
use Rattle.program_team.proofs.team.add_writer.Goals as goal

-- what a call adds where it succeeds
on_ok_added : {T E X : Type 0} (r : Result T E) (new all old : List X) → new ≡ (if is_ok r then all else old) → OnOk r (new ≡ all)
on_ok_added (Ok t) new all old is = is
on_ok_added (Err e) new all old is = tt

pub returns-in_err-seat_added-clause-seats : goal.returns-in_err-seat_added-clause-seats
returns-in_err-seat_added-clause-seats g c = IfOk-from_err c.from_residual.result _ c.from_residual.ensures.0

pub returns-in_err-seat_added-clause-acks : goal.returns-in_err-seat_added-clause-acks
returns-in_err-seat_added-clause-acks g c = IfOk-from_err c.from_residual.result _ c.from_residual.ensures.0

pub returns-in_err-seat_added-clause-acknowledged : goal.returns-in_err-seat_added-clause-acknowledged
returns-in_err-seat_added-clause-acknowledged g c = IfOk-from_err c.from_residual.result _ c.from_residual.ensures.0

pub returns-in_err-acks_added-clause-seats : goal.returns-in_err-acks_added-clause-seats
returns-in_err-acks_added-clause-seats g c = IfOk-from_err c.from_residual-in_err-acks_added.result _ c.from_residual-in_err-acks_added.ensures.0

pub returns-in_err-acks_added-clause-acks : goal.returns-in_err-acks_added-clause-acks
returns-in_err-acks_added-clause-acks g c = IfOk-from_err c.from_residual-in_err-acks_added.result _ c.from_residual-in_err-acks_added.ensures.0

pub returns-in_err-acks_added-clause-acknowledged : goal.returns-in_err-acks_added-clause-acknowledged
returns-in_err-acks_added-clause-acknowledged g c =
    IfOk-from_err c.from_residual-in_err-acks_added.result _ c.from_residual-in_err-acks_added.ensures.0

pub returns-clause-seats : goal.returns-clause-seats
returns-clause-seats g c = on_ok c.append-rows_added.result c.in_ok-seat_added.ensures.items

pub returns-clause-acks : goal.returns-clause-acks
returns-clause-acks g c = on_ok c.append-rows_added.result c.in_ok-acks_added.ensures.items

pub returns-clause-acknowledged : goal.returns-clause-acknowledged
returns-clause-acknowledged g c = on_ok_added c.append-rows_added.result _ _ _ c.append-rows_added.ensures.items

use Rattle.program_team.proofs.Keeping.{changed_keeps, same_keeps}
use Rattle.program_team.proofs.rows.insert.Goals as goal

pub returns-in_err-change : goal.returns-in_err-change
returns-in_err-change g c = same_keeps _ _ c.in_err-change.ensures.refused

pub returns-in-Some : goal.returns-in-Some
returns-in-Some g c = changed_keeps c.args.seat.now c.insert.new.seat c.args.txn _ c.in_ok-change.change.rest c.insert.ensures.seat
    c.in_ok-change.ensures.changed

pub returns-in-None : goal.returns-in-None
returns-in-None g c = changed_keeps c.args.seat.now c.insert.new.seat c.args.txn _ c.in_ok-change.change.rest c.insert.ensures.seat
    c.in_ok-change.ensures.changed

use Rattle.program_team.proofs.Keeping.{adds_none, adds_one, keeps_adds, keeps_both, made_one}
use Rattle.program_team.proofs.writer.change.Goals as goal

pub returns-in_err-txn-clause-adds : goal.returns-in_err-txn-clause-adds
returns-in_err-txn-clause-adds g c = adds_none c.args.seat.now c.begin_without.new.seat c.begin_without.ensures

pub returns-in_err-rid-clause-adds : goal.returns-in_err-rid-clause-adds
returns-in_err-rid-clause-adds g c =
    adds_none c.args.seat.now c.insert.new.seat (keeps_both c.args.seat.now c.begin_without.new.seat c.insert.new.seat c.begin_without.ensures c.insert.ensures)

pub returns-in_err-told-clause-adds : goal.returns-in_err-told-clause-adds
returns-in_err-told-clause-adds g c =
    keeps_adds c.args.seat.now c.insert.new.seat c.commit_safely.new.seat
    (keeps_both c.args.seat.now c.begin_without.new.seat c.insert.new.seat c.begin_without.ensures c.insert.ensures)
    c.in_err-told.ensures.err

pub returns-clause-adds : goal.returns-clause-adds
returns-clause-adds g c =
    keeps_adds c.args.seat.now c.insert.new.seat c.commit_safely.new.seat
    (keeps_both c.args.seat.now c.begin_without.new.seat c.insert.new.seat c.begin_without.ensures c.insert.ensures)
    (adds_one c.insert.new.seat c.commit_safely.new.seat c.in_ok-told.told.0 c.in_ok-told.ensures.ok.0)

pub returns-clause-made : goal.returns-clause-made
returns-clause-made g c = (made_one c.insert.new.seat c.commit_safely.new.seat c.in_ok-told.told.0 c.in_ok-told.ensures.ok.0, c.in_ok-told.ensures.ok.1)

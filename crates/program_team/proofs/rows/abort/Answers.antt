use Rattle.program_team.proofs.Keeping.{abort_keeps}
use Rattle.program_team.proofs.rows.abort.Goals as goal

pub returns : goal.returns
returns g c = abort_keeps c.abort.result c.args.seat.now c.abort.new.seat c.args.txn c.abort.ensures.seat c.abort.ensures.ok c.abort.ensures.err

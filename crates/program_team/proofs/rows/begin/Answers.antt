use Rattle.std.proofs.Common.{refl}
use Rattle.threads_sessions.specs.Steps.{begun}
use Rattle.program_team.proofs.Keeping.{set_keeps}
use Rattle.program_team.proofs.rows.begin.Goals as goal

pub returns : goal.returns
returns g c = set_keeps c.begin.result c.args.seat.now c.begin.new.seat (λ txn. begun c.args.seat.now.session txn) (λ txn.
    refl) c.begin.ensures.ok c.begin.ensures.refused

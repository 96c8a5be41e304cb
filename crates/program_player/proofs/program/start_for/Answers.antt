use Rattle.program_player.proofs.Started.{starts_for}
use Rattle.program_player.proofs.program.start_for.Goals as goal

pub returns-clause-starts : goal.returns-clause-starts
returns-clause-starts c =
    starts_for c.args.arguments.now c.sectors_for-sectors.result c.args.geometry c.in_ok-fails_at.fails_at c.start.result
    c.requires c.sectors_for-sectors.ensures c.in_ok-fails_at.ensures.cut c.start.ensures.starts

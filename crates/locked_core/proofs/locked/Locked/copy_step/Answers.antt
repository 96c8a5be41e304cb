use Rattle.locked_core.proofs.Copied.{piece_now}
use Rattle.locked_core.proofs.locked.Locked.copy_step.Goals as goal
use Rattle.locked_core.specs.Locked.{locked_of}

pub returns-clause-piece : goal.returns-clause-piece
returns-clause-piece g c = piece_now g.B.Group.site.opened
    (locked_of c.args.self.now) c.each_hold.ensures.cells c.args.place c.copy_step.result c.copy_step.ensures.number c.copy_step.ensures.piece

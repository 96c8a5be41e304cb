use Rattle.locked_core.proofs.Copied.{whole_now}
use Rattle.locked_core.proofs.locked.Locked.copy_whole.Goals as goal
use Rattle.locked_core.specs.Locked.{locked_of}

pub returns-clause-whole : goal.returns-clause-whole
returns-clause-whole g c = whole_now g.B.Group.site.opened
    (locked_of c.args.self.now) c.each_hold.ensures.cells c.copy_whole.result c.copy_whole.ensures.number c.copy_whole.ensures.whole

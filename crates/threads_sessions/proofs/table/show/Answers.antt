use Rattle.std.proofs.Common.{rules, arith}
use Rattle.threads_sessions.proofs.Keeps.{changes}
use Rattle.threads_sessions.proofs.table.show.Goals as goal

pub load-requires : goal.load-requires
load-requires g c = (search rules, omega arith, changes _ _ _ _ c.requires.both)

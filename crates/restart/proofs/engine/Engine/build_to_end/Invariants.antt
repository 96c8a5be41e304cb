use Rattle.restart.proofs.Ended.{HasBuilt}
use Rattle.restart.proofs.ToEnd.{work_of}
use Rattle.restart.specs.Parts.{core_of}
use Rattle.restart.proofs.engine.Engine.build_to_end.Given as goal

abbrev pub invariant-steps : goal.invariant-steps
invariant-steps g l = HasBuilt l.fn.self l.self-inside.parts l.scanned

abbrev pub decreases-steps : goal.decreases-steps
decreases-steps g l = work_of (core_of l.self-inside.parts) l.scanned

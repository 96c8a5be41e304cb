use Rattle.std.proofs.Common.{rules}
use Rattle.model.proofs.life.Life.redo.Goals as goal

pub returns-in-OfIndex-BuildCheckpoint : goal.returns-in-OfIndex-BuildCheckpoint
returns-in-OfIndex-BuildCheckpoint c = search rules

pub returns-in-OfIndex-Create : goal.returns-in-OfIndex-Create
returns-in-OfIndex-Create c = search rules

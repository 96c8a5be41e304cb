use Rattle.std.proofs.Common.{rules}
use Rattle.model.proofs.life.Life.allows.Goals as goal

pub returns-in-Create : goal.returns-in-Create
returns-in-Create c = search rules

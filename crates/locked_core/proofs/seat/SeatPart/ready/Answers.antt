use Rattle.std.proofs.Common.{rules}
use Rattle.locked_core.proofs.seat.SeatPart.ready.Goals as goal

pub returns : goal.returns
returns g c = search rules

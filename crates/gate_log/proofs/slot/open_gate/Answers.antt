use Rattle.std.proofs.Common.{rules}
use Rattle.gate_log.proofs.slot.open_gate.Goals as goal

pub returns-clause-opened : goal.returns-clause-opened
returns-clause-opened g c = search rules

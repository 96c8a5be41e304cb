use Rattle.std.proofs.Common.{rules}
use Rattle.program_values.proofs.given.fate_named.Goals as goal

pub returns-in-zero : goal.returns-in-zero
returns-in-zero c = search rules

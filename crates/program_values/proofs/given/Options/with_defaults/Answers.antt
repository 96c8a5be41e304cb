use Rattle.std.proofs.Common.{rules}
use Rattle.program_values.proofs.given.Options.with_defaults.Goals as goal

pub returns : goal.returns
returns c = search rules

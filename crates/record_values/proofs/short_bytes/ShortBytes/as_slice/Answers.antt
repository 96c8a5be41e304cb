use Rattle.std.proofs.Common.{rules}
use Rattle.record_values.proofs.short_bytes.ShortBytes.as_slice.Goals as goal

pub returns-clause-value : goal.returns-clause-value
returns-clause-value g c = search rules

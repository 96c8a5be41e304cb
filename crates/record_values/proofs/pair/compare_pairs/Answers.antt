use Rattle.std.proofs.Common.{rules}
use Rattle.record_values.proofs.pair.compare_pairs.Goals as goal

pub returns : goal.returns
returns c = search rules

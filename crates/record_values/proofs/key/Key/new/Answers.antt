use Rattle.std.proofs.Common.{rules}
use Rattle.record_values.proofs.key.Key.new.Goals as goal

pub returns-clause-fits : goal.returns-clause-fits
returns-clause-fits c = search rules

pub returns-clause-ok : goal.returns-clause-ok
returns-clause-ok c = search rules

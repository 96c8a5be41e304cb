use Rattle.std.proofs.Common.{rules}
use Rattle.record_values.proofs.key.Body.new.Goals as goal

pub returns-in_err-bytes-clause-too_long : goal.returns-in_err-bytes-clause-too_long
returns-in_err-bytes-clause-too_long c = search rules

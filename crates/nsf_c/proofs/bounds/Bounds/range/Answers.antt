use Rattle.std.proofs.Common.{rules}
use Rattle.nsf_c.proofs.bounds.Bounds.range.Goals as goal

pub returns-in_err-to-clause-bad : goal.returns-in_err-to-clause-bad
returns-in_err-to-clause-bad c = search rules

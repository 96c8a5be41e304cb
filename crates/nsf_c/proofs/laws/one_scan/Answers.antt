use Rattle.std.proofs.Common.{◌<◌}
use Rattle.nsf_c.proofs.Reasons.{one_reason}
use Rattle.nsf_c.proofs.laws.one_scan.Goals as goal

pub returns-clause-bad : goal.returns-clause-bad
returns-clause-bad c b from to behind m n p q = one_reason b from to behind (1 < b.committed) m n p q

pub returns-clause-bad_back : goal.returns-clause-bad_back
returns-clause-bad_back c b from to ahead m n p q = one_reason b from to ahead (0 < b.committed) m n p q

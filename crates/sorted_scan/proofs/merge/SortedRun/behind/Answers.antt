use Rattle.std.proofs.Common.{rules}
use Rattle.sorted_scan.proofs.merge.SortedRun.behind.Goals as goal

pub returns : goal.returns
returns g c = search rules

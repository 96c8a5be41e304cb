use Rattle.std.proofs.Common.{rules}
use Rattle.sorted_scan.proofs.scan.Scan.new.Goals as goal

pub returns-clause-made : goal.returns-clause-made
returns-clause-made g c = search rules

use Rattle.std.proofs.Common.{rules}
use Rattle.sorted_scan.proofs.scan.Scan.wants_page.Goals as goal

pub returns-then-self-clause-page : goal.returns-then-self-clause-page
returns-then-self-clause-page g c = search rules

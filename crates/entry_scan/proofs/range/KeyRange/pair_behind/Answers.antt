use Rattle.entry_scan.proofs.KeyOrder.{behind_excluded, behind_some}
use Rattle.entry_scan.proofs.range.KeyRange.pair_behind.Goals as goal

pub returns-in-Included : goal.returns-in-Included
returns-in-Included c = λ p within. behind_some c.args.self.now.from c.args.self.now.to _ c.behind_key.result p c.in-Included.is c.behind_key.ensures within

pub returns-in-Excluded : goal.returns-in-Excluded
returns-in-Excluded c = λ p within. behind_excluded c.args.self.now.from c.args.self.now.to _ p c.in-Excluded.is within

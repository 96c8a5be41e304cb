use Rattle.entry_scan.proofs.KeyOrder.{before_excluded, before_some}
use Rattle.entry_scan.proofs.range.KeyRange.pair_before.Goals as goal

pub returns-in-Included : goal.returns-in-Included
returns-in-Included c = λ p within. before_some c.args.self.now.from c.args.self.now.to _ c.before_key.result p c.in-Included.is c.before_key.ensures within

pub returns-in-Excluded : goal.returns-in-Excluded
returns-in-Excluded c = λ p within. before_excluded c.args.self.now.from c.args.self.now.to _ p c.in-Excluded.is within

use Rattle.std.proofs.Common.{rules}
use Rattle.sorted_scan.proofs.Handing.{next_pair, at_end}
use Rattle.sorted_scan.proofs.scan.Scan.next.Goals as goal

pub returns-clause-next : goal.returns-clause-next
returns-clause-next g c = next_pair _ _ _ _ _ _ c.self.invariant c.if-self.false _ c.self.view_is c.first.result c.first.ensures

pub returns-clause-end : goal.returns-clause-end
returns-clause-end g c = at_end _ _ _ _ _ _ c.self.invariant c.if-self.false _ c.self.view_is c.first.result c.first.ensures

pub returns-clause-pair : goal.returns-clause-pair
returns-clause-pair g c = search rules

use Rattle.entry_scan.proofs.Listed.{visible_each, visible_sorted}
use Rattle.entry_scan.proofs.laws.each_visible.Goals as goal

pub returns-clause-ascending : goal.returns-clause-ascending
returns-clause-ascending c = visible_sorted

pub returns-clause-each : goal.returns-clause-each
returns-clause-each c = visible_each

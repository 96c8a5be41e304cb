use Rattle.nsf_core.specs.Value.{value_of}
use Rattle.core_parts.proofs.Building.{idle, no_index}
use Rattle.nsf_core.proofs.Kept.{served_safe}
use Rattle.nsf_core.proofs.store.Core.build_step.Goals as goal

pub returns-in-Absent : goal.returns-in-Absent
returns-in-Absent g c = no_index (value_of c.args.self.now) c.in-Absent.is

pub returns-in-Complete : goal.returns-in-Complete
returns-in-Complete g c = idle (value_of c.args.self.now) c.in-Complete.is

pub invariant_of-self : goal.invariant_of-self
invariant_of-self g c = record { safe = served_safe _ _ _ _ c.build_on.ensures c.args.self.now.safe }

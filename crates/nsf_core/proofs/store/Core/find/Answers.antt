use Rattle.nsf_core.specs.Value.{value_of}
use Rattle.core_parts.proofs.Finding.{find_serves, not_built, nothing_to_find}
use Rattle.nsf_core.proofs.store.Core.find.Goals as goal

pub returns-in-Absent : goal.returns-in-Absent
returns-in-Absent g c = nothing_to_find (value_of c.args.self.now) c.args.key c.in-Absent.is

pub returns-in-Building : goal.returns-in-Building
returns-in-Building g c = not_built (value_of c.args.self.now) c.args.key _ c.in-Building.is

pub returns-in-Complete : goal.returns-in-Complete
returns-in-Complete g c = find_serves (λ v. v.items)
    (value_of c.args.self.now) c.args.key c.in-Complete.is _ c.live_of.ensures.in_order c.live_of.ensures.each c.live_of.ensures.no_memory

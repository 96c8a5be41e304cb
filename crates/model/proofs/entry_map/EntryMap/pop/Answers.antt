use Rattle.std.proofs.Common.{arith}
use Rattle.std.proofs.lemmas.Grind.{common_steps}
use Rattle.record_values.specs.Maps.{pair_exact}
use Rattle.model.proofs.MapLaws.{popped_fewer, popped_taken, popped_there}
use Rattle.model.proofs.entry_map.EntryMap.pop.Goals as goal

pub returns-clause-some : goal.returns-clause-some
returns-clause-some g c = popped_there pair_exact c.self.inside.marks c.pop_first.new.self c.args.self.now c.self.view_is c.pop_first.result
    c.pop_first.ensures.removal

pub returns-clause-taken : goal.returns-clause-taken
returns-clause-taken g c = popped_taken pair_exact c.self.inside.marks c.pop_first.new.self c.args.self.now c.self.view_is c.pop_first.result
    c.pop_first.ensures.updates

pub returns-clause-fewer : goal.returns-clause-fewer
returns-clause-fewer g c = popped_fewer pair_exact c.self.inside.marks c.pop_first.new.self c.args.self.now c.self.view_is c.pop_first.result
    c.pop_first.ensures.removal c.pop_first.ensures.updates

pub returns-clause-none : goal.returns-clause-none
returns-clause-none g c = grind (arith, common_steps)

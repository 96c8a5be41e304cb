use Rattle.std.proofs.Common.{arith}
use Rattle.std.proofs.lemmas.Grind.{common_steps}
use Rattle.record_values.specs.Maps.{rid_exact}
use Rattle.model.proofs.MapLaws.{popped_fewer, popped_taken, popped_there}
use Rattle.model.proofs.row_map.RowMap.pop.Goals as goal

pub returns-clause-some : goal.returns-clause-some
returns-clause-some g c = popped_there rid_exact c.self.inside.rows c.pop_first.new.self c.args.self.now c.self.view_is c.pop_first.result
    c.pop_first.ensures.removal

pub returns-clause-taken : goal.returns-clause-taken
returns-clause-taken g c = popped_taken rid_exact c.self.inside.rows c.pop_first.new.self c.args.self.now c.self.view_is c.pop_first.result
    c.pop_first.ensures.updates

pub returns-clause-fewer : goal.returns-clause-fewer
returns-clause-fewer g c = popped_fewer rid_exact c.self.inside.rows c.pop_first.new.self c.args.self.now c.self.view_is c.pop_first.result
    c.pop_first.ensures.removal c.pop_first.ensures.updates

pub returns-clause-none : goal.returns-clause-none
returns-clause-none g c = grind (arith, common_steps)

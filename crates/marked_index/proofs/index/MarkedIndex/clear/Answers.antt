use Rattle.std.proofs.Common.{ap, arith}
use Rattle.std.specs.FinMap as map
use Rattle.record_values.specs.Orders.{pair_cmp}
use Rattle.record_values.specs.declared.pair.Mark.{Mark}
use Rattle.marked_index.proofs.index.MarkedIndex.clear.Goals as goal

pub invariant_of-self : goal.invariant_of-self
invariant_of-self g c = record {
  within = omega (arith, ap map.len c.take.ensures.empty, map.len-empty pair_cmp Mark, c.self.invariant.within);
  most = c.self.invariant.most;
}

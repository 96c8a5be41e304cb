use Rattle.std.proofs.Common.{ap, arith}
use Rattle.std.specs.FinMap as map
use Rattle.record_values.specs.Orders.{pair_cmp}
use Rattle.record_values.specs.declared.pair.Mark.{Mark}
use Rattle.marked_index.proofs.index.MarkedIndex.with_room.Goals as goal

pub invariant_of-result : goal.invariant_of-result
invariant_of-result g c = record {
  within = omega (arith, ap map.len c.new.ensures, map.len-empty pair_cmp Mark);
  most = c.requires;
}

use Rattle.std.proofs.Common.{take}
use Rattle.nsf_index_c.specs.Building.{ArePairs}
use Rattle.nsf_index_c.proofs.building.read.Given as goal

abbrev pub invariant-loop-given : goal.invariant-loop-given
invariant-loop-given l = ArePairs (take l.given-index l.pairs) l.read.items

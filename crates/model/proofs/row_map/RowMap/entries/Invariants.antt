use Rattle.std.proofs.Common.{◌≡◌, ◌++◌}
use Rattle.std.specs.FinMap as map
use Rattle.model.proofs.row_map.RowMap.entries.Given as goal

abbrev pub invariant-loop-rid : goal.invariant-loop-rid
invariant-loop-rid g l = l.entries.items ++ l.rid-iterator ≡ map.entries l.self

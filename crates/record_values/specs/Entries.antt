-- The entries of an index.
use Rattle.std.specs.FinMap.{FinMap}
use Rattle.record_values.specs.Orders.{pair_cmp}
use Rattle.record_values.specs.declared.pair.Mark.{Mark}

-- the entries of the index, each with its mark
abbrev pub Index : Type 0
Index = FinMap pair_cmp Mark

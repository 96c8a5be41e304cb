-- What becomes of a pair that is to be put into its leaf.
use Rattle.std.specs.Prelude.{ℕ, zero, suc, Option, Some, None}
use Rattle.record_values.specs.declared.pair.Mark.{Mark}
use Rattle.btree_node.specs.declared.placing.InLeaf.{InLeaf}
use Rattle.btree_node.specs.declared.placing.InLeaf.TheVariants.{Added, Found, NoRoom}

-- what becomes of one with this mark, or none, whose insertion takes so many nodes
abbrev pub outcome : Option Mark → ℕ → InLeaf
outcome (Some mark) nodes = Found mark
outcome None zero = Added
outcome None (suc n) = NoRoom

-- The map that a tree holds.
use Rattle.std.specs.Prelude.{List, map}
use Rattle.std.specs.FinMap.{FinMap, from_entries}
use Rattle.record_values.specs.Orders.{pair_cmp}
use Rattle.record_values.specs.declared.pair.Pair.{Pair}
use Rattle.record_values.specs.declared.pair.Mark.{Mark}
use Rattle.node_parts.specs.declared.Entry.{Entry}
use Rattle.node_parts.specs.Tree.{Tree, entries}

-- entries as pairs with their marks
abbrev pub marks_of : List Entry → List (Pair × Mark)
marks_of es = map (λ e. (e.pair, e.mark)) es

-- the map from pair to mark whose entries a tree has
unfoldable pub contents : Tree → FinMap pair_cmp Mark
contents t = from_entries (marks_of (entries t))

-- What a removal leaves.
use Rattle.std.specs.Prelude.{List, [], ◌∷◌, cond}
use Rattle.std.specs.Ordering.{is_eq}
use Rattle.record_values.specs.declared.pair.Pair.{Pair}
use Rattle.node_parts.specs.declared.Entry.{Entry}
use Rattle.node_parts.specs.Order.{order}

-- the entries but for that of a pair
abbrev pub without : List Entry → Pair → List Entry
without [] p = []
without (e ∷ es) p = cond (is_eq (order e.pair p)) (without es p) (e ∷ without es p)

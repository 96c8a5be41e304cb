-- Rows of children.
use Rattle.std.specs.Prelude.{List, [], map}
use Rattle.node_parts.specs.Tree.{Tree, leaf, branch, trees_of, forest_of, forest_entries}
use Rattle.node_parts.specs.declared.Child.{Child}
use Rattle.node_parts.specs.declared.Entry.{Entry}

-- the trees of children, in order
abbrev pub trees : {A : Type 0} → List (Child A) → List Tree
trees cs = map (λ c. c.node.value) cs

-- the entries of children, in order
abbrev pub row_entries : {A : Type 0} → List (Child A) → List Entry
row_entries cs = forest_entries (forest_of (trees cs))

-- the trees below a node
abbrev pub branches : Tree → List Tree
branches (leaf es) = []
branches (branch f) = trees_of f

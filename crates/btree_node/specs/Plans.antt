-- Which ways and plans serve which trees.
use Rattle.btree_node.specs.declared.limits.TheConstants.{ENTRIES_MAX}
use Rattle.std.specs.Prelude.{◌≡◌, ℕ, ◌<◌, List, Option, length}
use Rattle.record_values.specs.declared.pair.Pair.{Pair}
use Rattle.record_values.specs.declared.pair.Mark.{Mark}
use Rattle.node_parts.specs.Tree.{Tree, entries}
use Rattle.btree_node.specs.Path.{top_path}
use Rattle.btree_node.specs.Top.{nodes_for}
use Rattle.btree_node.specs.Grown.{Nodes, AreEnough}

-- what a way is seen as: its pair, the places on it, how many nodes the pair's insertion takes, the pair's mark, if it
-- has an entry, and how many nodes were visited
pub record Walked : Type 0 where
  pub pair : Pair
  pub path : List ℕ
  pub nodes : ℕ
  pub mark : Option Mark
  pub visits : ℕ

-- the way leads to where its pair belongs in this tree, and knows how many nodes the insertion there takes
pub record IsWayIn (tree : Tree) (way : Walked) : Type 0 where
  pub places : way.path ≡ top_path tree way.pair
  pub counted : way.nodes ≡ nodes_for tree way.pair

-- what a plan is seen as: its pair, the places on its way, and how many nodes it has at hand
pub record Planned : Type 0 where
  pub pair : Pair
  pub path : List ℕ
  pub spares : Nodes

-- the plan was made for this tree: the tree has room for an entry, the path leads to where the pair belongs in it, and
-- the nodes are enough
pub record IsPlanFor (tree : Tree) (plan : Planned) : Type 0 where
  pub room : length (entries tree) < ENTRIES_MAX
  pub way : plan.path ≡ top_path tree plan.pair
  pub enough : AreEnough (nodes_for tree plan.pair) plan.spares

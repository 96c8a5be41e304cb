-- Each child is lower than its parent.
use Rattle.std.specs.Prelude.{◌+◌, ◌≤◌, max, ◌∷◌, List, [], map}
use Rattle.std.proofs.Common.{arith}
use Rattle.std.specs.declared.alloc.Allocator.{Ghosts}
use denote.Param.Weighed.{most}
use Rattle.node_parts.specs.declared.NodeParts.{NodeParts}
use Rattle.node_parts.specs.declared.NodeParts.TheVariants.{Leaf, Inner}
use Rattle.node_parts.specs.declared.Child.{Child}
use Rattle.node_parts.specs.declared.Node.TheDeep.{deep-NodeParts, deep-Child}
use Rattle.node_parts.specs.Tree.{depth, forest_depth, forest_of}
use Rattle.node_parts.specs.Seen.{tree_of}

most_falls : {A : Type 0} (G : Ghosts A) (cs : List (Child A))
    → most (deep-Child A G) cs ≤ forest_depth (forest_of (map (λ c. c.node.value) cs)) + 1
most_falls G [] = omega arith
most_falls G (c ∷ cs) = omega (arith, most_falls G cs)

-- how deep a node's parts are nested is at most the depth of its tree
pub depth_falls : {A : Type 0} (G : Ghosts A) (n : NodeParts A) → max (deep-NodeParts A G n) 0 ≤ depth (tree_of n)
depth_falls G (Leaf es) = omega arith
depth_falls G (Inner cs) = omega (arith, most_falls G cs.items)

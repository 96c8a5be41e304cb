-- How far a way down a tree has come.
use Rattle.std.specs.Prelude.{ℕ, refl}
use Rattle.std.specs.Coded.{Coded, code_by, coded×, coded_ℕ}
use Rattle.node_parts.specs.Tree.{Tree, tree_code}

-- the node that a way has reached, and how many nodes it visited, this one included
pub record Reached : Type 0 where
  pub node : Tree
  pub visits : ℕ

-- how the logic stores it
abbrev pub coded_reached : Coded Reached
coded_reached = code_by (Tree × ℕ) (coded× tree_code coded_ℕ) (λ r. (r.node, r.visits)) (λ p.
    record { node = p.0; visits = p.1 }) (λ _. refl)

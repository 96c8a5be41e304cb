use Rattle.std.proofs.Common.{◌∙◌, ap, ◌++◌}
use Rattle.std.proofs.lemmas.List.{append-nil}
use Rattle.node_parts.specs.Tree.{entries}
use Rattle.node_parts.proofs.Neighbours.{no_entries}
use Rattle.btree_node.proofs.removal.level.Goals as goal

pub returns-then-count-le-FULL-clause-joined : goal.returns-then-count-le-FULL-clause-joined
returns-then-count-le-FULL-clause-joined g c =
    ap (λ w. entries c.merge.new.self ++ w) (no_entries _ c.merge.ensures.rest) ∙ append-nil _ ∙ c.merge.ensures.joined

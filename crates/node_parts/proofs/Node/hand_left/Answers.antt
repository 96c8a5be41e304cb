use Rattle.std.proofs.Common.{ap, sym, ◌≡◌, ℕ, List, ◌++◌, take, drop, ◌∙◌, append_assoc}
use Rattle.std.proofs.lemmas.List.{take-append-drop}
use Rattle.node_parts.specs.Tree.{entries}
use Rattle.node_parts.proofs.RowLemmas.{leaf_is}
use Rattle.node_parts.proofs.Node.hand_left.Goals as goal

joined_front : {X : Type 0} (ls rs ms ns : List X) (n : ℕ) → ms ≡ ls ++ take n rs → ns ≡ drop n rs → ms ++ ns ≡ ls ++ rs
joined_front ls rs ms ns n e f = ap (λ w. w ++ ns) e ∙ ap (λ w. (ls ++ take n rs) ++ w) f ∙ append_assoc ls (take n rs) (drop n rs)
    ∙ ap (λ w. ls ++ w) (take-append-drop n rs)

pub returns-clause-joined : goal.returns-clause-joined
returns-clause-joined g c =
    let t = leaf_is _ _ _ c.self.view_is c.in-Leaf.is in
    let u = leaf_is _ _ _ c.left.view_is c.in-Leaf-parts.is in
    joined_front _ _ _ _ c.args.moved c.move_front.ensures.moved c.move_front.ensures.kept
    ∙ sym (ap (λ x. entries x ++ entries c.args.self.now) u ∙ ap (λ x. c.in-Leaf-parts.left_row.items ++ entries x) t)

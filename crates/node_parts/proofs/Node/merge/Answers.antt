use Rattle.std.proofs.Common.{rules, arith, ◌∙◌, sym, ap, ◌≡◌, ◌++◌, [], length, vec_len, length-append}
use Rattle.std.proofs.lemmas.List.{append-nil}
use Rattle.node_parts.specs.Tree.{entries, count, depth}
use Rattle.node_parts.proofs.Children.{sound_inner}
use Rattle.node_parts.proofs.RowLemmas.{inner_is, leaf_is, sound_leaf, count_of, length-trees}
use Rattle.node_parts.proofs.Neighbours as level
use Rattle.node_parts.proofs.Local.{AreLabelled-append}
use Rattle.node_parts.proofs.Node.merge.Goals as goal
use Rattle.node_parts.proofs.Node.merge.Goals.{in-Leaf+in-Leaf-parts, in-Inner+in-Inner-parts}

pub merge-requires-in-Inner : goal.merge-requires-in-Inner
merge-requires-in-Inner g c =
    let i = count_of _ _ (inner_is _ _ _ c.self.view_is c.in-Inner.is) in
    let j = count_of _ _ (inner_is _ _ _ c.right.view_is c.in-Inner-parts.is) in
    let m : length c.in-Inner.row.items ≡ vec_len c.in-Inner.row = search rules in
    let n : length c.in-Inner-parts.other.items ≡ vec_len c.in-Inner-parts.other = search rules in
    record { room = omega (arith, (sound_inner _ _ c.self.invariant c.in-Inner.is).1, c.requires.room, i, j, m, n) }

pub invariant_of-self : goal.invariant_of-self
invariant_of-self g c =
    elim c.match-self.branch [
      | in-Leaf+in-Leaf-parts w ↦
          let t = leaf_is _ _ _ c.self.view_is w.in-Leaf.is in
          let u = leaf_is _ _ _ c.right.view_is w.in-Leaf-parts.is in
          let m : length w.in-Leaf.row.items ≡ vec_len w.in-Leaf.row = search rules in
          let n : length w.in-Leaf-parts.other.items ≡ vec_len w.in-Leaf-parts.other = search rules in
          rw w.self-inside-is (
            omega (arith, w.merge.ensures.len, c.requires.room, ap count t, ap count u, m, n),
            omega (arith, w.merge.ensures.capacity, (sound_leaf _ _ c.self.invariant w.in-Leaf.is).1),
          )
      | in-Inner+in-Inner-parts w ↦
          let i = count_of _ _ (inner_is _ _ _ c.self.view_is w.in-Inner.is) in
          let j = count_of _ _ (inner_is _ _ _ c.right.view_is w.in-Inner-parts.is) in
          let m : length w.in-Inner.row.items ≡ vec_len w.in-Inner.row = search rules in
          let n : length w.in-Inner-parts.other.items ≡ vec_len w.in-Inner-parts.other = search rules in
          let s = sound_inner _ _ c.self.invariant w.in-Inner.is in
          let r = sound_inner _ _ c.right.invariant w.in-Inner-parts.is in
          rw w.self-inside-is (
            omega (arith, w.merge-in-Inner.ensures.len, c.requires.room, i, j, m, n),
            omega (arith, w.merge-in-Inner.ensures.capacity, s.1),
            rw w.merge-in-Inner.ensures.items (AreLabelled-append _ _ s.2 r.2),
          )
    ]

pub returns-clause-joined : goal.returns-clause-joined
returns-clause-joined g c =
    elim c.match-self.branch [
      | in-Leaf+in-Leaf-parts w ↦
          let t = leaf_is _ _ _ c.self.view_is w.in-Leaf.is in
          let u = leaf_is _ _ _ c.right.view_is w.in-Leaf-parts.is in
          rw w.self-inside-is (w.merge.ensures.items ∙ sym (ap (λ x. entries x ++ entries c.args.right.now) t ∙ ap (λ x. w.in-Leaf.row.items ++ entries x) u))
      | in-Inner+in-Inner-parts w ↦
          let t = inner_is _ _ _ c.self.view_is w.in-Inner.is in
          let u = inner_is _ _ _ c.right.view_is w.in-Inner-parts.is in
          rw w.self-inside-is (level.merged w.in-Inner.row.items w.in-Inner-parts.other.items _ _ _ w.merge-in-Inner.ensures.items t u)
    ]

pub returns-clause-tree : goal.returns-clause-tree
returns-clause-tree g c =
    elim c.match-self.branch [
      | in-Leaf+in-Leaf-parts w ↦
          let t = leaf_is _ _ _ c.self.view_is w.in-Leaf.is in
          let u = leaf_is _ _ _ c.right.view_is w.in-Leaf-parts.is in
          let l = ap length w.merge.ensures.items ∙ length-append w.in-Leaf.row.items w.in-Leaf-parts.other.items in
          rw w.self-inside-is (ap depth t, omega (arith, l, c.requires.room, ap count t, ap count u))
      | in-Inner+in-Inner-parts w ↦
          let t = inner_is _ _ _ c.self.view_is w.in-Inner.is in
          let u = inner_is _ _ _ c.right.view_is w.in-Inner-parts.is in
          let l = ap length w.merge-in-Inner.ensures.items ∙ length-append w.in-Inner.row.items w.in-Inner-parts.other.items in
          let k = level.level_trees _ w.in-Inner.row.items w.in-Inner-parts.other.items w.merge-in-Inner.new.left.items [] _ _ (append-nil _
          ∙ w.merge-in-Inner.ensures.items) t u c.requires.tree c.requires.right_tree in
          rw w.self-inside-is (k.0, omega (arith, length-trees w.merge-in-Inner.new.left.items, l, c.requires.room, count_of _ _ t, count_of _ _ u), k.1)
    ]

pub returns-clause-count : goal.returns-clause-count
returns-clause-count g c =
    elim c.match-self.branch [
      | in-Leaf+in-Leaf-parts w ↦
          let t = leaf_is _ _ _ c.self.view_is w.in-Leaf.is in
          let u = leaf_is _ _ _ c.right.view_is w.in-Leaf-parts.is in
          let l = ap length w.merge.ensures.items ∙ length-append w.in-Leaf.row.items w.in-Leaf-parts.other.items in
          rw w.self-inside-is (omega (arith, l, ap count t, ap count u))
      | in-Inner+in-Inner-parts w ↦
          let t = inner_is _ _ _ c.self.view_is w.in-Inner.is in
          let u = inner_is _ _ _ c.right.view_is w.in-Inner-parts.is in
          let l = ap length w.merge-in-Inner.ensures.items ∙ length-append w.in-Inner.row.items w.in-Inner-parts.other.items in
          rw w.self-inside-is (omega (arith, length-trees w.merge-in-Inner.new.left.items, l, count_of _ _ t, count_of _ _ u))
    ]

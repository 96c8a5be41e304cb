use Rattle.std.proofs.Common.{rules, arith, ◌∙◌, sym, ap, ◌≡◌, ◌++◌, length, vec_len}
use Rattle.node_parts.specs.Tree.{entries, count, depth}
use Rattle.node_parts.proofs.Children.{sound_inner}
use Rattle.node_parts.proofs.RowLemmas.{inner_is, leaf_is, sound_leaf, count_of, length-trees, labelled-left, labelled-right}
use Rattle.node_parts.proofs.Neighbours as level
use Rattle.node_parts.proofs.Neighbours.{IsMoved, moved_few}
use Rattle.node_parts.proofs.Node.borrow.Goals as goal
use Rattle.node_parts.proofs.Node.borrow.Goals.{in-Leaf+in-Leaf-parts, in-Inner+in-Inner-parts}

pub borrow-requires-in-Inner-clause-right_room : goal.borrow-requires-in-Inner-clause-right_room
borrow-requires-in-Inner-clause-right_room g c =
    let i = count_of _ _ (inner_is _ _ _ c.self.view_is c.in-Inner.is) in
    let j = count_of _ _ (inner_is _ _ _ c.right.view_is c.in-Inner-parts.is) in
    let m : length c.in-Inner.row.items ≡ vec_len c.in-Inner.row = search rules in
    let n : length c.in-Inner-parts.other.items ≡ vec_len c.in-Inner-parts.other = search rules in
    let s = sound_inner _ _ c.self.invariant c.in-Inner.is in
    let r = sound_inner _ _ c.right.invariant c.in-Inner-parts.is in
    λ l. omega (arith, s.0, r.0, r.1, c.requires.room, i, j, m, n)

pub invariant_of-right-in-Inner : goal.invariant_of-right-in-Inner
invariant_of-right-in-Inner g c =
    let i = count_of _ _ (inner_is _ _ _ c.self.view_is c.in-Inner.is) in
    let j = count_of _ _ (inner_is _ _ _ c.right.view_is c.in-Inner-parts.is) in
    let m : length c.in-Inner.row.items ≡ vec_len c.in-Inner.row = search rules in
    let n : length c.in-Inner-parts.other.items ≡ vec_len c.in-Inner-parts.other = search rules in
    let s = sound_inner _ _ c.self.invariant c.in-Inner.is in
    let r = sound_inner _ _ c.right.invariant c.in-Inner-parts.is in
    let e = c.borrow-in-Inner.ensures in
    let few = moved_few _ _ _ _ (e.from_right, e.from_left) s.0 r.0 (omega (arith, c.requires.room, i, j, m, n)) in (
      few.1,
      omega (arith, r.1, e.right_capacity),
      labelled-right c.borrow-in-Inner.new.left.items _
          (level.labels c.in-Inner.row.items c.in-Inner-parts.other.items c.borrow-in-Inner.new.left.items c.borrow-in-Inner.new.right.items e.joined s.2 r.2),
    )

pub invariant_of-self : goal.invariant_of-self
invariant_of-self g c =
    elim c.match-self.branch [
      | in-Leaf+in-Leaf-parts w ↦
          let t = leaf_is _ _ _ c.self.view_is w.in-Leaf.is in
          let u = leaf_is _ _ _ c.right.view_is w.in-Leaf-parts.is in
          let m : length w.in-Leaf.row.items ≡ vec_len w.in-Leaf.row = search rules in
          let n : length w.in-Leaf-parts.other.items ≡ vec_len w.in-Leaf-parts.other = search rules in
          let s = sound_leaf _ _ c.self.invariant w.in-Leaf.is in
          let r = sound_leaf _ _ c.right.invariant w.in-Leaf-parts.is in
          let e = w.borrow.ensures in
          let few = moved_few _ _ _ _ (e.from_right, e.from_left) s.0 r.0 (omega (arith, c.requires.room, ap count t, ap count u, m, n)) in
          rw w.self-inside-is (few.0, omega (arith, s.1, e.capacity))
      | in-Inner+in-Inner-parts w ↦
          let i = count_of _ _ (inner_is _ _ _ c.self.view_is w.in-Inner.is) in
          let j = count_of _ _ (inner_is _ _ _ c.right.view_is w.in-Inner-parts.is) in
          let m : length w.in-Inner.row.items ≡ vec_len w.in-Inner.row = search rules in
          let n : length w.in-Inner-parts.other.items ≡ vec_len w.in-Inner-parts.other = search rules in
          let s = sound_inner _ _ c.self.invariant w.in-Inner.is in
          let r = sound_inner _ _ c.right.invariant w.in-Inner-parts.is in
          let e = w.borrow-in-Inner.ensures in
          let few = moved_few _ _ _ _ (e.from_right, e.from_left) s.0 r.0 (omega (arith, c.requires.room, i, j, m, n)) in
          rw w.self-inside-is (
            few.0,
            omega (arith, s.1, e.capacity),
            labelled-left _ w.borrow-in-Inner.new.right.items
                (level.labels w.in-Inner.row.items w.in-Inner-parts.other.items w.borrow-in-Inner.new.left.items w.borrow-in-Inner.new.right.items e.joined s.2
                r.2),
          )
    ]

pub returns-clause-joined : goal.returns-clause-joined
returns-clause-joined g c =
    elim c.match-self.branch [
      | in-Leaf+in-Leaf-parts w ↦
          let t = leaf_is _ _ _ c.self.view_is w.in-Leaf.is in
          let u = leaf_is _ _ _ c.right.view_is w.in-Leaf-parts.is in
          rw (w.self-inside-is, w.right-is) (w.borrow.ensures.joined
          ∙ sym (ap (λ x. entries x ++ entries c.args.right.now) t ∙ ap (λ x. w.in-Leaf.row.items ++ entries x) u))
      | in-Inner+in-Inner-parts w ↦
          let t = inner_is _ _ _ c.self.view_is w.in-Inner.is in
          let u = inner_is _ _ _ c.right.view_is w.in-Inner-parts.is in
          rw (w.self-inside-is, w.right-is)
          (level.joined w.in-Inner.row.items w.in-Inner-parts.other.items w.borrow-in-Inner.new.left.items w.borrow-in-Inner.new.right.items _ _
          w.borrow-in-Inner.ensures.joined t u)
    ]

pub returns-clause-tree : goal.returns-clause-tree
returns-clause-tree g c =
    elim c.match-self.branch [
      | in-Leaf+in-Leaf-parts w ↦
          let t = leaf_is _ _ _ c.self.view_is w.in-Leaf.is in
          let u = leaf_is _ _ _ c.right.view_is w.in-Leaf-parts.is in
          let m : length w.in-Leaf.row.items ≡ vec_len w.in-Leaf.row = search rules in
          let n : length w.in-Leaf-parts.other.items ≡ vec_len w.in-Leaf-parts.other = search rules in
          let v : length w.borrow.new.left.items ≡ vec_len w.borrow.new.left = search rules in
          let s = sound_leaf _ _ c.self.invariant w.in-Leaf.is in
          let r = sound_leaf _ _ c.right.invariant w.in-Leaf-parts.is in
          let e = w.borrow.ensures in
          let few = moved_few _ _ _ _ (e.from_right, e.from_left) s.0 r.0 (omega (arith, c.requires.room, ap count t, ap count u, m, n)) in
          rw w.self-inside-is (ap depth t, omega (arith, few.0, v))
      | in-Inner+in-Inner-parts w ↦
          let t = inner_is _ _ _ c.self.view_is w.in-Inner.is in
          let u = inner_is _ _ _ c.right.view_is w.in-Inner-parts.is in
          let m : length w.in-Inner.row.items ≡ vec_len w.in-Inner.row = search rules in
          let n : length w.in-Inner-parts.other.items ≡ vec_len w.in-Inner-parts.other = search rules in
          let v : length w.borrow-in-Inner.new.left.items ≡ vec_len w.borrow-in-Inner.new.left = search rules in
          let s = sound_inner _ _ c.self.invariant w.in-Inner.is in
          let r = sound_inner _ _ c.right.invariant w.in-Inner-parts.is in
          let e = w.borrow-in-Inner.ensures in
          let few = moved_few _ _ _ _ (e.from_right, e.from_left) s.0 r.0 (omega (arith, c.requires.room, count_of _ _ t, count_of _ _ u, m, n)) in
          let k = level.level_trees _ w.in-Inner.row.items w.in-Inner-parts.other.items w.borrow-in-Inner.new.left.items w.borrow-in-Inner.new.right.items _ _
          e.joined t u c.requires.tree c.requires.right_tree in
          rw w.self-inside-is (k.0, omega (arith, length-trees w.borrow-in-Inner.new.left.items, v, few.0), k.1)
    ]

pub returns-clause-right_tree : goal.returns-clause-right_tree
returns-clause-right_tree g c =
    elim c.match-self.branch [
      | in-Leaf+in-Leaf-parts w ↦
          let t = leaf_is _ _ _ c.self.view_is w.in-Leaf.is in
          let u = leaf_is _ _ _ c.right.view_is w.in-Leaf-parts.is in
          let m : length w.in-Leaf.row.items ≡ vec_len w.in-Leaf.row = search rules in
          let n : length w.in-Leaf-parts.other.items ≡ vec_len w.in-Leaf-parts.other = search rules in
          let v : length w.borrow.new.right.items ≡ vec_len w.borrow.new.right = search rules in
          let s = sound_leaf _ _ c.self.invariant w.in-Leaf.is in
          let r = sound_leaf _ _ c.right.invariant w.in-Leaf-parts.is in
          let e = w.borrow.ensures in
          let few = moved_few _ _ _ _ (e.from_right, e.from_left) s.0 r.0 (omega (arith, c.requires.room, ap count t, ap count u, m, n)) in
          rw w.right-is (ap depth t, omega (arith, few.1, v))
      | in-Inner+in-Inner-parts w ↦
          let t = inner_is _ _ _ c.self.view_is w.in-Inner.is in
          let u = inner_is _ _ _ c.right.view_is w.in-Inner-parts.is in
          let m : length w.in-Inner.row.items ≡ vec_len w.in-Inner.row = search rules in
          let n : length w.in-Inner-parts.other.items ≡ vec_len w.in-Inner-parts.other = search rules in
          let v : length w.borrow-in-Inner.new.right.items ≡ vec_len w.borrow-in-Inner.new.right = search rules in
          let s = sound_inner _ _ c.self.invariant w.in-Inner.is in
          let r = sound_inner _ _ c.right.invariant w.in-Inner-parts.is in
          let e = w.borrow-in-Inner.ensures in
          let few = moved_few _ _ _ _ (e.from_right, e.from_left) s.0 r.0 (omega (arith, c.requires.room, count_of _ _ t, count_of _ _ u, m, n)) in
          let k = level.level_trees _ w.in-Inner.row.items w.in-Inner-parts.other.items w.borrow-in-Inner.new.left.items w.borrow-in-Inner.new.right.items _ _
          e.joined t u c.requires.tree c.requires.right_tree in
          rw w.right-is (k.0, omega (arith, length-trees w.borrow-in-Inner.new.right.items, v, few.1), k.2)
    ]

pub returns-clause-from_right : goal.returns-clause-from_right
returns-clause-from_right g c =
    elim c.match-self.branch [
      | in-Leaf+in-Leaf-parts w ↦
          let t = leaf_is _ _ _ c.self.view_is w.in-Leaf.is in
          let u = leaf_is _ _ _ c.right.view_is w.in-Leaf-parts.is in
          let m : length w.in-Leaf.row.items ≡ vec_len w.in-Leaf.row = search rules in
          let n : length w.in-Leaf-parts.other.items ≡ vec_len w.in-Leaf-parts.other = search rules in
          let v : length w.borrow.new.left.items ≡ vec_len w.borrow.new.left = search rules in
          let x : length w.borrow.new.right.items ≡ vec_len w.borrow.new.right = search rules in
          rw (w.self-inside-is, w.right-is) (λ l. let e = w.borrow.ensures.from_right (omega (arith, l, ap count t, ap count u, m, n)) in
          (omega (arith, e.0, ap count t, m, v), omega (arith, e.1, ap count u, n, x)))
      | in-Inner+in-Inner-parts w ↦
          let t = count_of _ _ (inner_is _ _ _ c.self.view_is w.in-Inner.is) in
          let u = count_of _ _ (inner_is _ _ _ c.right.view_is w.in-Inner-parts.is) in
          let m : length w.in-Inner.row.items ≡ vec_len w.in-Inner.row = search rules in
          let n : length w.in-Inner-parts.other.items ≡ vec_len w.in-Inner-parts.other = search rules in
          let v : length w.borrow-in-Inner.new.left.items ≡ vec_len w.borrow-in-Inner.new.left = search rules in
          let x : length w.borrow-in-Inner.new.right.items ≡ vec_len w.borrow-in-Inner.new.right = search rules in
          let y = length-trees w.borrow-in-Inner.new.left.items in
          let z = length-trees w.borrow-in-Inner.new.right.items in
          rw (w.self-inside-is, w.right-is) (λ l. let e = w.borrow-in-Inner.ensures.from_right (omega (arith, l, t, u, m, n)) in
          (omega (arith, e.0, t, m, v, y), omega (arith, e.1, u, n, x, z)))
    ]

pub returns-clause-from_left : goal.returns-clause-from_left
returns-clause-from_left g c =
    elim c.match-self.branch [
      | in-Leaf+in-Leaf-parts w ↦
          let t = leaf_is _ _ _ c.self.view_is w.in-Leaf.is in
          let u = leaf_is _ _ _ c.right.view_is w.in-Leaf-parts.is in
          let m : length w.in-Leaf.row.items ≡ vec_len w.in-Leaf.row = search rules in
          let n : length w.in-Leaf-parts.other.items ≡ vec_len w.in-Leaf-parts.other = search rules in
          let v : length w.borrow.new.left.items ≡ vec_len w.borrow.new.left = search rules in
          let x : length w.borrow.new.right.items ≡ vec_len w.borrow.new.right = search rules in
          rw (w.self-inside-is, w.right-is) (λ l. let e = w.borrow.ensures.from_left (omega (arith, l, ap count t, ap count u, m, n)) in
          (omega (arith, e.0, ap count t, m, v), omega (arith, e.1, ap count u, n, x)))
      | in-Inner+in-Inner-parts w ↦
          let t = count_of _ _ (inner_is _ _ _ c.self.view_is w.in-Inner.is) in
          let u = count_of _ _ (inner_is _ _ _ c.right.view_is w.in-Inner-parts.is) in
          let m : length w.in-Inner.row.items ≡ vec_len w.in-Inner.row = search rules in
          let n : length w.in-Inner-parts.other.items ≡ vec_len w.in-Inner-parts.other = search rules in
          let v : length w.borrow-in-Inner.new.left.items ≡ vec_len w.borrow-in-Inner.new.left = search rules in
          let x : length w.borrow-in-Inner.new.right.items ≡ vec_len w.borrow-in-Inner.new.right = search rules in
          let y = length-trees w.borrow-in-Inner.new.left.items in
          let z = length-trees w.borrow-in-Inner.new.right.items in
          rw (w.self-inside-is, w.right-is) (λ l. let e = w.borrow-in-Inner.ensures.from_left (omega (arith, l, t, u, m, n)) in
          (omega (arith, e.0, t, m, v, y), omega (arith, e.1, u, n, x, z)))
    ]

use Rattle.std.proofs.Common.{rules, arith, ◌∙◌, sym, ap, subst, ◌++◌, ◌≡◌, ◌+◌, ◌^◌, ◌<◌, ℕ, length}
use Rattle.node_parts.specs.Tree.{entries, depth}
use Rattle.node_parts.specs.Order.{mark_in}
use Rattle.node_parts.proofs.Balance.{at_most_seven}
use Rattle.btree_node.specs.Path.{top_path, path_of}
use Rattle.btree_node.specs.Splits.{splits}
use Rattle.btree_node.specs.Top.{tree_at, IsWholeTree, nodes_for}
use Rattle.btree_node.proofs.Counting.{bool_byte_small, bool_byte_is}
use Rattle.btree_node.proofs.Top.{root_some, nodes_counted, top_path-some}
use Rattle.btree_node.proofs.Contents.{get-contents}
use Rattle.btree_node.proofs.BTree.find_way.Goals as goal
use Rattle.btree_node.proofs.BTree.find_way.Goals.{in-None, in-Some}

pub way_to-splits-requires-clause-some : goal.way_to-splits-requires-clause-some
way_to-splits-requires-clause-some g c =
    let whole = subst IsWholeTree c.in-Some.is c.self.invariant.whole in
    let node = ap (λ r. r.node) c.new-way.ensures ∙ c.deref.ensures in
    rw node (root_some _ _ whole)

pub way_to-splits-requires-clause-low : goal.way_to-splits-requires-clause-low
way_to-splits-requires-clause-low g c =
    let whole = subst IsWholeTree c.in-Some.is c.self.invariant.whole in
    let few = at_most_seven _ _ whole (omega (arith, c.self.invariant.counted, c.self.invariant.few, ap (λ r. length (entries (tree_at r))) c.in-Some.is)) in
    let node = ap (λ r. r.node) c.new-way.ensures ∙ c.deref.ensures in
    omega (arith, few, ap depth node, ap (λ r. r.visits) c.new-way.ensures)

pub way_to-splits-requires-clause-room : goal.way_to-splits-requires-clause-room
way_to-splits-requires-clause-room g c =
    let whole = subst IsWholeTree c.in-Some.is c.self.invariant.whole in
    let few = at_most_seven _ _ whole (omega (arith, c.self.invariant.counted, c.self.invariant.few, ap (λ r. length (entries (tree_at r))) c.in-Some.is)) in
    let node = ap (λ r. r.node) c.new-way.ensures ∙ c.deref.ensures in
    omega (arith, few, ap depth node, ap length c.new-path.ensures.items, c.new-path.ensures.capacity)

pub overflow_add-nodes : goal.overflow_add-nodes
overflow_add-nodes g c =
    let whole = subst IsWholeTree c.in-Some.is c.self.invariant.whole in
    let few = at_most_seven _ _ whole (omega (arith, c.self.invariant.counted, c.self.invariant.few, ap (λ r. length (entries (tree_at r))) c.in-Some.is)) in
    let node = ap (λ r. r.node) c.new-way.ensures ∙ c.deref.ensures in
    let small : c.way_to-splits.result.0 + c.from.result < 2 ^ 64 =
    omega (arith, few, ap depth node, c.way_to-splits.ensures.few, c.from.ensures, bool_byte_small c.way_to-splits.result.1) in
    search (rules, small)

pub returns-clause-way : goal.returns-clause-way
returns-clause-way g c =
    let way : c.match-self.path.items ≡ top_path c.args.self.now c.args.pair.now =
    elim c.match-self.branch [
      | in-None w ↦
          ap (λ p. p.items) w.path-is ∙ c.new-path.ensures.items ∙ ap (λ t. top_path t c.args.pair.now) (sym (ap tree_at w.in-None.is) ∙ c.self.view_is)
      | in-Some w ↦
          let whole = subst IsWholeTree w.in-Some.is c.self.invariant.whole in
          let node = ap (λ r. r.node) w.new-way.ensures ∙ w.deref.ensures in
          let some : 0 < length (entries w.new-way.result.node) = rw node (root_some _ _ whole) in
          let top = node ∙ sym (ap tree_at w.in-Some.is) ∙ c.self.view_is in
          ap (λ p. p.items) w.path-is ∙ w.way_to-splits.ensures.path ∙ ap (λ xs. xs ++ path_of w.new-way.result.node c.args.pair.now) c.new-path.ensures.items
          ∙ sym (top_path-some _ c.args.pair.now some) ∙ ap (λ t. top_path t c.args.pair.now) top
    ] in
    let count : c.match-self.nodes.0 ≡ nodes_for c.args.self.now c.args.pair.now =
    elim c.match-self.branch [
      | in-None w ↦ ap (λ n. n.0) w.nodes-is ∙ ap (λ t. nodes_for t c.args.pair.now) (sym (ap tree_at w.in-None.is) ∙ c.self.view_is)
      | in-Some w ↦
          let whole = subst IsWholeTree w.in-Some.is c.self.invariant.whole in
          let node = ap (λ r. r.node) w.new-way.ensures ∙ w.deref.ensures in
          let some : 0 < length (entries w.new-way.result.node) = rw node (root_some _ _ whole) in
          let top = node ∙ sym (ap tree_at w.in-Some.is) ∙ c.self.view_is in
          ap (λ n. n.0) w.nodes-is ∙ ap (λ (n : ℕ). n + w.from.result) w.way_to-splits.ensures.splits
          ∙ ap (λ (n : ℕ). splits w.new-way.result.node c.args.pair.now + n) (w.from.ensures ∙ bool_byte_is w.way_to-splits.result.1)
          ∙ nodes_counted _ c.args.pair.now w.way_to-splits.result.1 some w.way_to-splits.ensures.all ∙ ap (λ t. nodes_for t c.args.pair.now) top
    ] in
    record { places = way; counted = count }

pub returns-clause-mark : goal.returns-clause-mark
returns-clause-mark g c =
    elim c.match-self.branch [
      | in-None w ↦ ap (λ n. n.1) w.nodes-is ∙ ap (λ t. mark_in (entries t) c.args.pair.now) (sym (ap tree_at w.in-None.is) ∙ c.self.view_is)
          ∙ sym (get-contents _ _)
      | in-Some w ↦
          let node = ap (λ r. r.node) w.new-way.ensures ∙ w.deref.ensures in
          ap (λ n. n.1) w.nodes-is ∙ w.way_to-splits.ensures.found
          ∙ ap (λ t. mark_in (entries t) c.args.pair.now) (node ∙ sym (ap tree_at w.in-Some.is) ∙ c.self.view_is) ∙ sym (get-contents _ _)
    ]

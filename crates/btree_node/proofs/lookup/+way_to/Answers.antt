use Rattle.std.proofs.Common.{rules, arith, ◌∙◌, sym, subst, ap, cond, Some, ◌&&◌, ◌≡◌, ◌+◌, ◌^◌, ◌<◌, ◌≤◌, ◌++◌, [], ◌∷◌, length, ◌==◌, append_assoc}
use Rattle.std.proofs.Common.{length-append}
use Rattle.btree_node.specs.Splits.{splits}
use Rattle.btree_node.specs.Path.{path_of}
use Rattle.node_parts.specs.Place.{place_in}
use Rattle.node_parts.specs.Order.{is_below}
use Rattle.node_parts.specs.Rows.{branches}
use Rattle.node_parts.specs.Tree.{count, depth, entries, IsLeaf}
use Rattle.std.specs.List.{prefix_len, slice_get}
use Rattle.btree_node.proofs.Counting.{and_true, and_false, bool_byte_is, bool_byte_small, one_is, top_split}
use Rattle.btree_node.proofs.Descending.{IsBelow, below, one_level}
use Rattle.btree_node.proofs.Ways.{leaf_on, mark_on, path_ends, path_on, place_ends, splits_end, splits_on}
use Rattle.btree_node.proofs.lookup.+way_to.Goals as goal
use Rattle.btree_node.proofs.lookup.+way_to.Goals.{then-all, else-all}

pub way_to-below-requires : goal.way_to-below-requires
way_to-below-requires g t c κs within =
    let child : slice_get (branches c.args.way.now.node) (place_in c.args.way.now.node c.args.pair.now) ≡ Some c.descend_to.new.self.node =
    rw c.place-at.ensures at (c.descend_to.ensures.child c.if-descend_to.true) in
    let b : IsBelow c.args.way.now.node c.descend_to.new.self.node =
    below _ _ _ c.requires.tree c.requires.ascending child in
    let lower : depth c.descend_to.new.self.node < depth c.args.way.now.node = omega (arith, b.lower) in
    let one : c.descend_to.new.self.visits ≡ c.args.way.now.visits + 1 = c.descend_to.ensures.visits
    ∙ ap (λ r. c.args.way.now.visits + cond r 1 0) c.if-descend_to.true in (
      search (rules, lower),
      (
        search rules,
        (
          b.ascending,
          (
            b.tree,
            (
              b.some,
              (
                omega (arith, b.lower, one, c.requires.low),
                omega (
                  arith,
                  lower,
                  c.requires.room,
                  ap length c.push_reserved.ensures.items,
                  length-append c.args.path.now.items (c.place-at.result ∷ []),
                  c.push_reserved.ensures.capacity,
                ),
              ),
            ),
          ),
        ),
      ),
    )

pub overflow_add-result : goal.overflow_add-result
overflow_add-result g t c =
    let child : slice_get (branches c.args.way.now.node) (place_in c.args.way.now.node c.args.pair.now) ≡ Some c.descend_to.new.self.node =
    rw c.place-at.ensures at (c.descend_to.ensures.child c.if-descend_to.true) in
    let b : IsBelow c.args.way.now.node c.descend_to.new.self.node =
    below _ _ _ c.requires.tree c.requires.ascending child in
    let small : c.way_to-below.result.0 + c.from.result < 2 ^ 64 =
    omega (arith, b.lower, c.requires.low, c.way_to-below.ensures.few, c.from.ensures, bool_byte_small c.if-all.full) in
    search (rules, small)

pub returns-then-descend_to-clause-path : goal.returns-then-descend_to-clause-path
returns-then-descend_to-clause-path g t c =
    let child : slice_get (branches c.args.way.now.node) (place_in c.args.way.now.node c.args.pair.now) ≡ Some c.descend_to.new.self.node =
    rw c.place-at.ensures at (c.descend_to.ensures.child c.if-descend_to.true) in
    let old = c.args.way.now.node in
    let new = c.descend_to.new.self.node in
    let before = c.args.path.now.items in
    let on : path_of old c.args.pair.now ≡ place_in old c.args.pair.now ∷ path_of new c.args.pair.now =
    path_on _ _ _ c.requires.tree c.requires.ascending child in
    c.way_to-below.ensures.path ∙ ap (λ w. w ++ path_of new c.args.pair.now) c.push_reserved.ensures.items
    ∙ append_assoc before (c.place-at.result ∷ []) (path_of new c.args.pair.now)
    ∙ ap (λ k. before ++ k ∷ path_of new c.args.pair.now) c.place-at.ensures ∙ ap (λ w. before ++ w) (sym on)

pub returns-then-descend_to-clause-splits : goal.returns-then-descend_to-clause-splits
returns-then-descend_to-clause-splits g t c =
    let child : slice_get (branches c.args.way.now.node) (place_in c.args.way.now.node c.args.pair.now) ≡ Some c.descend_to.new.self.node =
    rw c.place-at.ensures at (c.descend_to.ensures.child c.if-descend_to.true) in
    let old = c.args.way.now.node in
    let new = c.descend_to.new.self.node in
    let s : splits new c.args.pair.now ≡ c.way_to-below.result.0 = sym c.way_to-below.ensures.splits in
    let full : c.if-all.full ≡ (splits new c.args.pair.now == depth new) && (count old == 32) =
    elim c.if-all.branch [
      | then-all w ↦ w.full-is ∙ c.is_full-is_full.ensures ∙ and_true _ _ (sym c.way_to-below.ensures.all ∙ w.if-all.true)
      | else-all w ↦ w.full-is ∙ c.way_to-below.ensures.all ∙ and_false _ _ (sym c.way_to-below.ensures.all ∙ w.if-all.false)
    ] in
    ap (λ m. m + c.from.result) (sym s)
    ∙ ap (λ m. splits new c.args.pair.now + m) (c.from.ensures ∙ bool_byte_is c.if-all.full ∙ ap (λ b. cond b 1 0) full)
    ∙ sym (splits_on _ _ _ c.requires.tree c.requires.ascending child)

pub returns-then-descend_to-clause-few : goal.returns-then-descend_to-clause-few
returns-then-descend_to-clause-few g t c =
    let child : slice_get (branches c.args.way.now.node) (place_in c.args.way.now.node c.args.pair.now) ≡ Some c.descend_to.new.self.node =
    rw c.place-at.ensures at (c.descend_to.ensures.child c.if-descend_to.true) in
    let b : IsBelow c.args.way.now.node c.descend_to.new.self.node =
    below _ _ _ c.requires.tree c.requires.ascending child in
    omega (arith, b.lower, c.way_to-below.ensures.few, c.from.ensures, bool_byte_small c.if-all.full)

pub returns-then-descend_to-clause-all : goal.returns-then-descend_to-clause-all
returns-then-descend_to-clause-all g t c =
    let child : slice_get (branches c.args.way.now.node) (place_in c.args.way.now.node c.args.pair.now) ≡ Some c.descend_to.new.self.node =
    rw c.place-at.ensures at (c.descend_to.ensures.child c.if-descend_to.true) in
    let old = c.args.way.now.node in
    let new = c.descend_to.new.self.node in
    let full : c.if-all.full ≡ (splits new c.args.pair.now == depth new) && (count old == 32) =
    elim c.if-all.branch [
      | then-all w ↦ w.full-is ∙ c.is_full-is_full.ensures ∙ and_true _ _ (sym c.way_to-below.ensures.all ∙ w.if-all.true)
      | else-all w ↦ w.full-is ∙ c.way_to-below.ensures.all ∙ and_false _ _ (sym c.way_to-below.ensures.all ∙ w.if-all.false)
    ] in
    let b : IsBelow old new = below _ _ _ c.requires.tree c.requires.ascending child in
    let few : splits new c.args.pair.now ≤ depth new = omega (arith, c.way_to-below.ensures.few, c.way_to-below.ensures.splits) in
    full ∙ sym (top_split _ _ (count old) few)
    ∙ ap (λ m. m == depth new + 1) (sym (splits_on _ _ _ c.requires.tree c.requires.ascending child))
    ∙ ap (λ m. splits old c.args.pair.now == m) b.lower

pub returns-then-descend_to-clause-visits : goal.returns-then-descend_to-clause-visits
returns-then-descend_to-clause-visits g t c =
    let child : slice_get (branches c.args.way.now.node) (place_in c.args.way.now.node c.args.pair.now) ≡ Some c.descend_to.new.self.node =
    rw c.place-at.ensures at (c.descend_to.ensures.child c.if-descend_to.true) in
    let b : IsBelow c.args.way.now.node c.descend_to.new.self.node =
    below _ _ _ c.requires.tree c.requires.ascending child in
    let one : c.descend_to.new.self.visits ≡ c.args.way.now.visits + 1 = c.descend_to.ensures.visits
    ∙ ap (λ r. c.args.way.now.visits + cond r 1 0) c.if-descend_to.true in
    omega (arith, b.lower, one, c.way_to-below.ensures.visits)

pub returns-then-descend_to-clause-found : goal.returns-then-descend_to-clause-found
returns-then-descend_to-clause-found g t c =
    let child : slice_get (branches c.args.way.now.node) (place_in c.args.way.now.node c.args.pair.now) ≡ Some c.descend_to.new.self.node =
    rw c.place-at.ensures at (c.descend_to.ensures.child c.if-descend_to.true) in
    c.way_to-below.ensures.found ∙ mark_on _ _ _ c.requires.tree c.requires.ascending child

pub row-requires : goal.row-requires
row-requires g t c =
    let leaf : IsLeaf c.args.way.now.node =
    leaf_on _ c.args.pair.now c.requires.some (rw c.place-at.ensures at (c.descend_to.ensures.no_child c.if-descend_to.false)) in
    record { leaf = subst (λ r. IsLeaf r.node) (sym (c.descend_to.ensures.unchanged c.if-descend_to.false)) leaf }

pub mark_at-requires-clause-place : goal.mark_at-requires-clause-place
mark_at-requires-clause-place g t c =
    let leaf : IsLeaf c.args.way.now.node =
    leaf_on _ c.args.pair.now c.requires.some (rw c.place-at.ensures at (c.descend_to.ensures.no_child c.if-descend_to.false)) in
    let row = c.row.ensures ∙ ap (λ r. entries r.node) (c.descend_to.ensures.unchanged c.if-descend_to.false) in
    c.place-at.ensures ∙ place_ends _ _ leaf ∙ ap (λ es. prefix_len (λ e. is_below e.pair c.args.pair.now) es) (sym row)

pub returns-clause-visits : goal.returns-clause-visits
returns-clause-visits g t c =
    let leaf : IsLeaf c.args.way.now.node =
    leaf_on _ c.args.pair.now c.requires.some (rw c.place-at.ensures at (c.descend_to.ensures.no_child c.if-descend_to.false)) in
    omega (arith, one_level _ leaf, ap (λ r. r.visits) (c.descend_to.ensures.unchanged c.if-descend_to.false))

pub returns-clause-path : goal.returns-clause-path
returns-clause-path g t c =
    let leaf : IsLeaf c.args.way.now.node =
    leaf_on _ c.args.pair.now c.requires.some (rw c.place-at.ensures at (c.descend_to.ensures.no_child c.if-descend_to.false)) in
    let before = c.args.path.now.items in
    c.push_reserved.ensures.items ∙ ap (λ k. before ++ k ∷ []) c.place-at.ensures ∙ ap (λ w. before ++ w) (sym (path_ends _ _ leaf))

pub returns-clause-splits : goal.returns-clause-splits
returns-clause-splits g t c =
    let leaf : IsLeaf c.args.way.now.node =
    leaf_on _ c.args.pair.now c.requires.some (rw c.place-at.ensures at (c.descend_to.ensures.no_child c.if-descend_to.false)) in
    c.from-2.ensures ∙ bool_byte_is c.is_full-is_full.result ∙ ap (λ b. cond b 1 0) c.is_full-is_full.ensures ∙ sym (splits_end _ _ leaf)

pub returns-clause-all : goal.returns-clause-all
returns-clause-all g t c =
    let leaf : IsLeaf c.args.way.now.node =
    leaf_on _ c.args.pair.now c.requires.some (rw c.place-at.ensures at (c.descend_to.ensures.no_child c.if-descend_to.false)) in
    let node = c.args.way.now.node in
    c.is_full-is_full.ensures ∙ sym (one_is (count node == 32)) ∙ ap (λ m. cond (count node == 32) 1 0 == m) (sym (one_level _ leaf))
    ∙ ap (λ m. m == depth node) (sym (splits_end _ _ leaf))

use Rattle.std.proofs.Common.{rules, arith, ap, cond, sym, subst, Some, ◌∙◌, ◌≡◌, ◌+◌, ◌<◌}
use Rattle.std.specs.List.{prefix_len, slice_get}
use Rattle.node_parts.specs.Order.{is_below}
use Rattle.node_parts.specs.Place.{place_in}
use Rattle.node_parts.specs.Rows.{branches}
use Rattle.node_parts.specs.Tree.{depth, entries, IsLeaf}
use Rattle.btree_node.proofs.Descending.{IsBelow, below, one_level}
use Rattle.btree_node.proofs.Ways.{leaf_on, mark_on, place_ends}
use Rattle.btree_node.proofs.lookup.+mark_below.Goals as goal

pub mark_below-requires : goal.mark_below-requires
mark_below-requires g t c κs within =
    let child : slice_get (branches c.args.way.now.node) (place_in c.args.way.now.node c.args.pair.now) ≡ Some c.descend_to.new.self.node =
    rw c.place-at.ensures at (c.descend_to.ensures.child c.if-descend_to.true) in
    let b : IsBelow c.args.way.now.node c.descend_to.new.self.node = below _ _ _ c.requires.tree c.requires.ascending child in
    let lower : depth c.descend_to.new.self.node < depth c.args.way.now.node = omega (arith, b.lower) in
    let one : c.descend_to.new.self.visits ≡ c.args.way.now.visits + 1 = c.descend_to.ensures.visits
    ∙ ap (λ r. c.args.way.now.visits + cond r 1 0) c.if-descend_to.true in
    (search (rules, lower), (search rules, (b.ascending, (b.tree, (b.some, omega (arith, b.lower, one, c.requires.low))))))

pub returns-then-descend_to-clause-found : goal.returns-then-descend_to-clause-found
returns-then-descend_to-clause-found g t c =
    let child : slice_get (branches c.args.way.now.node) (place_in c.args.way.now.node c.args.pair.now) ≡ Some c.descend_to.new.self.node =
    rw c.place-at.ensures at (c.descend_to.ensures.child c.if-descend_to.true) in
    c.mark_below.ensures.found ∙ mark_on _ _ _ c.requires.tree c.requires.ascending child

pub returns-then-descend_to-clause-visits : goal.returns-then-descend_to-clause-visits
returns-then-descend_to-clause-visits g t c =
    let child : slice_get (branches c.args.way.now.node) (place_in c.args.way.now.node c.args.pair.now) ≡ Some c.descend_to.new.self.node =
    rw c.place-at.ensures at (c.descend_to.ensures.child c.if-descend_to.true) in
    let b : IsBelow c.args.way.now.node c.descend_to.new.self.node = below _ _ _ c.requires.tree c.requires.ascending child in
    let one : c.descend_to.new.self.visits ≡ c.args.way.now.visits + 1 = c.descend_to.ensures.visits
    ∙ ap (λ r. c.args.way.now.visits + cond r 1 0) c.if-descend_to.true in
    omega (arith, b.lower, one, c.mark_below.ensures.visits)

pub row-requires : goal.row-requires
row-requires g t c =
    let leaf : IsLeaf c.args.way.now.node =
    leaf_on _ c.args.pair.now c.requires.some (rw c.place-at.ensures at (c.descend_to.ensures.no_child c.if-descend_to.false)) in
    record { leaf = subst (λ r. IsLeaf r.node) (sym (c.descend_to.ensures.unchanged c.if-descend_to.false)) leaf }

pub mark_at-requires-clause-place : goal.mark_at-requires-clause-place
mark_at-requires-clause-place g t c =
    let leaf : IsLeaf c.args.way.now.node =
    leaf_on _ c.args.pair.now c.requires.some (rw c.place-at.ensures at (c.descend_to.ensures.no_child c.if-descend_to.false)) in
    let row = c.row.ensures ∙ ap (λ r. entries r.node) (c.descend_to.ensures.unchanged c.if-descend_to.false) in
    c.place-at.ensures ∙ place_ends _ _ leaf ∙ ap (λ es. prefix_len (λ e. is_below e.pair c.args.pair.now) es) (sym row)

pub returns-clause-visits : goal.returns-clause-visits
returns-clause-visits g t c =
    let leaf : IsLeaf c.args.way.now.node =
    leaf_on _ c.args.pair.now c.requires.some (rw c.place-at.ensures at (c.descend_to.ensures.no_child c.if-descend_to.false)) in
    omega (arith, one_level _ leaf, ap (λ r. r.visits) (c.descend_to.ensures.unchanged c.if-descend_to.false))

use Rattle.std.proofs.Common.{rules, arith, ◌∙◌, sym, ap, ◌≡◌, Some, ◌<◌, ◌++◌}
use Rattle.node_parts.specs.Tree.{entries, count}
use Rattle.node_parts.specs.Seen.{least_of}
use Rattle.node_parts.proofs.Neighbours as level
use Rattle.btree_node.proofs.At.{not_empty}
use Rattle.btree_node.proofs.removal.level_pair.Goals as goal

pub returns-then-count-eq0-clause-joined : goal.returns-then-count-eq0-clause-joined
returns-then-count-eq0-clause-joined g c =
    let zero : count c.level.new.right ≡ 0 = ap count (sym c.deref.ensures) ∙ sym c.count.ensures.count ∙ c.if-count-eq0.true in
    ap (λ w. entries c.level.new.left ++ w) (sym (level.no_entries c.level.new.right zero)) ∙ c.level.ensures.joined
    ∙ ap (λ w. entries w ++ entries c.deref_mut-2.result.now) c.deref_mut.ensures.value
    ∙ ap (λ w. entries c.args.left.now.node.value ++ entries w) c.deref_mut-2.ensures.value

pub returns-then-count-eq0-clause-label : goal.returns-then-count-eq0-clause-label
returns-then-count-eq0-clause-label g c =
    let old : least_of (entries c.deref_mut.result.now) ≡ Some c.args.left.now.least = rw c.deref_mut.ensures.value c.requires.label in
    level.front_label _ _ _ _ _ c.level.ensures.joined (not_empty _ _ c.level.ensures.tree c.level.ensures.low) old

pub least-right-requires : goal.least-right-requires
least-right-requires g c =
    let some : 0 < count c.level.new.right = omega (arith, ap count (sym c.deref.ensures), c.count.ensures.count, c.if-count-eq0.false) in
    record { some = rw c.deref-2.ensures (not_empty _ _ (c.level.ensures.right_tree some) (c.level.ensures.right_low some)) }

pub returns-clause-label : goal.returns-clause-label
returns-clause-label g c =
    let old : least_of (entries c.deref_mut.result.now) ≡ Some c.args.left.now.least = rw c.deref_mut.ensures.value c.requires.label in
    level.front_label _ _ _ _ _ c.level.ensures.joined (not_empty _ _ c.level.ensures.tree c.level.ensures.low) old

pub returns-clause-upper : goal.returns-clause-upper
returns-clause-upper g c = search rules

-- The mark of a pair stands with the child where the pair belongs.
use Rattle.std.proofs.Common.{◌≡◌, ℕ, ◌-◌, ◌≤◌, List, ◌++◌, length, take, drop, get_or, Some, sym, ap, ◌∙◌, arith, suc}
use Rattle.std.proofs.Math.ListN.{set, length-set}
use Rattle.record_values.specs.declared.pair.Pair.{Pair}
use Rattle.record_values.specs.declared.pair.Mark.{Mark}
use Rattle.node_parts.specs.declared.Child.{Child}
use Rattle.node_parts.specs.Order.{mark_in, with_mark}
use Rattle.node_parts.specs.Tree.{Tree, branch, entries, forest_of, trees_of, count, depth}
use Rattle.node_parts.specs.Seen.{least_of, AreLabelled}
use Rattle.node_parts.specs.Balance.{IsTree}
use Rattle.node_parts.specs.Rows.{trees}
use Rattle.node_parts.proofs.Order.{mark_in-above, mark_in-below, mark_in-left, mark_in-right}
use Rattle.node_parts.proofs.Children.{all_entries}
use Rattle.node_parts.proofs.Local.{entries-around, entries-set, with_mark-left, with_mark-right, least_of-with_mark, AreLabelled-set}
use Rattle.node_parts.proofs.RowLemmas as rows
use Rattle.btree_node.proofs.Insert.{around-left, around-right, trees-set}
use Rattle.btree_node.proofs.At as at
use Rattle.btree_node.proofs.At.{IsAt}

-- the entries of a node around those of the child
pub whole : {A : Type 0} {t u : Tree} {cs : List (Child A)} {k : ℕ} {c : Child A} {p : Pair} → IsAt t u cs k c p
    → entries t ≡ all_entries (take k cs) ++ (entries u ++ all_entries (drop (suc k) cs))
whole {t} {u} {cs} {k} {c} a =
    let same : (get_or cs k c).node.value ≡ u = ap (λ x. x.node.value) (sym a.child) ∙ sym a.tree in
    ap entries a.seen ∙ entries-around cs k c a.in_range ∙ ap (λ x. all_entries (take k cs) ++ (entries x ++ all_entries (drop (suc k) cs))) same

pub mark_of : {A : Type 0} {t u : Tree} {cs : List (Child A)} {k : ℕ} {c : Child A} {p : Pair} → IsAt t u cs k c p
    → mark_in (entries t) p ≡ mark_in (entries u) p
mark_of {t} {u} {cs} {k} {c} {p} a =
    let left = all_entries (take k cs) in
    let right = all_entries (drop (suc k) cs) in
    ap (λ w. mark_in w p) (whole a)
    ∙ mark_in-right left (entries u ++ right) p (mark_in-below left p (around-left cs p k a.labelled a.ascending a.place))
    ∙ mark_in-left (entries u) right p (mark_in-above right p (around-right cs p k a.labelled a.ascending a.place))

-- the child c was replaced by b, in which the pair has another mark
pub record IsMarked {A : Type 0} (u : Tree) (c b : Child A) (p : Pair) (m : Mark) : Type 0 where
  pub entries_are : entries b.node.value ≡ with_mark (entries u) p m
  pub least_is : b.least ≡ c.least
  pub level : IsTree (depth u) b.node.value
  pub count_is : count b.node.value ≡ count u

pub marked_entries : {A : Type 0} {t u : Tree} {cs : List (Child A)} {k : ℕ} {c b : Child A} {p : Pair} {m : Mark} → IsAt t u cs k c p → IsMarked u c b p m
    → all_entries (set cs k b) ≡ with_mark (entries t) p m
marked_entries {t} {u} {cs} {k} {c} {b} {p} {m} a n =
    let left = all_entries (take k cs) in
    let right = all_entries (drop (suc k) cs) in
    entries-set cs k b a.in_range ∙ ap (λ w. left ++ (w ++ right)) n.entries_are
    ∙ sym (ap (λ w. with_mark w p m) (whole a) ∙ with_mark-right left (entries u ++ right) p m (around-left cs p k a.labelled a.ascending a.place)
    ∙ ap (λ w. left ++ w) (with_mark-left (entries u) right p m (around-right cs p k a.labelled a.ascending a.place)))

pub marked_labelled : {A : Type 0} {t u : Tree} {cs : List (Child A)} {k : ℕ} {c b : Child A} {p : Pair} {m : Mark} → IsAt t u cs k c p → IsMarked u c b p m
    → AreLabelled (set cs k b)
marked_labelled {u = u} {cs} {k} {b = b} {p} {m} a n =
    AreLabelled-set cs k b a.labelled (ap least_of n.entries_are ∙ least_of-with_mark (entries u) p m ∙ at.label a ∙ ap Some (sym n.least_is))

pub marked_tree : {A : Type 0} {t u : Tree} {cs : List (Child A)} {k : ℕ} {c b : Child A} {p : Pair} {m : Mark} → IsAt t u cs k c p → IsMarked u c b p m
    → IsTree (depth t) (branch (forest_of (trees (set cs k b))))
marked_tree {t} {cs = cs} {k} {b = b} a n =
    let low : 16 ≤ count b.node.value = omega (arith, n.count_is, (at.child_level a).0) in (
      (at.levels a).0,
      omega (arith, rows.length-trees (set cs k b), length-set cs k b, (at.levels a).1),
      trees-set (depth t - 1) cs k b (at.levels a).2 low (rw (at.child_depth a) at n.level),
    )

pub marked_count : {A : Type 0} {t u : Tree} {cs : List (Child A)} {k : ℕ} {c b : Child A} {p : Pair} {m : Mark} → IsAt t u cs k c p → IsMarked u c b p m
    → length (trees_of (forest_of (trees (set cs k b)))) ≡ count t
marked_count {t} {cs = cs} {k} {b = b} a n = rows.length-trees (set cs k b) ∙ length-set cs k b ∙ sym (rows.length-trees cs) ∙ sym (ap count a.seen)

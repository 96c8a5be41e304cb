use Rattle.std.proofs.Common.{rules, arith, ◌∙◌, sym, ◌≡◌, ◌+◌, ◌^◌, ◌<◌, length, vec_len}
use Rattle.node_parts.specs.Tree.{depth}
use Rattle.node_parts.proofs.Children.{sound_inner}
use Rattle.btree_node.proofs.Above as above
use Rattle.btree_node.proofs.At as at
use Rattle.btree_node.proofs.At.{at_child, at_range}
use Rattle.btree_node.proofs.Fronts as fronts
use Rattle.btree_node.proofs.runs.+run_in.Goals as goal
use Rattle.btree_node.proofs.runs.+run_in.Goals.{then-not-is_empty-via-then-not-is_empty, then-not-is_empty-via-else-not-is_empty+then-at-len}

pub index-requires : goal.index-requires
index-requires g t c =
    let n : length c.in-Inner.row.items ≡ vec_len c.in-Inner.row = search rules in
    omega (arith, n, at_range _ _ _ _ _ c.node.view_is c.in-Inner.is c.node.invariant c.requires.some c.place-at.ensures)

pub run_in-found-requires : goal.run_in-found-requires
run_in-found-requires g t c κs within =
    let a = at_child _ _ _ _ _ c.index.result.now _ c.node.view_is c.in-Inner.is c.node.invariant c.requires.ascending c.requires.some c.requires.tree
    c.place-at.ensures c.index.ensures c.deref-in-Inner.ensures in
    let n : length c.in-Inner.row.items ≡ vec_len c.in-Inner.row = search rules in
    let lower : depth c.deref-in-Inner.result.now < depth c.args.node.now = at.lower a in
    (search (rules, lower), (search rules, (at.ascending a, (at.level a, at.some a))))

pub overflow_add-at : goal.overflow_add-at
overflow_add-at g t c =
    let n : length c.in-Inner.row.items ≡ vec_len c.in-Inner.row = search rules in
    let range = at_range _ _ _ _ _ c.node.view_is c.in-Inner.is c.node.invariant c.requires.some c.place-at.ensures in
    let small : c.place-at.result + 1 < 2 ^ 64 = omega (arith, range, n, (sound_inner _ _ c.node.invariant c.in-Inner.is).0) in
    search (rules, small)

pub overflow_add-at-in-Inner : goal.overflow_add-at-in-Inner
overflow_add-at-in-Inner g t c =
    let n : length c.in-Inner.row.items ≡ vec_len c.in-Inner.row = search rules in
    let range = at_range _ _ _ _ _ c.node.view_is c.in-Inner.is c.node.invariant c.requires.some c.place-at.ensures in
    let small : c.place-at.result + 1 < 2 ^ 64 = omega (arith, range, n, (sound_inner _ _ c.node.invariant c.in-Inner.is).0) in
    search (rules, small)

pub index-requires-in-Inner : goal.index-requires-in-Inner
index-requires-in-Inner g t c =
    let n : length c.in-Inner.row.items ≡ vec_len c.in-Inner.row = search rules in
    let range = at_range _ _ _ _ _ c.node.view_is c.in-Inner.is c.node.invariant c.requires.some c.place-at.ensures in
    omega (arith, range, n, c.if-at-len.false, c.len.ensures)

pub returns-then-not-is_empty : goal.returns-then-not-is_empty
returns-then-not-is_empty g t c =
    let a = at_child _ _ _ _ _ c.index.result.now _ c.node.view_is c.in-Inner.is c.node.invariant c.requires.ascending c.requires.some c.requires.tree
    c.place-at.ensures c.index.ensures c.deref-in-Inner.ensures in
    let n : length c.in-Inner.row.items ≡ vec_len c.in-Inner.row = search rules in
    elim c.then-not-is_empty.branch [
      | then-not-is_empty-via-then-not-is_empty w ↦ fronts.front_found a _ c.run_in-found.ensures (fronts.is_some _ _ c.is_empty.ensures w.if-not-is_empty.true)
      | then-not-is_empty-via-else-not-is_empty+then-at-len w ↦ fronts.front_last a _ c.run_in-found.ensures
          (fronts.is_none _ _ c.is_empty.ensures w.if-not-is_empty.false) (w.if-at-len.true ∙ w.len.ensures ∙ sym n)
    ]

pub first_run-requires : goal.first_run-requires
first_run-requires g t c =
    let a = at_child _ _ _ _ _ c.index.result.now _ c.node.view_is c.in-Inner.is c.node.invariant c.requires.ascending c.requires.some c.requires.tree
    c.place-at.ensures c.index.ensures c.deref-in-Inner.ensures in
    let n : length c.in-Inner.row.items ≡ vec_len c.in-Inner.row = search rules in
    let l : c.place-at.result + 1 < length c.in-Inner.row.items = omega (arith, a.in_range, c.if-at-len.false, c.len.ensures, n) in
    record { some = above.next_some _ _ _ _ a.labelled l c.index-in-Inner.ensures c.deref-in-Inner-2.ensures }

pub returns-else-at-len : goal.returns-else-at-len
returns-else-at-len g t c =
    let a = at_child _ _ _ _ _ c.index.result.now _ c.node.view_is c.in-Inner.is c.node.invariant c.requires.ascending c.requires.some c.requires.tree
    c.place-at.ensures c.index.ensures c.deref-in-Inner.ensures in
    let n : length c.in-Inner.row.items ≡ vec_len c.in-Inner.row = search rules in
    let l : c.place-at.result + 1 < length c.in-Inner.row.items = omega (arith, a.in_range, c.if-at-len.false, c.len.ensures, n) in
    let some = above.next_some _ _ _ _ a.labelled l c.index-in-Inner.ensures c.deref-in-Inner-2.ensures in
    fronts.front_next a _ c.run_in-found.ensures _ _ _
    (fronts.is_none _ _ c.is_empty.ensures c.if-not-is_empty.false) l c.index-in-Inner.ensures c.deref-in-Inner-2.ensures some c.first_run.ensures

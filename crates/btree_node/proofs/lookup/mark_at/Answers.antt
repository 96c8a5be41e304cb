use Rattle.std.proofs.Common.{arith, ◌∙◌, sym, ap, ◌≡◌, ◌<◌, get_or, length}
use Rattle.std.specs.Bool.{then_some}
use Rattle.std.specs.Ordering.{is_eq}
use Rattle.node_parts.specs.Order.{order}
use Rattle.node_parts.specs.declared.Entry.{Entry}
use Rattle.btree_node.proofs.Found.{absent, found, place_of}
use Rattle.btree_node.proofs.lookup.mark_at.Goals as goal

pub returns-in_err-entry : goal.returns-in_err-entry
returns-in_err-entry c =
    c.from_residual.ensures ∙ sym (absent c.args.row.now c.args.pair.now (omega (arith, c.in_err-entry.ensures.lookup.3, c.requires.place)))

pub returns : goal.returns
unfolding order
returns c =
    let here : c.args.at ≡ place_of c.args.row.now c.args.pair.now = c.requires.place in
    let inside : place_of c.args.row.now c.args.pair.now < length c.args.row.now = omega (arith, c.in_ok-entry.ensures.lookup.3.0, here) in
    let item : (d : Entry) → c.in_ok-entry.entry.now ≡ get_or c.args.row.now (place_of c.args.row.now c.args.pair.now) d =
    rw here at c.in_ok-entry.ensures.lookup.3.1 in
    c.then_some.ensures ∙ ap (λ b. then_some b c.in_ok-entry.entry.now.mark) (c.is_eq.ensures ∙ ap is_eq c.compare_pairs.ensures)
    ∙ sym (found c.args.row.now c.args.pair.now c.in_ok-entry.entry.now c.requires.ascending inside item)

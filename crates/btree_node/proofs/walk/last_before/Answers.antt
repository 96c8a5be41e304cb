use Rattle.std.proofs.Common.{arith, ap, sym, ◌∙◌, ◌≡◌, ◌-◌, List, None, suc}
use Rattle.std.specs.List.{last_or}
use Rattle.node_parts.specs.declared.Entry.{Entry}
use Rattle.btree_node.proofs.Below.{before_place, none_at_front}
use Rattle.btree_node.proofs.walk.last_before.Goals as goal

pub returns-then-at-eq0 : goal.returns-then-at-eq0
returns-then-at-eq0 c = sym (ap (λ (es : List Entry). last_or None es)
    (none_at_front c.args.row.now c.args.pair.now c.requires.ascending (sym c.entry_place-at.ensures.place ∙ c.if-at-eq0.true)))

pub returns : goal.returns
returns c =
    let at : suc (c.entry_place-at.result - 1) ≡ c.entry_place-at.result = omega (arith, c.if-at-eq0.false) in
    sym (before_place None c.args.row.now c.args.pair.now (c.entry_place-at.result - 1) c.index-row-at.result c.requires.ascending
    (sym c.entry_place-at.ensures.place ∙ sym at) c.index-row-at.is)

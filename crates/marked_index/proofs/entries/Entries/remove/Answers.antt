use Rattle.std.proofs.Common.{◌≡◌, Some, ap, ◌∙◌}
use Rattle.std.specs.FinMap as map
use Rattle.record_values.specs.Entries.{Index}
use Rattle.btree_node.specs.Contents.{contents}
use Rattle.marked_index.proofs.Counted.{among_all, counted_remove, few_marked}
use Rattle.marked_index.proofs.entries.Entries.remove.Goals as goal

pub recount-self-inside-requires : goal.recount-self-inside-requires
recount-self-inside-requires g c =
    let m = contents c.self.inside.tree in
    let here : map.get m c.args.pair.now ≡ Some c.args.mark = ap (λ (i : Index). map.get i c.args.pair.now) c.self.view_is ∙ c.requires in
    record { among = among_all m _ c.args.pair.now (Some c.args.mark) c.self.invariant here; few = few_marked m _ c.self.invariant }

pub invariant_of-self : goal.invariant_of-self
invariant_of-self g c =
    let m = contents c.self.inside.tree in
    let here : map.get m c.args.pair.now ≡ Some c.args.mark = ap (λ (i : Index). map.get i c.args.pair.now) c.self.view_is ∙ c.requires in
    counted_remove m _ c.args.pair.now (Some c.args.mark) _ _ c.self.invariant here c.remove.ensures c.recount-self-inside.ensures

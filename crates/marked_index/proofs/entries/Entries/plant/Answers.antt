use Rattle.std.proofs.Common.{◌≡◌, ◌<◌, None, ap, sym, subst, ◌∙◌}
use Rattle.std.specs.FinMap as map
use Rattle.btree_node.specs.declared.limits.TheConstants.{ENTRIES_MAX}
use Rattle.record_values.specs.Entries.{Index}
use Rattle.btree_node.specs.Contents.{contents}
use Rattle.marked_index.proofs.Counted.{counted_insert, few_marked}
use Rattle.marked_index.proofs.entries.Entries.plant.Goals as goal

pub plan_insert-requires : goal.plan_insert-requires
plan_insert-requires g c = record { room = subst (λ (m : Index). map.len m < ENTRIES_MAX) (sym c.self.view_is) c.requires.room }

pub recount-self-inside-requires-clause-few : goal.recount-self-inside-requires-clause-few
recount-self-inside-requires-clause-few g c = few_marked _ _ c.self.invariant

pub invariant_of-self : goal.invariant_of-self
invariant_of-self g c =
    let m = contents c.self.inside.tree in
    let absent : map.get m c.args.pair.now ≡ None = ap (λ (i : Index). map.get i c.args.pair.now) c.self.view_is ∙ c.requires.absent in
    counted_insert m _ c.args.pair.now None _ _ c.self.invariant absent c.args.mark
    (λ _. subst (λ (i : Index). map.len i < ENTRIES_MAX) (sym c.self.view_is) c.requires.room)
    (c.insert.ensures ∙ ap (λ p. map.insert m p c.args.mark) c.in_ok-plan.ensures.pair) c.recount-self-inside.ensures

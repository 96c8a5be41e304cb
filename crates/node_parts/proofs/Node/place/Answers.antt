use Rattle.std.proofs.Common.{ap, ◌∙◌, sym, ◌-◌, ℕ}
use Rattle.node_parts.proofs.Children.{sound_inner}
use Rattle.node_parts.proofs.RowLemmas.{inner_is}
use Rattle.node_parts.proofs.Places.{place_in-row}
use Rattle.node_parts.proofs.Node.place.Goals as goal

pub returns-in-Inner : goal.returns-in-Inner
returns-in-Inner g c =
    let t = inner_is _ _ _ c.self.view_is c.in-Inner.is in
    let s = sound_inner _ _ c.self.invariant c.in-Inner.is in
    c.saturating_sub.ensures ∙ ap (λ (n : ℕ). n - 1) (rw c.deref-in-Inner.ensures.value at c.child_place.ensures.place)
    ∙ sym (place_in-row c.args.pair.now c.in-Inner.row.items _ t s.2)

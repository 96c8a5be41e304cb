use Rattle.std.proofs.Common.{ap, inl, inr, sym, ◌∙◌}
use Rattle.std.specs.FinMap.{get}
use Rattle.record_values.specs.Orders.{is_above}
use Rattle.online_index.proofs.laws.every_index.Goals as goal
use Rattle.online_model.specs.World.{pair_at}

pub returns-clause-sound : goal.returns-clause-sound
returns-clause-sound c = λ b w steps v begun run h p live.
    c.every_order.ensures.sound b w steps begun run p (ap (λ m. get m p) h.entries ∙ live)

pub returns-clause-covered : goal.returns-clause-covered
returns-clause-covered c = λ b w steps v begun run h r key row quiet covered.
    sym (ap (λ m. get m (pair_at r key)) h.entries)
    ∙ c.every_order.ensures.covered b w steps begun run r key row quiet (elim covered [
      | inl complete ↦ inl (h.life ∙ complete)
      | inr passed ↦ inr (ap (λ o. is_above o (pair_at r key)) h.bound ∙ passed)
    ])

pub returns-clause-exact : goal.returns-clause-exact
returns-clause-exact c = λ b w steps v begun run h complete quiet p.
    let same = c.every_order.ensures.exact b w steps begun run (h.life ∙ complete) quiet p in
    (λ live. same.0 (ap (λ m. get m p) h.entries ∙ live), λ is. sym (ap (λ m. get m p) h.entries) ∙ same.1 is)

-- What plans set, and the entries after the steps of the machine.
use Rattle.std.proofs.Common.{None, Option, Some, ap, inl, inr, refl, sym, ◌∙◌, ◌≡◌}
use Rattle.std.specs.FinMap.{get, same_map}
use Rattle.record_values.specs.Entries.{Index}
use Rattle.record_values.specs.Maps.{get-set_at_other, get-set_at_same, pair_exact, set_at}
use Rattle.record_values.specs.Orders.{pair_cmp-IsAntisymmetric, pair_cmp_total}
use Rattle.record_values.specs.declared.pair.Mark.{Mark}
use Rattle.record_values.specs.declared.pair.Pair.{Pair}
use Rattle.online_model.specs.World.{built}
use Rattle.online_plan.specs.Plans.{attempt_plan, set_in}
use Rattle.online_plan.proofs.Following.{pair_decided}

module _ (m : Index) (p : Pair) where
  -- to set what is there changes nothing
  same_entry : (o : Option Mark) → get m p ≡ o → m ≡ set_at m p o
  same_entry o e = same_map pair_cmp_total pair_cmp-IsAntisymmetric m (set_at m p o) (λ q. elim (pair_decided q p) [
    | inl same ↦ ap (get m) same ∙ e ∙ sym (ap (get (set_at m p o)) same ∙ get-set_at_same pair_exact m p o)
    | inr n ↦ sym (get-set_at_other pair_exact m p o q n)
  ])

  pub attempt_set : (o : Option Mark) → get m p ≡ o → set_in m (attempt_plan p o) ≡ set_at m p (built o)
  attempt_set None e = refl
  attempt_set (Some mark) e = same_entry (Some mark) e

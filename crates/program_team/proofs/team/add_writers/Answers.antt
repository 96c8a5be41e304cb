use Rattle.std.proofs.Common.{◌≡◌, [], List, Some, arith, subst, sym, ℕ, ap, ◌∙◌, ⊎_elim}
use Rattle.std.proofs.lemmas.Grind.{common_steps}
use Rattle.std.specs.Prelude.{slice_get}
use Rattle.program_team.proofs.Orders.{get_either}
use Rattle.program_team.proofs.team.add_writers.Goals as goal

pub loop-seat-preserved : goal.loop-seat-preserved
loop-seat-preserved g c = record {
  seats = grind (arith, common_steps);
  none = subst (λ (writers : List _). (k : ℕ) (w : _) → slice_get writers k ≡ Some w → w.acknowledged.items ≡ []) (sym c.in_ok-push.ensures.items)
      (λ k w at. ⊎_elim (λ early. c.loop-seat.invariant.none k w early) (λ last. ap (λ v. v.acknowledged.items) last.1
      ∙ c.new-in-loop-seat.ensures.items) (get_either c.loop-seat.writers.items _ w k at));
}

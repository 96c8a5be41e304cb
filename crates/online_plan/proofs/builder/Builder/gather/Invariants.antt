use Rattle.std.proofs.Common.{List, length, ◌++◌, ◌≡◌, ◌≤◌, ◌⊎◌}
use Rattle.record_values.specs.declared.pair.Pair.{Pair}
use Rattle.online_model.specs.World.{IsBuilding, World}
use Rattle.online_plan.specs.Building.{Follows}
use Rattle.online_plan.proofs.builder.Builder.gather.Given as goal

abbrev pub invariant-loop-gathered : goal.invariant-loop-gathered
invariant-loop-gathered g l = ((w : World) → Follows l.fn.self w → Follows l.self w)
    × ((more : List Pair) × (l.self.batch ≡ l.fn.self.batch ++ more)) × (length l.self.batch ≡ l.gathered)
    × (l.self.life ≡ l.fn.self.life) × (l.self.attempts ≡ l.fn.self.attempts) × (l.self.scan.pages ≡ l.fn.self.scan.pages)
    × IsBuilding l.self.life × ((length l.self.batch ≤ l.most) ⊎ (l.self ≡ l.fn.self))

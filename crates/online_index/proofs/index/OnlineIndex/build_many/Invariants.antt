use Rattle.std.proofs.Common.{◌≡◌}
use Rattle.online_index.proofs.Running.{HasReplied}
use Rattle.online_index.specs.Builds.{HasMadeRun}
use Rattle.online_index.specs.Standing.{StandsFor}
use Rattle.online_model.specs.World.{World}
use Rattle.online_index.proofs.index.OnlineIndex.build_many.Given as goal

abbrev pub invariant-loop-made : goal.invariant-loop-made
invariant-loop-made g l = ((w : World) → StandsFor l.fn.self w → HasMadeRun w l.made l.fn.notes.items l.notes.items l.self)
    × HasReplied l.fn.self l.made l.fn.notes.items l.notes.items l.self
    × (l.self.capacity ≡ l.fn.self.capacity)

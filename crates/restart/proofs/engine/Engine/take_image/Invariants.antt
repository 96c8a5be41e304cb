use Rattle.restart.specs.Copies.{copies_left}
use Rattle.restart.specs.Repeated.{TakesImage}
use Rattle.restart.specs.declared.event.Reply.{Reply}
use Rattle.restart.specs.declared.parts.EngineParts.{EngineParts}
use Rattle.restart.proofs.engine.Engine.take_image.Given as goal

-- the image that is taken from here on is the one that is taken by all copies
abbrev pub invariant-copies : goal.invariant-copies
invariant-copies g l = record {
  goes_on : (final : Reply g.row.A.Denot) (new : EngineParts g.row.D.Denot g.row.A.Denot) → TakesImage g.D.Device.past_of g.D.Device.failures final l.self new
      → TakesImage g.D.Device.past_of g.D.Device.failures final l.initial.self new;
}

abbrev pub decreases-copies : goal.decreases-copies
decreases-copies g l = copies_left l.self

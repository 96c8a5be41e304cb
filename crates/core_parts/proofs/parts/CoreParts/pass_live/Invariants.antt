use Rattle.core_parts.specs.Parts.{parts_of}
use Rattle.core_parts.proofs.KeptLive.{IsOnWay}
use Rattle.core_parts.proofs.parts.CoreParts.pass_live.Given as goal

abbrev pub invariant-loop : goal.invariant-loop
invariant-loop g l = IsOnWay (parts_of l.fn.self) l.counter (parts_of l.self)

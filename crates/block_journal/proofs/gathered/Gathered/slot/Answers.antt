use Rattle.std.proofs.Common.{inl, inr, refl, arith}
use Rattle.block_journal.proofs.gathered.Gathered.slot.Goals as goal

pub returns-in-Some : goal.returns-in-Some
returns-in-Some g c = let at = c.in-Some.ensures.found in record { slot = inl at; low = omega (arith, at.low) }

pub returns-in-None : goal.returns-in-None
returns-in-None g c = record { slot = inr (refl, c.in-None.ensures.none); low = omega arith }

use Rattle.core_parts.specs.Opening.{MayStand}
use Rattle.core_parts.specs.Parts.{parts_of}
use Rattle.core_parts.proofs.Walked.{AreChecked, left_above}
use Rattle.core_parts.proofs.parts.CoreParts.entries_may_stand.Given as goal

abbrev pub invariant-loop-entry : goal.invariant-loop-entry
invariant-loop-entry g l = AreChecked (parts_of l.self).index.entries (MayStand (parts_of l.self)) l.last

abbrev pub decreases-loop-entry : goal.decreases-loop-entry
decreases-loop-entry g l = left_above (parts_of l.self).index.entries l.last

use Rattle.std.proofs.Common.{ℕ, ◌<◌}
use Rattle.core_parts.specs.Opening.{IsRowShown}
use Rattle.core_parts.specs.Parts.{parts_of}
use Rattle.core_parts.proofs.parts.CoreParts.is_page_shown.Given as goal

abbrev pub invariant-loop-slot : goal.invariant-loop-slot
invariant-loop-slot g l = (k : ℕ) → k < l.slot → IsRowShown (parts_of l.self) (record { page = l.page; slot = k })

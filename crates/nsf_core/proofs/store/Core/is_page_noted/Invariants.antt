use Rattle.std.proofs.Common.{ℕ, ◌<◌}
use Rattle.core_parts.specs.Opening.{IsRowShown}
use Rattle.nsf_core.specs.Value.{value_of}
use Rattle.nsf_core.proofs.store.Core.is_page_noted.Given as goal

abbrev pub invariant-loop-slot : goal.invariant-loop-slot
invariant-loop-slot g l = (k : ℕ) → k < l.slot → IsRowShown (value_of l.self) (record { page = l.page; slot = k })

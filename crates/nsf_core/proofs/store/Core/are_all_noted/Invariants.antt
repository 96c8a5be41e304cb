use Rattle.std.proofs.Common.{◌<◌}
use Rattle.record_values.specs.Values.{Place}
use Rattle.record_values.specs.declared.rid.TheConstants.{SLOTS_PER_PAGE}
use Rattle.core_parts.specs.Opening.{IsRowShown}
use Rattle.nsf_core.specs.Value.{value_of}
use Rattle.nsf_core.proofs.store.Core.are_all_noted.Given as goal

abbrev pub invariant-loop-page : goal.invariant-loop-page
invariant-loop-page g l = (r : Place) → r.page < l.page → r.slot < SLOTS_PER_PAGE → IsRowShown (value_of l.self) r

-- What is noted of a core while its entries are looked through. (No public clause cites this.)
use Rattle.std.specs.Prelude.{◌≡◌, ◌<◌, ◌+◌, ◌*◌, ℕ, List, Bool, true, false, slice_index_or}
use Rattle.record_values.specs.Values.{Place}
use Rattle.record_values.specs.declared.rid.TheConstants.{SLOTS_PER_PAGE}
use Rattle.core_parts.specs.Opening.{IsRowShown}
use Rattle.core_parts.specs.View.{CoreValue}

-- the number of a place among those of all pages
abbrev pub number_of : Place → ℕ
number_of r = r.page * 64 + r.slot

-- at each place that is noted the row is shown, if there is one
abbrev pub AreNoted : CoreValue → List Bool → Type 0
AreNoted v noted = (r : Place) → r.slot < SLOTS_PER_PAGE → slice_index_or noted (number_of r) false ≡ true
    → IsRowShown v r

-- How large a store is, and how many sectors that takes.
use Rattle.std.specs.Prelude.{ℕ, ◌≤◌, ◌+◌, ◌*◌, ◌/◌, ◌-◌, Bool, ◌&&◌, nat_le}
use Rattle.record_values.specs.declared.geometry.TheConstants.{PAGES_MAX, ENTRIES_MIN, ENTRIES_MAX, LOG_SLOTS_MIN}
use Rattle.record_values.specs.declared.geometry.TheConstants.{LARGE_PAGES_MAX, LARGE_ENTRIES_MAX, LARGE_LOG_SLOTS_MAX}
use Rattle.record_values.specs.declared.geometry.TheConstants.{LOG_SLOTS_MAX, FRONT_SECTORS, HEADER_SECTORS}
use Rattle.record_values.specs.declared.geometry.TheConstants.{HEADS_SECTORS}
use Rattle.record_values.specs.declared.geometry.TheConstants.{SLOT_SECTORS}
use Rattle.record_values.specs.Version.{undo_sectors, page_sectors, entries_per_sector}
use Rattle.record_values.specs.declared.version.Version.{Version}
use Rattle.record_values.specs.declared.version.Version.TheVariants.{Two}

-- pages of rows, entries of the index, slots of a log
pub record GeometryValue : Type 0 where
  pub pages : ℕ
  pub entries : ℕ
  pub slots : ℕ

-- each number is within its limits
pub record IsGeometry (g : GeometryValue) : Type 0 where
  pub some_page : 1 ≤ g.pages
  pub most_pages : g.pages ≤ LARGE_PAGES_MAX
  pub least_entries : ENTRIES_MIN ≤ g.entries
  pub most_entries : g.entries ≤ LARGE_ENTRIES_MAX
  pub least_slots : LOG_SLOTS_MIN ≤ g.slots
  pub most_slots : g.slots ≤ LARGE_LOG_SLOTS_MAX

-- no number is above the limits of a small store, which are those of versions 1 and 2 of the format
abbrev pub is_small : GeometryValue → Bool
is_small g = nat_le g.pages PAGES_MAX && (nat_le g.entries ENTRIES_MAX && nat_le g.slots LOG_SLOTS_MAX)

-- n things, so many to a sector
abbrev pub sectors_for : ℕ → ℕ → ℕ
sectors_for n to_a_sector = (n + (to_a_sector - 1)) / to_a_sector

-- a half in a version: header, transaction heads, undo items, pages, entries, log
abbrev pub half_sectors_in : Version → GeometryValue → ℕ
half_sectors_in v g = HEADER_SECTORS + HEADS_SECTORS + undo_sectors v + page_sectors v * g.pages + sectors_for g.entries
    (entries_per_sector v) + SLOT_SECTORS * g.slots

-- what stands before the halves, and the two halves
abbrev pub sectors_in : Version → GeometryValue → ℕ
sectors_in v g = FRONT_SECTORS + 2 * half_sectors_in v g

-- both of version 2, which is written
abbrev pub half_sectors_of : GeometryValue → ℕ
half_sectors_of g = half_sectors_in Two g

abbrev pub sectors_of : GeometryValue → ℕ
sectors_of g = sectors_in Two g

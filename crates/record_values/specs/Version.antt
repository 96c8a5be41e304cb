-- What differs between the versions of the format: how long keys and bodies are at most, which kinds of record there
-- are, and how many sectors the parts of a half take.
use Rattle.std.specs.Prelude.{ℕ}
use Rattle.record_values.specs.declared.key.TheConstants.{KEY_MAX, BODY_MAX}
use Rattle.record_values.specs.declared.geometry.TheConstants.{UNDO_SECTORS, PAGE_SECTORS, ENTRIES_PER_SECTOR}
use Rattle.record_values.specs.declared.version.TheConstants.{OLD_KEY_MAX, OLD_BODY_MAX, OLD_UNDO_SECTORS}
use Rattle.record_values.specs.declared.version.TheConstants.{OLD_PAGE_SECTORS}
use Rattle.record_values.specs.declared.version.TheConstants.{OLD_ENTRIES_PER_SECTOR}
use Rattle.record_values.specs.declared.version.Version.{Version}
use Rattle.record_values.specs.declared.version.Version.TheVariants.{One, Two}

-- the most bytes of a key
abbrev pub key_max : Version → ℕ
key_max One = OLD_KEY_MAX
key_max Two = KEY_MAX

-- the most bytes of a body
abbrev pub body_max : Version → ℕ
body_max One = OLD_BODY_MAX
body_max Two = BODY_MAX

-- the version has a record for the drop of an index
abbrev pub HasDrop : Version → Type 0
HasDrop One = ⊥
HasDrop Two = Unit {0}

-- the sectors of an image's undo items
abbrev pub undo_sectors : Version → ℕ
undo_sectors One = OLD_UNDO_SECTORS
undo_sectors Two = UNDO_SECTORS

-- the sectors of a page of rows
abbrev pub page_sectors : Version → ℕ
page_sectors One = OLD_PAGE_SECTORS
page_sectors Two = PAGE_SECTORS

-- how many entries of the index lie in a sector
abbrev pub entries_per_sector : Version → ℕ
entries_per_sector One = OLD_ENTRIES_PER_SECTOR
entries_per_sector Two = ENTRIES_PER_SECTOR

-- Where the parts of a half lie: header, transaction heads, undo items, pages, entries, log.
use Rattle.std.specs.Prelude.{◌≡◌, ℕ, ◌+◌, ◌*◌, ◌<◌, ◌≤◌}
use Rattle.record_values.specs.declared.geometry.TheConstants.{FRONT_SECTORS, HEADER_SECTORS, HEADS_SECTORS}
use Rattle.record_values.specs.declared.geometry.TheConstants.{UNDO_SECTORS}
use Rattle.record_values.specs.declared.geometry.TheConstants.{PAGE_SECTORS, SLOT_SECTORS}
use Rattle.record_values.specs.declared.version.Version.{Version}
use Rattle.record_values.specs.declared.version.Version.TheVariants.{Two}
use Rattle.record_values.specs.GeometryValue.{GeometryValue, half_sectors_in, half_sectors_of}
use Rattle.store_image_half.specs.Layout.{image_end_in}
use Rattle.flip_image.specs.declared.half.Half.{Half}
use Rattle.flip_image.specs.declared.half.Half.TheVariants.{A, B}

-- the half that isn't this one
abbrev pub other : Half → Half
other A = B
other B = A

-- ---- in a version of the format

-- half A lies behind the superblock and the flip sector, half B behind half A; each begins with its image's header
abbrev pub header_sector_in : Version → GeometryValue → Half → ℕ
header_sector_in v g A = FRONT_SECTORS
header_sector_in v g B = FRONT_SECTORS + half_sectors_in v g

-- a half's log begins where its image ends
abbrev pub log_first_in : Version → GeometryValue → Half → ℕ
log_first_in v g half = image_end_in v g (header_sector_in v g half)

-- ---- in version 2, which is written

-- where a half begins, with its image's header
abbrev pub header_sector : GeometryValue → Half → ℕ
header_sector g half = header_sector_in Two g half

-- where a half's transaction heads lie
abbrev pub heads_sector : GeometryValue → Half → ℕ
heads_sector g half = header_sector g half + HEADER_SECTORS

-- where its undo items begin
abbrev pub undo_first : GeometryValue → Half → ℕ
undo_first g half = heads_sector g half + HEADS_SECTORS

-- where its pages begin
abbrev pub pages_first : GeometryValue → Half → ℕ
pages_first g half = undo_first g half + UNDO_SECTORS

-- the first sector of a page
abbrev pub page_sector : GeometryValue → Half → ℕ → ℕ
page_sector g half page = pages_first g half + PAGE_SECTORS * page

-- where its entries begin
abbrev pub entries_first : GeometryValue → Half → ℕ
entries_first g half = page_sector g half g.pages

-- where its log begins
abbrev pub log_first : GeometryValue → Half → ℕ
log_first g half = log_first_in Two g half

-- the gate of a slot of the log
abbrev pub gate_sector : GeometryValue → Half → ℕ → ℕ
gate_sector g half slot = log_first g half + SLOT_SECTORS * slot

-- a sector of the half
abbrev pub InHalf : GeometryValue → Half → ℕ → Type 0
InHalf g half n = (header_sector g half ≤ n) × (n < header_sector g half + half_sectors_of g)

-- a sector of the half's image
abbrev pub InHalfImage : GeometryValue → Half → ℕ → Type 0
InHalfImage g half n = (header_sector g half ≤ n) × (n < log_first g half)

-- a sector of the log
abbrev pub InLog : GeometryValue → Half → ℕ → Type 0
InLog g half n = (log_first g half ≤ n) × (n < gate_sector g half g.slots)

-- a gate of the log
abbrev pub IsLogGate : GeometryValue → Half → ℕ → Type 0
IsLogGate g half n = (slot : ℕ) × (slot < g.slots) × (n ≡ gate_sector g half slot)

-- a store's geometry, and which half is current
pub record HalvesValue : Type 0 where
  pub geometry : GeometryValue
  pub current : Half

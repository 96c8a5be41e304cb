-- Where the parts of an image lie, behind its first sector: header, transaction heads, undo items, pages, entries.
use Rattle.std.specs.Prelude.{ℕ, ◌+◌, ◌*◌, ◌/◌, ◌%◌, ◌<◌, ◌≤◌, List, slice_range}
use Rattle.std.specs.List.{concat}
use Rattle.sector_device.specs.Disk.{CrashState, sector}
use Rattle.records.specs.declared.change.TheConstants.{CHANGES_MAX}
use Rattle.record_values.specs.declared.geometry.TheConstants.{HEADER_SECTORS, HEADS_SECTORS, PAGE_SECTORS}
use Rattle.record_values.specs.declared.geometry.TheConstants.{ENTRIES_PER_SECTOR}
use Rattle.record_values.specs.declared.version.Version.{Version}
use Rattle.record_values.specs.declared.version.Version.TheVariants.{One, Two}
use Rattle.record_values.specs.Version.{undo_sectors, page_sectors, entries_per_sector}
use Rattle.record_values.specs.GeometryValue.{GeometryValue, sectors_for}
use Rattle.store_image_parts.specs.Spelling.{row_size}
use Rattle.store_image_half.specs.declared.parts.TheConstants.{EDGE_SIZE}

-- the sector of the transaction heads
abbrev pub heads_at : ℕ → ℕ
heads_at first = first + HEADER_SECTORS

-- the first sector of the undo items
abbrev pub undo_at : ℕ → ℕ
undo_at first = heads_at first + HEADS_SECTORS

-- ---- in a version of the format

-- how many undo items lie in a sector
abbrev pub items_per_sector : Version → ℕ
items_per_sector One = 2
items_per_sector Two = 1

-- the first sector of a page
abbrev pub page_at_in : Version → ℕ → ℕ → ℕ
page_at_in v first page = undo_at first + undo_sectors v + page_sectors v * page

-- the first sector of the entries
abbrev pub entries_at_in : Version → GeometryValue → ℕ → ℕ
entries_at_in v g first = page_at_in v first g.pages

-- the sector behind the image
abbrev pub image_end_in : Version → GeometryValue → ℕ → ℕ
image_end_in v g first = entries_at_in v g first + sectors_for g.entries (entries_per_sector v)

-- a sector of the image
abbrev pub InImageIn : Version → GeometryValue → ℕ → ℕ → Type 0
InImageIn v g first n = (first ≤ n) × (n < image_end_in v g first)

-- ---- pieces, none of which crosses a sector's end

-- the j-th of the pieces of this size that some bytes are cut into
abbrev pub cut : List ℕ → (size j : ℕ) → List ℕ
cut bytes size j = slice_range bytes (size * j) (size * j + size)

-- the sector of the i-th of the pieces that lie from sector `at` on, so many to a sector
abbrev pub sector_of_piece : (at per i : ℕ) → ℕ
sector_of_piece at per i = at + i / per

-- and its bytes
abbrev pub piece : CrashState → (at size per i : ℕ) → List ℕ
piece image at size per i = cut (sector image (sector_of_piece at per i)) size (i % per)

-- ---- rows, some of which cross a sector's end in version 2

-- the bytes of so many sectors from sector `at` on, one behind the other
abbrev pub bytes_of : CrashState → (at sectors : ℕ) → List ℕ
bytes_of image at sectors = concat (slice_range image at (at + sectors))

-- the bytes of a page
abbrev pub page_bytes_in : Version → CrashState → (first page : ℕ) → List ℕ
page_bytes_in v image first page = bytes_of image (page_at_in v first page) (page_sectors v)

-- where in the bytes of a page the row of a slot begins
abbrev pub row_start : Version → ℕ → ℕ
row_start v slot = EDGE_SIZE + row_size v * slot

-- the bytes of the row of a slot, of those of its page
abbrev pub row_of : Version → List ℕ → ℕ → List ℕ
row_of v page slot = slice_range page (row_start v slot) (row_start v (slot + 1))

-- ---- in version 2, which is written

abbrev pub page_at : ℕ → ℕ → ℕ
page_at first page = page_at_in Two first page

abbrev pub entries_at : GeometryValue → ℕ → ℕ
entries_at g first = entries_at_in Two g first

abbrev pub image_end : GeometryValue → ℕ → ℕ
image_end g first = image_end_in Two g first

abbrev pub InImage : GeometryValue → ℕ → ℕ → Type 0
InImage g first n = InImageIn Two g first n

abbrev pub page_bytes : CrashState → (first page : ℕ) → List ℕ
page_bytes image first page = page_bytes_in Two image first page

-- a sector of a page
abbrev pub InPage : ℕ → ℕ → ℕ → Type 0
InPage first page n = (page_at first page ≤ n) × (n < page_at first page + PAGE_SECTORS)

-- a sector of the pages
abbrev pub InPages : GeometryValue → ℕ → ℕ → Type 0
InPages g first n = (page_at first 0 ≤ n) × (n < entries_at g first)

-- the sector of one of the first undo items of a head, this many of them
abbrev pub InList : ℕ → (h count n : ℕ) → Type 0
InList first h count n = (undo_at first + CHANGES_MAX * h ≤ n) × (n < undo_at first + CHANGES_MAX * h + count)

-- a sector of this many entries from the entry number `start` on, which begins a sector
abbrev pub InEntries : GeometryValue → ℕ → (start count n : ℕ) → Type 0
InEntries g first start count n = (entries_at g first + start / ENTRIES_PER_SECTOR ≤ n)
    × (n < entries_at g first + sectors_for (start + count) ENTRIES_PER_SECTOR)

-- Where parts lie, in each version of the format.
use Rattle.std.proofs.Common.{◌≡◌, ℕ, ◌+◌, ◌*◌, ◌/◌, ◌%◌, ◌<◌, ◌≤◌, arith}
use Rattle.record_values.specs.Version.{undo_sectors, page_sectors, entries_per_sector}
use Rattle.record_values.specs.declared.version.Version.{Version}
use Rattle.record_values.specs.declared.version.Version.TheVariants.{One, Two}
use Rattle.record_values.specs.GeometryValue.{GeometryValue}
use Rattle.store_image_parts.specs.Spelling.{row_size}
use Rattle.store_image_half.specs.Layout.{heads_at, undo_at, items_per_sector, page_at_in, entries_at_in, image_end_in, row_start, sector_of_piece}

-- ---- in the bytes of a page

-- so do all of them
pub rows_room : (v : Version) → row_start v 63 ≤ 512 * page_sectors v
rows_room One = omega arith
rows_room Two = omega arith

pub page_sectors_most : (v : Version) → page_sectors v ≤ 16
page_sectors_most One = omega arith
page_sectors_most Two = omega arith

-- ---- in the image

module _ (g : GeometryValue) (first : ℕ) where
  -- a page lies before the entries
  pub page_inside : (v : Version) (page : ℕ) → page < g.pages → page_at_in v first page + page_sectors v ≤ entries_at_in v g first
  page_inside One page below = omega (arith, below)
  page_inside Two page below = omega (arith, below)

  pub pages_rise : (v : Version) (page other : ℕ) → page_at_in v first page < page_at_in v first other → page < other
  pages_rise One page other less = omega (arith, less)
  pages_rise Two page other less = omega (arith, less)

  pub pages_begin : (v : Version) (page : ℕ) → page_at_in v first 0 ≤ page_at_in v first page
  pages_begin One page = omega arith
  pages_begin Two page = omega arith

  -- undo items lie before the pages, in the order of head and position
  pub item_inside : (v : Version) (h p : ℕ) → h < 16 → p < 64 → sector_of_piece (undo_at first) (items_per_sector v) (64 * h + p) < page_at_in v first 0
  item_inside One h p head position = omega (arith, head, position)
  item_inside Two h p head position = omega (arith, head, position)

  pub items_rise : (v : Version) (h p k q : ℕ) → q < 64
      → sector_of_piece (undo_at first) (items_per_sector v) (64 * k + q) < sector_of_piece (undo_at first) (items_per_sector v) (64 * h + p) → p < 64 → k ≤ h
  items_rise One h p k q low less high = omega (arith, low, less, high)
  items_rise Two h p k q low less high = omega (arith, low, less, high)

  pub positions_rise : (v : Version) (h p q : ℕ)
      → sector_of_piece (undo_at first) (items_per_sector v) (64 * h + q) < sector_of_piece (undo_at first) (items_per_sector v) (64 * h + p) → q < p
  positions_rise One h p q less = omega (arith, less)
  positions_rise Two h p q less = omega (arith, less)

  -- entries lie in their order
  pub entry_inside : (v : Version) (i : ℕ) → i < g.entries → sector_of_piece (entries_at_in v g first) (entries_per_sector v) i < image_end_in v g first
  entry_inside One i below = omega (arith, below)
  entry_inside Two i below = omega (arith, below)

  pub entries_rise : (v : Version) (i j : ℕ)
      → sector_of_piece (entries_at_in v g first) (entries_per_sector v) j < sector_of_piece (entries_at_in v g first) (entries_per_sector v) i → j < i
  entries_rise One i j less = omega (arith, less)
  entries_rise Two i j less = omega (arith, less)

-- a piece that doesn't begin its sector lies in that of the piece before it
pub same_item_sector : (v : Version) (i : ℕ) → 0 < (i + 1) % items_per_sector v → i / items_per_sector v ≡ (i + 1) / items_per_sector v
same_item_sector One i within = omega (arith, within)
same_item_sector Two i within = absurd (omega (arith, within))

pub same_entry_sector : (v : Version) (i : ℕ) → 0 < (i + 1) % entries_per_sector v → i / entries_per_sector v ≡ (i + 1) / entries_per_sector v
same_entry_sector One i within = omega (arith, within)
same_entry_sector Two i within = omega (arith, within)

-- the first item of a head begins a sector
pub first_begins : (v : Version) (h : ℕ) → ¬ (0 < (64 * h + 0) % items_per_sector v)
first_begins One h within = omega (arith, within)
first_begins Two h within = omega (arith, within)

-- How the parts of an image are spelled, and which values have a spelling.
use Rattle.std.specs.Prelude.{ℕ, ◌<◌, ◌≤◌, ◌^◌, ◌+◌, ◌*◌, ◌-◌, List, [], ◌∷◌, ◌++◌, length, replicate, Option, Some}
use Rattle.std.specs.Prelude.{None}
use Rattle.sector_device.specs.declared.device.TheConstants.{SECTOR_SIZE}
use Rattle.record_values.specs.Version.{key_max, body_max}
use Rattle.record_values.specs.declared.version.Version.{Version}
use Rattle.record_values.specs.declared.version.Version.TheVariants.{Two}
use Rattle.record_values.specs.declared.number.TheConstants.{LAST_NUMBER}
use Rattle.records.specs.declared.change.TheConstants.{CHANGES_MAX}
use Rattle.record_values.specs.declared.row.Row.{Row}
use Rattle.record_values.specs.declared.pair.Pair.{Pair}
use Rattle.record_values.specs.declared.pair.Mark.{Mark}
use Rattle.record_values.specs.declared.pair.Mark.TheVariants.{Live, Marked}
use Rattle.records.specs.Spelling.{short, rid, u16, u32, u64, old_row, new_row, RidFits, RowFitsIn, RowsFitIn}
use Rattle.records.specs.Spelling.{PairFitsIn, IsTxn}
use Rattle.model.specs.declared.life.Life.{Life}
use Rattle.model.specs.declared.life.Life.TheVariants.{Absent, Building, Complete}
use Rattle.store_image_parts.specs.declared.head.TheConstants.{HEAD_SIZE}
use Rattle.store_image_parts.specs.declared.head.Head.{Head}
use Rattle.store_image_parts.specs.declared.header.Header.{Header}
use Rattle.store_image_parts.specs.declared.item.UndoItem.{UndoItem}

unfoldable pub zeros : ℕ → List ℕ
zeros count = replicate count 0

-- these bytes, and zeros up to so many bytes
abbrev pub filled : ℕ → List ℕ → List ℕ
filled size bytes = bytes ++ zeros (size - length bytes)

-- a byte of length, that many bytes, and zeros where there may be more of them
abbrev pub padded : ℕ → List ℕ → List ℕ
padded max bytes = short bytes ++ zeros (max - length bytes)

-- ---- in a version of the format

-- the bytes of a row
abbrev pub row_size : Version → ℕ
row_size v = 3 + key_max v + body_max v

-- the bytes of a pair
abbrev pub pair_size : Version → ℕ
pair_size v = 7 + key_max v

-- the bytes of an undo item
abbrev pub item_size : Version → ℕ
item_size v = 4 * row_size v

-- the bytes of an entry
abbrev pub entry_size : Version → ℕ
entry_size v = 1 + pair_size v

-- 1 and the row, or zeros
abbrev pub row_in : Version → Option Row → List ℕ
row_in v None = zeros (row_size v)
row_in v (Some r) = 1 ∷ (padded (key_max v) r.key ++ padded (body_max v) r.body)

-- a pair: the key with its length in front and zeros behind, then the place
abbrev pub pair_in : Version → Pair → List ℕ
pair_in v p = padded (key_max v) p.key ++ rid p.rid

-- 1 live, 2 marked
abbrev pub mark : Mark → ℕ
mark Live = 1
mark Marked = 2

-- an entry of the index
abbrev pub entry_in : Version → Pair × Mark → List ℕ
entry_in v e = pair_in v e.0 ++ mark e.1 ∷ []

-- the head of a transaction, or zeros
abbrev pub head : Option Head → List ℕ
head None = zeros HEAD_SIZE
head (Some h) = filled HEAD_SIZE (u64 h.txn ++ u16 h.changes)

-- a change that may be taken back: 1, its place, and the rows before and after it
abbrev pub item_in : Version → UndoItem → List ℕ
item_in v i = filled (item_size v) (1 ∷ (rid i.rid ++ (row_in v (old_row i.rows) ++ row_in v (new_row i.rows))))

-- 0, or 1 and the pair
abbrev pub highest_in : Version → Option Pair → List ℕ
highest_in v None = zeros (1 + pair_size v)
highest_in v (Some p) = 1 ∷ pair_in v p

-- how far the index is, and up to which pair it is built
abbrev pub life_in : Version → Life → List ℕ
life_in v Absent = 0 ∷ highest_in v None
life_in v (Building p) = 1 ∷ highest_in v p
life_in v Complete = 2 ∷ highest_in v None

-- the header's sector: life, base and count of entries, then zeros
abbrev pub header_in : Version → Header → List ℕ
header_in v h = filled SECTOR_SIZE (life_in v h.life ++ (u64 h.base ++ u32 h.entries))

-- The limits of each value. A value of the program is within them, but for a base number and a count of changes.
abbrev pub RowFitsInIfSome : Version → Option Row → Type 0
RowFitsInIfSome v None = Unit {0}
RowFitsInIfSome v (Some r) = RowFitsIn v r

-- a head within the format's limits
pub record HeadFits (h : Head) : Type 0 where
  pub txn : IsTxn h.txn
  pub changes : h.changes ≤ CHANGES_MAX

-- so is a head, where there is one
abbrev pub HeadFitsIfSome : Option Head → Type 0
HeadFitsIfSome None = Unit {0}
HeadFitsIfSome (Some h) = HeadFits h

-- an undo item within the limits
pub record ItemFitsIn (v : Version) (i : UndoItem) : Type 0 where
  pub rid : RidFits i.rid
  pub rows : RowsFitIn v i.rows

-- a pair within the limits, where there is one
abbrev pub PairFitsInIfSome : Version → Option Pair → Type 0
PairFitsInIfSome v None = Unit {0}
PairFitsInIfSome v (Some p) = PairFitsIn v p

-- the highest pair of an index that is being built is within the limits
abbrev pub LifeFitsIn : Version → Life → Type 0
LifeFitsIn v Absent = Unit {0}
LifeFitsIn v (Building p) = PairFitsInIfSome v p
LifeFitsIn v Complete = Unit {0}

-- a header within the limits
pub record HeaderFitsIn (v : Version) (h : Header) : Type 0 where
  pub life : LifeFitsIn v h.life
  pub base : h.base ≤ LAST_NUMBER
  pub entries : h.entries < 2 ^ 32

-- ---- in version 2, which is written

abbrev pub row : Option Row → List ℕ
row o = row_in Two o

abbrev pub pair : Pair → List ℕ
pair p = pair_in Two p

abbrev pub entry : Pair × Mark → List ℕ
entry e = entry_in Two e

abbrev pub item : UndoItem → List ℕ
item i = item_in Two i

abbrev pub highest : Option Pair → List ℕ
highest o = highest_in Two o

abbrev pub life : Life → List ℕ
life l = life_in Two l

abbrev pub header : Header → List ℕ
header h = header_in Two h

abbrev pub RowFitsIfSome : Option Row → Type 0
RowFitsIfSome o = RowFitsInIfSome Two o

abbrev pub ItemFits : UndoItem → Type 0
ItemFits i = ItemFitsIn Two i

abbrev pub PairFitsIfSome : Option Pair → Type 0
PairFitsIfSome o = PairFitsInIfSome Two o

abbrev pub LifeFits : Life → Type 0
LifeFits l = LifeFitsIn Two l

abbrev pub HeaderFits : Header → Type 0
HeaderFits h = HeaderFitsIn Two h

-- What a store holds where it begins, and what a reader refuses.
use Rattle.std.specs.Prelude.{◌≡◌, ◌⊎◌, true, cond, ℕ, ◌+◌, ◌<◌, ◌≤◌, List, ◌++◌, length, take, drop, All, codes}
use Rattle.sector_device.specs.Disk.{CrashState, Disk, sector, SameOutside}
use Rattle.sector_device.specs.DevicePast.{Rises}
use Rattle.sector_device.specs.Values.{zero_sector, marked_sector, IsMarked}
use Rattle.record_values.specs.declared.geometry.TheConstants.{FRONT_SECTORS, HEADER_SECTORS, HEADS_SECTORS}
use Rattle.record_values.specs.declared.geometry.TheConstants.{PAGE_SECTORS}
use Rattle.record_values.specs.declared.error.Error.{Error}
use Rattle.record_values.specs.declared.error.Error.TheVariants.{DeviceFailed, NotFormatted, Damaged, DeviceTooSmall}
use Rattle.record_values.specs.declared.error.Error.TheVariants.{OldVersion}
use Rattle.record_values.specs.GeometryValue.{GeometryValue, IsGeometry, is_small, sectors_in}
use Rattle.record_values.specs.declared.version.Version.{Version}
use Rattle.record_values.specs.declared.version.Version.TheVariants.{One, Two}
use Rattle.records.specs.Spelling.{u32}
use Rattle.model.specs.Cells.{Cells}
use Rattle.store_image_half.specs.Image.{IsImageIn}
use Rattle.flip_image.specs.declared.half.Half.{Half}
use Rattle.flip_image.specs.declared.half.Half.TheVariants.{A, B}
use Rattle.flip_image.specs.declared.half.TheConstants.{FLIP_SECTOR}
use Rattle.flip_image.specs.declared.superblock.TheConstants.{SUPERBLOCK_SECTOR, SUPERBLOCK_SIZE, TITLE_SIZE, VERSION}
use Rattle.flip_image.specs.declared.superblock.TheConstants.{OLD_VERSION, LARGE_VERSION}
use Rattle.flip_image.specs.Layout.{header_sector_in, header_sector, heads_sector, pages_first, entries_first}
use Rattle.flip_image.specs.Layout.{undo_first, page_sector, gate_sector, IsLogGate}

-- ---- the sectors in front of the halves

unfoldable pub title : List ℕ
title = codes "NSFINDEX"

-- The number of a version in the superblock of a store of this geometry. Version 2 with a geometry past its limits has
-- a number of its own, 3.
abbrev pub number_of : Version → GeometryValue → ℕ
number_of One g = OLD_VERSION
number_of Two g = cond (is_small g) VERSION LARGE_VERSION

-- in version 1 all stores are small
abbrev pub CanBeIn : Version → GeometryValue → Type 0
CanBeIn One g = is_small g ≡ true
CanBeIn Two g = Unit {0}

-- the title, the version, and the three numbers of the geometry
unfoldable pub superblock_in : Version → GeometryValue → List ℕ
superblock_in v g = title ++ (u32 (number_of v g) ++ (u32 g.pages ++ (u32 g.entries ++ u32 g.slots)))

-- the version has such stores, and the bytes begin with that, and are zero behind it
pub record IsSuperblockIn (v : Version) (g : GeometryValue) (bytes : List ℕ) : Type 0 where
  pub can : CanBeIn v g
  pub spelled : bytes ≡ superblock_in v g ++ drop SUPERBLOCK_SIZE bytes
  pub rest : All (λ b. b ≡ 0) (drop SUPERBLOCK_SIZE bytes)

-- behind the title stands the number of a version older than this one
abbrev pub HasOlderNumber : Version → List ℕ → Type 0
HasOlderNumber One bytes = ⊥
HasOlderNumber Two bytes = take 4 (drop TITLE_SIZE bytes) ≡ u32 OLD_VERSION

-- the half that a flip sector names, by its first byte alone
abbrev pub Names : List ℕ → Half → Type 0
Names bytes A = ¬ IsMarked bytes
Names bytes B = IsMarked bytes

-- the flip sector that is written to name a half
abbrev pub flip_sector : Half → List ℕ
flip_sector A = zero_sector
flip_sector B = marked_sector

-- the content is of a store of this version and geometry, whose current half is this one
pub record IsStoreIn (v : Version) (g : GeometryValue) (half : Half) (image : CrashState) : Type 0 where
  pub limits : IsGeometry g
  pub room : sectors_in v g ≤ length image
  pub superblock-is : IsSuperblockIn v g (sector image SUPERBLOCK_SECTOR)
  pub current : Names (sector image FLIP_SECTOR) half

-- the half holds the image of these cells, which record `base` left
abbrev pub HoldsImageIn : Version → GeometryValue → Half → CrashState → ℕ → Cells → Type 0
HoldsImageIn v g half image base cells = IsImageIn v g (header_sector_in v g half) image base cells

-- ---- in version 2, which is written

abbrev pub IsSuperblock : GeometryValue → List ℕ → Type 0
IsSuperblock g bytes = IsSuperblockIn Two g bytes

abbrev pub IsStore : GeometryValue → Half → CrashState → Type 0
IsStore g half image = IsStoreIn Two g half image

abbrev pub HoldsImage : GeometryValue → Half → CrashState → ℕ → Cells → Type 0
HoldsImage g half image base cells = HoldsImageIn Two g half image base cells

-- What a crash leaves while another half is named current: what it might leave before, or, once all is synced, that
-- with any bytes in the flip sector.
abbrev pub IsFlipping : Disk → CrashState → Type 0
IsFlipping old image = SameOutside (λ n. old.unsynced n ≡ true) old.content image
    ⊎ SameOutside (λ n. n ≡ FLIP_SECTOR) old.content image

-- ---- a half as `format` leaves it

-- these sectors are all zeros, from the first on, this many
abbrev pub AreZeros : CrashState → ℕ → ℕ → Type 0
AreZeros image first count = (i : ℕ) → i < count → All (λ b. b ≡ 0) (sector image (first + i))

-- Header, transaction heads and pages are zeros: no index, base 0, no entry, no transaction, no row.
pub record IsFresh (g : GeometryValue) (half : Half) (image : CrashState) : Type 0 where
  pub header : AreZeros image (header_sector g half) HEADER_SECTORS
  pub heads : AreZeros image (heads_sector g half) HEADS_SECTORS
  pub pages : (page : ℕ) → page < g.pages → AreZeros image (page_sector g half page) PAGE_SECTORS

-- what `format` leaves, but for the log: a store whose half A is current and fresh
pub record IsFormatted (g : GeometryValue) (image : CrashState) : Type 0 where
  pub store : IsStore g A image
  pub fresh : IsFresh g A image

-- each gate of the log is closed
abbrev pub AreGatesClosed : GeometryValue → Half → CrashState → Type 0
AreGatesClosed g half image = (slot : ℕ) → slot < g.slots → ¬ IsMarked (sector image (gate_sector g half slot))

-- each gate of the log is a sector of zeros
abbrev pub AreLogGatesZero : GeometryValue → Half → CrashState → Type 0
AreLogGatesZero g half image = (slot : ℕ) → slot < g.slots → sector image (gate_sector g half slot) ≡ zero_sector

-- a sector that `format` writes: superblock, flip sector, and in half A header, transaction heads, a page, or a gate
abbrev pub IsFormatSector : GeometryValue → ℕ → Type 0
IsFormatSector g n = (n < undo_first g A) ⊎ (((pages_first g A ≤ n) × (n < entries_first g A)) ⊎ IsLogGate g A n)

-- ---- what a reader of a version refuses

-- the content has too few sectors for a superblock and a flip sector, or for the geometry in its superblock
abbrev pub IsTooSmallIn : Version → CrashState → Type 0
IsTooSmallIn v image =
    (length image < FRONT_SECTORS)
    ⊎ ((g : GeometryValue) × IsGeometry g × IsSuperblockIn v g (sector image SUPERBLOCK_SECTOR)
    × (length image < sectors_in v g))

-- it has other bytes where the title should be
pub record IsUntitled (image : CrashState) : Type 0 where
  pub room : FRONT_SECTORS ≤ length image
  pub other : ¬ (take TITLE_SIZE (sector image SUPERBLOCK_SECTOR) ≡ title)

-- behind the title stands an older version, whatever follows it, and however many sectors there are
pub record IsOlder (v : Version) (image : CrashState) : Type 0 where
  pub room : FRONT_SECTORS ≤ length image
  pub titled : take TITLE_SIZE (sector image SUPERBLOCK_SECTOR) ≡ title
  pub older : HasOlderNumber v (sector image SUPERBLOCK_SECTOR)

-- behind the title is no older version, and no superblock of any geometry within its limits
pub record IsSuperblockDamagedIn (v : Version) (image : CrashState) : Type 0 where
  pub room : FRONT_SECTORS ≤ length image
  pub titled : take TITLE_SIZE (sector image SUPERBLOCK_SECTOR) ≡ title
  pub not_older : ¬ HasOlderNumber v (sector image SUPERBLOCK_SECTOR)
  pub none : (g : GeometryValue) → IsGeometry g → ¬ IsSuperblockIn v g (sector image SUPERBLOCK_SECTOR)

-- why the superblock is refused
abbrev pub IsSuperblockRefused : Version → CrashState → Error → Type 0
IsSuperblockRefused v image e =
    ((e ≡ NotFormatted) × IsUntitled image)
    ⊎ (((e ≡ OldVersion) × IsOlder v image) ⊎ ((e ≡ Damaged SUPERBLOCK_SECTOR) × IsSuperblockDamagedIn v image))

-- why the content is refused: each refusal in its state, in which no other one is answered
abbrev pub IsRefusedIn : Version → CrashState → Error → Type 0
IsRefusedIn v image e = ((e ≡ DeviceTooSmall) × IsTooSmallIn v image) ⊎ IsSuperblockRefused v image e

-- of a reader of version 2
abbrev pub IsRefused : CrashState → Error → Type 0
IsRefused image e = IsRefusedIn Two image e

-- the device failed
abbrev pub IsDeviceFailure : ℕ → ℕ → Error → Type 0
IsDeviceFailure before now e = (e ≡ DeviceFailed) × Rises before now

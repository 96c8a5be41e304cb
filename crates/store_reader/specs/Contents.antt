-- What the content of a device gives a reader, and why a reader refuses a content that gives nothing.
use Rattle.std.specs.Prelude.{◌≡◌, ◌⊎◌, ◌+◌, ◌<◌, ◌≤◌, ℕ, List, [], length}
use Rattle.std.specs.FinMap.{len}
use Rattle.sector_device.specs.Disk.{CrashState}
use Rattle.records.specs.RecordValue.{RecordValue}
use Rattle.record_values.specs.GeometryValue.{GeometryValue}
use Rattle.record_values.specs.declared.version.Version.{Version}
use Rattle.record_values.specs.declared.version.Version.TheVariants.{Two}
use Rattle.record_values.specs.declared.error.Error.{Error}
use Rattle.record_values.specs.declared.error.Error.TheVariants.{Damaged}
use Rattle.model.specs.Cells.{Cells, cells_after}
use Rattle.model.specs.Following.{AreFollowing, IsFirstUnfit}
use Rattle.model.specs.Given.{Given, recovered}
use Rattle.gate_log.specs.Area.{Area, Log, HoldsGroupsIn, StandsIn, records_of, IsGateOf, IsFirstDamagedSlotIn}
use Rattle.store_image_half.specs.Image.{no_cells}
use Rattle.store_image_half.specs.Damage.{SaysSomethingIn, TheHeader, IsFirstDamagedIn}
use Rattle.flip_image.specs.declared.half.Half.{Half}
use Rattle.flip_image.specs.Layout.{header_sector_in, log_first_in}
use Rattle.flip_image.specs.Store.{IsStoreIn, HoldsImageIn, IsRefusedIn}

-- ---- what a content gives in a version of the format

-- the area of a half's log
abbrev pub log_area_in : Version → GeometryValue → Half → Area
log_area_in v geometry half = record { first = log_first_in v geometry half; slots = geometry.slots }

-- what is recovered of these cells, which record `base` left, and of the records behind it
abbrev pub given_over : ℕ → Cells → List RecordValue → Given
given_over base cells records = recovered (cells_after cells records) (base + length records)

-- The content is of a store of this geometry. Its current half, this one, holds the image of these cells, which record
-- `base` left; and its log holds these records, each of which can follow the one before, the first of them record
-- `base`.
pub record HoldsStoreIn (v : Version) (image : CrashState) (geometry : GeometryValue) (half : Half) (base : ℕ)
    (cells : Cells) (records : List RecordValue) : Type 0 where
  pub store : IsStoreIn v geometry half image
  pub imaged : HoldsImageIn v geometry half image base cells
  pub groups : List (List RecordValue)
  pub held : HoldsGroupsIn v (log_area_in v geometry half) image groups
  pub all : records ≡ records_of groups
  pub following : AreFollowing geometry.pages base cells records

-- The content gives what is recovered of its current half's image and log; the geometry has a place for each entry of
-- it.
pub record GivesIn (v : Version) (image : CrashState) (geometry : GeometryValue) (given : Given) : Type 0 where
  pub half : Half
  pub base : ℕ
  pub cells : Cells
  pub records : List RecordValue
  pub holds : HoldsStoreIn v image geometry half base cells records
  pub recovered : given ≡ given_over base cells records
  pub room : len given.entries ≤ geometry.entries

-- What a reader found in the content: the geometry, the log with its open slots, and what the content gives.
pub record IsFoundIn (v : Version) (image : CrashState) (geometry : GeometryValue) (log : Log)
    (given : Given) : Type 0 where
  pub gives : GivesIn v image geometry given
  pub area : log.area ≡ log_area_in v geometry gives.half
  pub stands : StandsIn v log image gives.holds.groups

-- the store has been given nothing since it was formatted: its image has no cells, and its log no record
abbrev pub IsUntouchedIn : Version → CrashState → GeometryValue → Type 0
IsUntouchedIn v image geometry = (half : Half) × HoldsStoreIn v image geometry half 0 no_cells []

-- ---- why a content gives nothing in a version

-- the content is of a store, whose current half begins with a header
abbrev pub HasHeaderIn : Version → CrashState → Type 0
HasHeaderIn v image = (geometry : GeometryValue) × (half : Half) × IsStoreIn v geometry half image
    × SaysSomethingIn v geometry (header_sector_in v geometry half) image TheHeader

-- the gate of the group of the first record that can't follow the ones before it, over these cells
pub record IsMisplacedAtIn (v : Version) (geometry : GeometryValue) (half : Half) (image : CrashState) (base : ℕ)
    (cells : Cells) (sector : ℕ) : Type 0 where
  pub groups : List (List RecordValue)
  pub held : HoldsGroupsIn v (log_area_in v geometry half) image groups
  pub index : ℕ
  pub first : IsFirstUnfit geometry.pages base cells (records_of groups) index
  pub gate-is : IsGateOf (log_area_in v geometry half) groups index sector

-- the sector of the half's header, where the records of its log leave more entries than the geometry has places
pub record IsOverfullIn (v : Version) (geometry : GeometryValue) (half : Half) (image : CrashState) (base : ℕ)
    (cells : Cells) (sector : ℕ) : Type 0 where
  pub records : List RecordValue
  pub holds : HoldsStoreIn v image geometry half base cells records
  pub crowded : geometry.entries < len (given_over base cells records).entries
  pub sector-is : sector ≡ header_sector_in v geometry half

-- the half holds an image; and this is the gate of its log's first slot that can't be, else that of the group of the
-- first record that can't follow, else the header, where there are too many entries
pub record IsLogDamagedIn (v : Version) (geometry : GeometryValue) (half : Half) (image : CrashState)
    (sector : ℕ) : Type 0 where
  pub base : ℕ
  pub cells : Cells
  pub imaged : HoldsImageIn v geometry half image base cells
  pub first : IsFirstDamagedSlotIn v (log_area_in v geometry half) image sector
      ⊎ (IsMisplacedAtIn v geometry half image base cells sector ⊎ IsOverfullIn v geometry half image base cells sector)

-- the first sector of a half's image that says nothing; else the first damage of its log
abbrev pub IsHalfDamagedIn : Version → GeometryValue → Half → CrashState → ℕ → Type 0
IsHalfDamagedIn v geometry half image sector = IsFirstDamagedIn v geometry
    (header_sector_in v geometry half) image sector ⊎ IsLogDamagedIn v geometry half image sector

-- the store's current half is damaged at this sector
pub record IsStoreDamagedAtIn (v : Version) (image : CrashState) (sector : ℕ) : Type 0 where
  pub geometry : GeometryValue
  pub half : Half
  pub store : IsStoreIn v geometry half image
  pub damaged : IsHalfDamagedIn v geometry half image sector

-- why the content gives nothing: it is refused as a store, or its current half is damaged
abbrev pub IsUnreadableIn : Version → CrashState → Error → Type 0
IsUnreadableIn v image e = IsRefusedIn v image e ⊎ ((sector : ℕ) × (e ≡ Damaged sector)
    × IsStoreDamagedAtIn v image sector)

-- ---- in version 2, which is written

abbrev pub log_area : GeometryValue → Half → Area
log_area geometry half = log_area_in Two geometry half

abbrev pub HoldsStore : CrashState → GeometryValue → Half → ℕ → Cells → List RecordValue → Type 0
HoldsStore image geometry half base cells records = HoldsStoreIn Two image geometry half base cells records

abbrev pub Gives : CrashState → GeometryValue → Given → Type 0
Gives image geometry given = GivesIn Two image geometry given

abbrev pub IsFound : CrashState → GeometryValue → Log → Given → Type 0
IsFound image geometry log given = IsFoundIn Two image geometry log given

abbrev pub IsUntouched : CrashState → GeometryValue → Type 0
IsUntouched image geometry = IsUntouchedIn Two image geometry

abbrev pub HasHeader : CrashState → Type 0
HasHeader image = HasHeaderIn Two image

abbrev pub IsUnreadable : CrashState → Error → Type 0
IsUnreadable image e = IsUnreadableIn Two image e

-- What the calls do.
use Rattle.std.specs.Prelude.{◌≡◌, ◌⊎◌, ◌<◌, ◌≤◌, ℕ, false, ◌-◌, ◌/◌, ◌++◌, List, length, replicate, take, drop, min}
use Rattle.std.specs.FinMap as map
use Rattle.std.specs.Simd.{first_chunks}
use Rattle.std.specs.declared.alloc.Global.{Global}
use Rattle.record_values.specs.GeometryValue.{GeometryValue, IsGeometry}
use Rattle.record_values.specs.GeometryValue as geometry
use Rattle.record_values.specs.Refusals.{number_of}
use Rattle.record_values.specs.declared.rid.TheConstants.{SLOTS_PER_PAGE}
use Rattle.record_values.specs.declared.error.Error.{Error}
use Rattle.record_values.specs.declared.error.Error.TheVariants.{NoMemory, DeviceFailed, BadGeometry}
use Rattle.sector_device.specs.DevicePast.{Rises}
use Rattle.sector_device.specs.Disk.{CrashState, IsSynced, SameOutside}
use Rattle.sector_device.specs.Values.{zero_sector}
use Rattle.store_file.specs.FileDisk.{past_of, failures_of}
use Rattle.flip_image.specs.declared.half.Half.TheVariants.{A}
use Rattle.flip_image.specs.Store.{AreGatesClosed, IsFormatSector, IsFormatted}
use Rattle.core_model.specs.Histories.{CanOpen}
use Rattle.core_laws.specs.Holds.{committed_rows}
use Rattle.core_parts.specs.Counts.{marked_in}
use Rattle.core_parts.specs.Opening.{opened_of}
use Rattle.core_parts.specs.View.{CoreValue}
use Rattle.restart.specs.Parts.{core_of}
use Rattle.restart.specs.Store.{Past, IsAt, Survives}
use Rattle.restart.specs.declared.event.Event.{Event}
use Rattle.restart.specs.declared.event.Reply.{Reply}
use Rattle.program_commands.specs.Guarded.{ServesGuarded, FlushesGuarded, TakesImageGuarded, knows_failure, store_of}
use Rattle.program_commands.specs.Store as serving
use Rattle.nsf_c.specs.declared.asked.Asked.{Asked}
use Rattle.nsf_c.specs.declared.handle.Handle.{Handle}
use Rattle.nsf_c.specs.declared.spot.Spot.{Spot}
use Rattle.nsf_c.specs.declared.told.Told.{Told}
use Rattle.nsf_c.specs.declared.told.Stat.{Stat}
use Rattle.nsf_c.specs.Asked.{Asks, IsBad}
use Rattle.nsf_c.specs.Handles.{Disk, Opened, Moves}
use Rattle.nsf_c.specs.Spots.{FillsWith}
use Rattle.nsf_c.specs.Told.{plain, life_told, row_told, told_of, status_of}

-- ---- serving

-- The event had this lawful reply, and the store's device has as many sectors as before (`sectors`). A commit behind a
-- known failure of the device is refused by 2 instead, and nothing was done.
abbrev pub Serves : Event → Reply Global → Opened → Opened → Type 0
Serves event reply old new = ServesGuarded past_of failures_of event reply old new

-- Records were flushed up to the last one made, or a refusal came.
abbrev pub Flushes : Reply Global → Opened → Opened → Type 0
Flushes reply old new = FlushesGuarded past_of failures_of reply old new

-- An image was taken and made current, or a refusal came.
abbrev pub TakesImage : Reply Global → Opened → Opened → Type 0
TakesImage reply old new = TakesImageGuarded past_of failures_of reply old new

-- the reply is told, and the call answers its number
abbrev pub Tells : Reply Global → ℕ → Told → Type 0
Tells reply status told = (status ≡ status_of reply) × (told ≡ told_of reply)

-- What is asked for is an event, and no reason is there to refuse it as none; and that event was served.
pub record IsServed (asked : Asked) (key body : List ℕ) (status : ℕ) (told : Told) (room spots : List Spot)
    (old new : Handle) : Type 0 where
  pub event : Event
  pub reply : Reply Global
  pub asks : Asks asked key body event
  pub fine : (number : ℕ) → ¬ IsBad asked key body number
  pub serves : Moves (Serves event reply) old new
  pub tells : Tells reply status told
  pub fills : FillsWith reply room spots

-- What is asked for is no event, and nothing was done.
pub record IsNotServed (asked : Asked) (key body : List ℕ) (status : ℕ) (told : Told) (room spots : List Spot)
    (old new : Handle) : Type 0 where
  pub bad : IsBad asked key body status
  pub unchanged : new.value ≡ old.value
  pub told_is : told ≡ plain 0 0
  pub spots_stay : spots ≡ room

-- A call that is no event had this reply.
pub record IsAnswered (P : Reply Global → Opened → Opened
    → Type 0) (status : ℕ) (told : Told) (old new : Handle) : Type 0 where
  pub reply : Reply Global
  pub moves : Moves (P reply) old new
  pub tells : Tells reply status told

-- whether a core may begin with what the store holds
abbrev pub IsSound : Opened → Type 0
IsSound s = CanOpen (opened_of (core_of (serving.engine_of (store_of s))))

-- what the store is, and how far it has come
abbrev pub stat_of : Opened → Stat
stat_of s = record {
  last = serving.last_made (store_of s);
  horizon = serving.horizon_of (store_of s);
  attempts = (core_of (serving.engine_of (store_of s))).attempts;
  rows = map.len (core_of (serving.engine_of (store_of s))).heap.rows;
  entries = map.len (core_of (serving.engine_of (store_of s))).index.entries;
  marked = marked_in (core_of (serving.engine_of (store_of s))).index.entries;
  pages = serving.pages_of (store_of s);
  life = (life_told (serving.life_of (store_of s))).kind;
}

-- its core
abbrev pub core_in : Opened → CoreValue
core_in s = core_of (serving.engine_of (store_of s))

-- The committed row at the place is told, or that there is none; or that no page has the slot.
abbrev pub IsCommittedTold : Spot → ℕ → Told → CoreValue → Type 0
IsCommittedTold place status told v = ((place.slot < SLOTS_PER_PAGE) × (status ≡ 0)
    × (told ≡ row_told (map.get (committed_rows v) (record { page = place.page; slot = place.slot }))))
    ⊎ ((SLOTS_PER_PAGE ≤ place.slot) × (status ≡ 10) × (told ≡ plain 0 0))

-- ---- saving

-- what its device holds
abbrev pub content_of : Opened → CrashState
content_of s = (past_of (serving.device_of (store_of s))).disk.content

-- So many sectors from the first on, as many as there are and as there is room for, stand in front; behind them stays
-- what was there.
pub record CopiesOut (content : CrashState) (first count : ℕ) (old new : CrashState) : Type 0 where
  pub count_is : count ≡ min (length content - first) (length old)
  pub new_is : new ≡ take count (drop first content) ++ drop count old

-- Whatever run left the store where it is: a device of these sectors holds a beginning of it, with every record up to
-- the horizon, and so with all that a reply has told to be safe.
abbrev pub IsStoreKept : Opened → CrashState → Type 0
IsStoreKept s image = (past : Past Global) → IsAt past_of past (serving.engine_of (store_of s))
    → Survives past (serving.horizon_of (store_of s)) image

-- ---- opening

-- how many sectors a store of these numbers needs, or 0 where they are no geometry
abbrev pub IsNeeded : GeometryValue → ℕ → Type 0
IsNeeded g sectors = (IsGeometry g × (sectors ≡ geometry.sectors_of g)) ⊎ ((¬ IsGeometry g) × (sectors ≡ 0))

-- the whole sectors of these bytes
abbrev pub sectors_of : List ℕ → CrashState
sectors_of bytes = first_chunks 512 (length bytes / 512) bytes

-- a disk whose content has P, all of it safe, and of which no call has failed
pub record IsDisk (P : CrashState → Type 0) (disk : Disk) : Type 0 where
  pub content : P (past_of disk).disk.content
  pub synced : IsSynced (past_of disk).disk
  pub failures : failures_of disk ≡ 0

-- A store was opened on such a disk, of which no failure is known.
pub record IsOpenedOn (P : CrashState → Type 0) (s : Opened) : Type 0 where
  pub disk : Disk
  pub is_disk : IsDisk P disk
  pub opens : serving.OpensOn past_of disk (store_of s)
  pub sound : knows_failure s ≡ false

-- Nothing was opened on this disk, for this reason.
abbrev pub IsRefused : Disk → Error → Type 0
IsRefused disk e = (after : Disk) × serving.IsRefusedOn past_of failures_of disk after e

-- No store was opened on such a disk, for the reason that a restart gives.
pub record IsRefusedOn (P : CrashState → Type 0) (status : ℕ) : Type 0 where
  pub disk : Disk
  pub error : Error
  pub is_disk : IsDisk P disk
  pub refused : IsRefused disk error
  pub status_is : status ≡ number_of error

-- a store of this geometry as it is made, in as many sectors as it needs
abbrev pub IsMade : GeometryValue → CrashState → Type 0
IsMade g content = IsFormatted g content × AreGatesClosed g A content × (length content ≡ geometry.sectors_of g)

-- a content of just these sectors
abbrev pub Is : CrashState → CrashState → Type 0
Is sectors content = content ≡ sectors

-- why no store was opened on these sectors: there was no memory for the disk or the store, or a restart refused
abbrev pub IsNotOpened : CrashState → ℕ → Type 0
IsNotOpened sectors status = (status ≡ number_of NoMemory) ⊎ IsRefusedOn (Is sectors) status

-- as many sectors of zeros as a store of this geometry needs
abbrev pub AreZeros : GeometryValue → CrashState → Type 0
AreZeros g content = content ≡ replicate (geometry.sectors_of g) zero_sector

-- A store was to be made on such a disk. A call of it failed, so it counts a failure.
pub record HasFailed (g : GeometryValue) (after : Disk) : Type 0 where
  pub disk : Disk
  pub is_disk : IsDisk (AreZeros g) disk
  pub writes : SameOutside (IsFormatSector g) (past_of disk).disk.content (past_of after).disk.content
  pub fails : Rises (failures_of disk) (failures_of after)

-- some disk has failed so
abbrev pub FailedAsMade : GeometryValue → ℕ → Type 0
FailedAsMade g status = (after : Disk) × HasFailed g after × (status ≡ number_of DeviceFailed)

-- why no store was made: the numbers are no geometry; or they are, and there was no memory, or a call of the device
-- failed, or a restart on the store just made refused
abbrev pub IsNotMade : GeometryValue → ℕ → Type 0
IsNotMade g status = ((¬ IsGeometry g) × (status ≡ number_of BadGeometry))
    ⊎ (IsGeometry g × ((status ≡ number_of NoMemory) ⊎ FailedAsMade g status ⊎ IsRefusedOn (IsMade g) status))

-- What an area of a log holds: slots of eight sectors each, a gate and a body of seven.
use Rattle.std.specs.Prelude.{◌≡◌, ◌⊎◌, ℕ, ◌+◌, ◌*◌, ◌<◌, ◌≤◌, true, List, [], ◌∷◌, ◌++◌, length, take, slice_index_or}
use Rattle.std.specs.Prelude.{slice_range}
use Rattle.std.specs.List.{concat, flat_map}
use Rattle.sector_device.specs.Disk.{CrashState, sector, Disk, SameOutside}
use Rattle.sector_device.specs.DevicePast.{Rises}
use Rattle.sector_device.specs.Values.{zero_sector, IsMarked}
use Rattle.record_values.specs.declared.geometry.TheConstants.{SLOT_SECTORS}
use Rattle.record_values.specs.declared.error.Error.{Error}
use Rattle.record_values.specs.declared.error.Error.TheVariants.{NoMemory, DeviceFailed}
use Rattle.records.specs.RecordValue.{RecordValue}
use Rattle.record_values.specs.declared.version.Version.{Version}
use Rattle.record_values.specs.declared.version.Version.TheVariants.{Two}
use Rattle.gate_log.specs.Group.{IsGroupIn}

-- the sector where the slots begin, and how many there are
pub record Area : Type 0 where
  pub first : ℕ
  pub slots : ℕ

-- an area, and how many of its slots are known to be open
pub record Log : Type 0 where
  pub area : Area
  pub open_slots : ℕ

-- ---- sectors

-- the gate of a slot
abbrev pub gate : Area → ℕ → ℕ
gate area slot = area.first + SLOT_SECTORS * slot

-- a sector of the area
abbrev pub InArea : Area → ℕ → Type 0
InArea area n = (area.first ≤ n) × (n < area.first + SLOT_SECTORS * area.slots)

-- a sector of a slot: its gate, or one of its body
abbrev pub InSlot : Area → ℕ → ℕ → Type 0
InSlot area slot n = (gate area slot ≤ n) × (n < gate area slot + SLOT_SECTORS)

-- a gate of the area
abbrev pub IsGate : Area → ℕ → Type 0
IsGate area n = (slot : ℕ) × (slot < area.slots) × (n ≡ gate area slot)

-- the content has every sector of the area
abbrev pub IsAreaInside : Area → CrashState → Type 0
IsAreaInside area image = area.first + SLOT_SECTORS * area.slots ≤ length image

-- ---- groups

-- the gate in this sector is open
abbrev pub IsOpen : CrashState → ℕ → Type 0
IsOpen image n = IsMarked (sector image n)

-- each gate of the area is a sector of zeros
abbrev pub AreGatesZero : Area → CrashState → Type 0
AreGatesZero area image = (slot : ℕ) → slot < area.slots → sector image (gate area slot) ≡ zero_sector

-- the bytes behind the gate in sector n: those of the other sectors of its slot
abbrev pub body : CrashState → ℕ → List ℕ
body image n = concat (slice_range image (n + 1) (n + SLOT_SECTORS))

-- In the content the first slots of the area are open, one for each of the groups in order, and the others are closed.
pub record HoldsGroupsIn (v : Version) (area : Area) (image : CrashState)
    (groups : List (List RecordValue)) : Type 0 where
  pub room : length groups ≤ area.slots
  pub opened : (slot : ℕ) → slot < length groups → IsOpen image (gate area slot)
      × IsGroupIn v (slice_index_or groups slot []) (body image (gate area slot))
  pub closed : (slot : ℕ) → length groups ≤ slot → slot < area.slots → ¬ IsOpen image (gate area slot)

-- of version 2, which is written
abbrev pub HoldsGroups : Area → CrashState → List (List RecordValue) → Type 0
HoldsGroups area image groups = HoldsGroupsIn Two area image groups

-- the log's area holds these groups in the content, and the log knows how many they are
pub record StandsIn (v : Version) (log : Log) (image : CrashState) (groups : List (List RecordValue)) : Type 0 where
  pub held : HoldsGroupsIn v log.area image groups
  pub counted : log.open_slots ≡ length groups

abbrev pub Stands : Log → CrashState → List (List RecordValue) → Type 0
Stands log image groups = StandsIn Two log image groups

-- the records of all groups, in order
abbrev pub records_of : List (List RecordValue) → List RecordValue
records_of groups = flat_map (λ group. group) groups

-- the gate of the group that the record at this index, from 0, of all records is in
pub record IsGateOf (area : Area) (groups : List (List RecordValue)) (index sector : ℕ) : Type 0 where
  pub slot : ℕ
  pub gate-is : sector ≡ gate area slot
  pub behind : length (records_of (take slot groups)) ≤ index
  pub before : index < length (records_of (take (slot + 1) groups))

-- What a crash leaves while a group is added: nothing outside its slot has changed but what was unsynced, and whatever
-- groups the log stood for, the area holds them, or them with the whole new group behind.
pub record IsAppended (log : Log) (old : Disk) (records : List RecordValue) (image : CrashState) : Type 0 where
  pub outside : SameOutside (λ n. InSlot log.area log.open_slots n ⊎ (old.unsynced n ≡ true)) old.content image
  pub groups : (groups : List (List RecordValue)) → Stands log old.content groups → HoldsGroups log.area image groups
      ⊎ HoldsGroups log.area image (groups ++ records ∷ [])

-- ---- damage

-- a slot that can't be: open after a closed one, or open with no group in its body
abbrev pub IsDamagedIn : Version → Area → CrashState → ℕ → Type 0
IsDamagedIn v area image slot =
    IsOpen image (gate area slot)
    × (((earlier : ℕ) × (earlier < slot) × (¬ IsOpen image (gate area earlier)))
    ⊎ ((records : List RecordValue) → ¬ IsGroupIn v records (body image (gate area slot))))

-- the gate of the first slot that can't be
pub record IsFirstDamagedSlotIn (v : Version) (area : Area) (image : CrashState) (sector : ℕ) : Type 0 where
  pub slot : ℕ
  pub inside : slot < area.slots
  pub gate-is : sector ≡ gate area slot
  pub damaged : IsDamagedIn v area image slot
  pub before : (earlier : ℕ) → earlier < slot → ¬ IsDamagedIn v area image earlier

abbrev pub IsFirstDamagedSlot : Area → CrashState → ℕ → Type 0
IsFirstDamagedSlot area image sector = IsFirstDamagedSlotIn Two area image sector

-- there was no memory, or the device failed
abbrev pub Refuses : ℕ → ℕ → Error → Type 0
Refuses before now e = (e ≡ NoMemory) ⊎ ((e ≡ DeviceFailed) × Rises before now)

-- A handle, and the store that is open under it.
use Rattle.std.specs.Prelude.{◌≡◌, Some, None}
use Rattle.std.specs.declared.alloc.Global.{Global}
use Rattle.store_file.specs.declared.mirror.FileDisk.{FileDisk}
use Rattle.program_commands.specs.declared.guarded.GuardedStore.{GuardedStore}
use Rattle.nsf_c.specs.Full.{IsFull}
use Rattle.nsf_c.specs.declared.below.Below.{Below}
use Rattle.nsf_c.specs.declared.held.Held.{Held}
use Rattle.nsf_c.specs.declared.handle.Handle.{Handle}

-- what a store of C's is on, and such a store
abbrev pub Disk : Type 0
Disk = FileDisk Below Global

-- a store that C has open, whose commits are refused once its device is known to have failed
abbrev pub Opened : Type 0
Opened = GuardedStore Disk

-- a store is open under the handle
abbrev pub IsOpen : Handle → Type 0
IsOpen h = IsFull h.value

-- none is
abbrev pub IsVacant : Handle → Type 0
IsVacant h = h.value ≡ None

-- a store is open under it, and has P
abbrev pub Holds : (Opened → Type 0) → Handle → Type 0
Holds P h = (s : Held) × (h.value ≡ Some s) × P s.store

-- a store is open under both, and the two are so related
abbrev pub Moves : (Opened → Opened → Type 0) → Handle → Handle → Type 0
Moves P old new = (s : Held) × (t : Held) × (old.value ≡ Some s) × (new.value ≡ Some t) × P s.store t.store

-- the same store is open under both, and has P
abbrev pub Reads : (Opened → Type 0) → Handle → Handle → Type 0
Reads P old new = (s : Held) × (old.value ≡ Some s) × (new.value ≡ Some s) × P s.store

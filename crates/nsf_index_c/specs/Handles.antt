-- A handle, and the index that is open under it.
use Rattle.std.specs.Prelude.{◌≡◌, ◌⊎◌, ℕ, Some, None}
use Rattle.nsf_index_c.specs.Full.{IsFull}
use Rattle.nsf_index_c.specs.Seen.{Seen}
use Rattle.nsf_index_c.specs.declared.handle.Handle.{Handle}

-- an index is open under the handle
abbrev pub IsOpen : Handle → Type 0
IsOpen h = IsFull h.at.value

-- none is
abbrev pub IsVacant : Handle → Type 0
IsVacant h = h.at.value ≡ None

-- an index is open under it, and has P
abbrev pub Holds : (Seen → Type 0) → Handle → Type 0
Holds P h = (v : Seen) × (h.at.value ≡ Some v) × P v

-- none is open, before and after, and the call says so
abbrev pub IsNotServed : ℕ → Handle → Handle → Type 0
IsNotServed status old new = (status ≡ 28) × IsVacant old × IsVacant new

-- an index is open under the handle, before and after, and the two are so related
abbrev pub IsServed : (Seen → Seen → Type 0) → Handle → Handle → Type 0
IsServed P old new = (v : Seen) × (w : Seen) × (old.at.value ≡ Some v) × (new.at.value ≡ Some w) × P v w

-- one or the other
abbrev pub Serves : (Seen → Seen → Type 0) → ℕ → Handle → Handle → Type 0
Serves P status old new = IsNotServed status old new ⊎ IsServed P old new

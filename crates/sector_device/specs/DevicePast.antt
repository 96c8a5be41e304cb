-- A disk as time goes on: its moments, what a crash between two of them leaves, and the count of failures.
use Rattle.std.specs.Prelude.{◌≡◌, ◌⊎◌, ℕ, ◌+◌, ◌-◌, ◌^◌, ◌<◌, ◌≤◌, List, [], ◌∷◌, Result, OnOk, OnErr}
use Rattle.sector_device.specs.Disk.{CrashState, IsDiskWhole, Disk, IsCrashState, SameOutside, SyncedOutside}

-- the past of a disk: as it is, and as it was at each moment until now
pub record DevicePast : Type 0 where
  pub disk : Disk
  pub moment : ℕ
  pub disk_at : ℕ → Disk
  pub now : disk_at moment ≡ disk
  pub whole : IsDiskWhole disk.content

-- A call was made: what was stays, and at each moment since the disk is as before the call or as after it.
pub record Elapses (old new : DevicePast) : Type 0 where
  pub later : old.moment ≤ new.moment
  pub kept : (t : ℕ) → t ≤ old.moment → new.disk_at t ≡ old.disk_at t
  pub during : (t : ℕ) → old.moment ≤ t → t ≤ new.moment → (new.disk_at t ≡ old.disk) ⊎ (new.disk_at t ≡ new.disk)

-- each crash state of the moments from one to another has P
abbrev pub Between : (ℕ → Disk) → ℕ → ℕ → (CrashState → Type 0) → Type 0
Between disk_at from to P = (t : ℕ) (image : CrashState) → from ≤ t → t ≤ to → IsCrashState (disk_at t) image → P image

-- a crash at any moment from old to new leaves a crash state that has P
pub record LeavesOnly (old new : DevicePast) (P : CrashState → Type 0) : Type 0 where
  pub later : old.moment ≤ new.moment
  pub kept : (t : ℕ) → t ≤ old.moment → new.disk_at t ≡ old.disk_at t
  pub each : Between new.disk_at old.moment new.moment P

-- The borders rise from the one moment to the other, and each crash state from the j-th to the next has P j.
abbrev pub Spans : (ℕ → Disk) → (ℕ → CrashState → Type 0) → ℕ → ℕ → List ℕ → ℕ → Type 0
Spans disk_at P j from [] to = from ≡ to
Spans disk_at P j from (next ∷ borders) to = (from ≤ next) × Between disk_at from next (P j)
    × Spans disk_at P (j + 1) next borders to

-- Calls were made that write only sectors of S: a crash at any moment since leaves this content outside S, and outside
-- S the disk holds it, synced.
pub record RunsWithin (S : ℕ → Type 0) (image : CrashState) (old new : DevicePast) : Type 0 where
  pub now : SyncedOutside S image new.disk
  pub run : LeavesOnly old new (SameOutside S image)

-- calls were made that change nothing
pub record OnlyReads (old new : DevicePast) : Type 0 where
  pub disk : new.disk ≡ old.disk
  pub time : Elapses old new

-- The count has risen. At the last number of 64 bits it may stay.
abbrev pub Rises : ℕ → ℕ → Type 0
Rises before now = before < 2 ^ 64 - 1 → before < now

-- What succeeds leaves the count of failures, and what fails raises it.
pub record CountsFailure {T E : Type 0} (before now : ℕ) (result : Result T E) : Type 0 where
  pub later : before ≤ now
  pub none : OnOk result (now ≡ before)
  pub failed : OnErr result (Rises before now)

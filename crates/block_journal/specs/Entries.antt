-- The blocks of an area by their places. (No public clause cites this.)
use Rattle.std.specs.Prelude.{◌≡◌, ◌≢◌, ◌⊎◌, ℕ, ◌+◌, ◌<◌, List, map, slice_index}
use Rattle.std.specs.List.{range_with_len}
use Rattle.block_device.specs.Blocks.{CrashFile, block}
use Rattle.block_batch.specs.Batch.{Entry, block_digest}

-- the i-th block of an area, with its place
abbrev pub entry_at : CrashFile → List ℕ → ℕ → Entry
entry_at area places i = record { place = slice_index places i; bytes = block area (1 + i) }

-- so many of them
abbrev pub entries_in : CrashFile → List ℕ → ℕ → List Entry
entries_in area places count = map (entry_at area places) (range_with_len 0 count)

-- the last one of so many that has this place
pub record IsLastAt (places : List ℕ) (count place i : ℕ) : Type 0 where
  pub low : i < count
  pub here : slice_index places i ≡ place
  pub behind : (k : ℕ) → i < k → k < count → slice_index places k ≢ place

-- none of so many has this place
abbrev pub HasNone : List ℕ → ℕ → ℕ → Type 0
HasNone places count place = (k : ℕ) → k < count → slice_index places k ≢ place

-- where a block with this place goes: to the last one that has it, or where none has it, behind them
abbrev pub IsSlot : List ℕ → ℕ → ℕ → ℕ → Type 0
IsSlot places count place i = IsLastAt places count place i ⊎ ((i ≡ count) × HasNone places count place)

-- so many blocks of an area have these digests in their places
abbrev pub AreDigests : CrashFile → (places digests : List ℕ) → ℕ → Type 0
AreDigests area places digests count = (i : ℕ) → i < count
    → slice_index digests i ≡ block_digest (slice_index places i) (block area (1 + i))

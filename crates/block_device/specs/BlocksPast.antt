-- A file of blocks as time goes on: its moments, and what a crash between two of them leaves.
use Rattle.std.specs.Prelude.{◌≡◌, ◌⊎◌, ℕ, ◌≤◌, List, [], ◌∷◌, ◌++◌, length, slice_index_or}
use Rattle.std.proofs.Common.{ap}
use Rattle.std.proofs.Math.Nat.{le_refl}
use Rattle.std.proofs.lemmas.List.{get_or_past}
use Rattle.block_device.specs.Blocks.{CrashFile, IsWhole, BlockFile, IsCrashFile, SameOutside, SyncedOutside}

-- the past of a file: as it is, and as it was at each moment until now
pub record BlocksPast : Type 0 where
  pub file : BlockFile
  pub moment : ℕ
  pub file_at : ℕ → BlockFile
  pub now : file_at moment ≡ file
  pub whole : IsWhole file.content

-- A call was made: what was stays, and at each moment since the file is as before the call or as after it.
pub record Elapses (old new : BlocksPast) : Type 0 where
  pub later : old.moment ≤ new.moment
  pub kept : (t : ℕ) → t ≤ old.moment → new.file_at t ≡ old.file_at t
  pub during : (t : ℕ) → old.moment ≤ t → t ≤ new.moment → (new.file_at t ≡ old.file) ⊎ (new.file_at t ≡ new.file)

-- so many blocks, from the first on, were written back at this moment
pub record WrittenBack : Type 0 where
  pub first : ℕ
  pub count : ℕ
  pub moment : ℕ

-- these, and behind them one more
abbrev pub and_back : List WrittenBack → (first count moment : ℕ) → List WrittenBack
and_back runs first count moment = runs ++ record { first = first; count = count; moment = moment } ∷ []

-- each crash file of the moments from one to another has P
abbrev pub Between : (ℕ → BlockFile) → ℕ → ℕ → (CrashFile → Type 0) → Type 0
Between file_at from to P = (t : ℕ) (image : CrashFile) → from ≤ t → t ≤ to → IsCrashFile (file_at t) image → P image

-- a crash at any moment from old to new leaves a crash file that has P
pub record LeavesOnly (old new : BlocksPast) (P : CrashFile → Type 0) : Type 0 where
  pub later : old.moment ≤ new.moment
  pub kept : (t : ℕ) → t ≤ old.moment → new.file_at t ≡ old.file_at t
  pub each : Between new.file_at old.moment new.moment P

-- Calls were made that write only blocks of S: a crash at any moment since leaves this crash file outside S, and
-- outside S the file holds it, synced.
pub record RunsWithin (S : ℕ → Type 0) (image : CrashFile) (old new : BlocksPast) : Type 0 where
  pub now : SyncedOutside S image new.file
  pub run : LeavesOnly old new (SameOutside S image)

-- the past of what was as these say, one after the other, and is now as the last says
abbrev pub past_with : {H : Type 0} (file_of : H → BlockFile) (before : List H) (now : H)
    → IsWhole (file_of now).content → BlocksPast
past_with file_of before now whole = record {
  file = file_of now;
  moment = length before;
  file_at = λ t. file_of (slice_index_or before t now);
  now = ap file_of (get_or_past before (length before) now (le_refl (length before)));
  whole = whole;
}

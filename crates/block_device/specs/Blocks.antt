-- A file of blocks: what it holds, which blocks are loose, and what a crash leaves of it.
use Rattle.std.specs.Prelude.{◌≡◌, ℕ, ◌+◌, ◌≤◌, ◌<◌, nat_le, nat_lt, Bool, true, false, ◌&&◌, ◌||◌, List, [], ◌∷◌}
use Rattle.std.specs.Prelude.{length, take, drop, replicate, slice_index, slice_index_or, slice_set}

-- the bytes of each block: what a file holds, or what a crash leaves of it
abbrev pub CrashFile : Type 0
CrashFile = List (List ℕ)

-- the bytes of block n
abbrev pub block : CrashFile → ℕ → List ℕ
block image n = slice_index_or image n []

-- 4,096 bytes
pub record IsBlock (bytes : List ℕ) : Type 0 where
  pub size : length bytes ≡ 4096
  pub are_bytes : (i : ℕ) → slice_index bytes i < 256

-- each block has its 4,096 bytes
abbrev pub IsWhole : CrashFile → Type 0
IsWhole image = (n : ℕ) → n < length image → IsBlock (block image n)

-- a block of zeros
unfoldable pub zero_block : List ℕ
zero_block = replicate 4096 0

-- so many blocks, from the first on
abbrev pub run_of : CrashFile → (first count : ℕ) → CrashFile
run_of image first count = take count (drop first image)

-- the crash file with these blocks from the first on
abbrev pub with_run : CrashFile → ℕ → CrashFile → CrashFile
with_run image first [] = image
with_run image first (bytes ∷ run) = with_run (slice_set image first bytes) (first + 1) run

-- one of so many blocks, from the first on
abbrev pub InRun : (first count : ℕ) → ℕ → Type 0
InRun first count n = (first ≤ n) × (n < first + count)

-- whether it is one
abbrev pub is_in_run : (first count : ℕ) → ℕ → Bool
is_in_run first count n = nat_le first n && nat_lt n (first + count)

-- what each block holds, and which blocks were written since the last sync that succeeded
pub record BlockFile : Type 0 where
  pub content : CrashFile
  pub loose : ℕ → Bool

-- after a write of a run, whose blocks are then loose
abbrev pub after_write : BlockFile → ℕ → CrashFile → BlockFile
after_write file first run = record {
  content = with_run file.content first run;
  loose = λ n.
      is_in_run first (length run) n || file.loose n;
}

-- after a sync: the content stays
abbrev pub after_sync : BlockFile → BlockFile
after_sync file = record { content = file.content; loose = λ _. false }

-- after a write of so many blocks that failed: each holds some 4,096 bytes, and is loose
abbrev pub IsFailedWrite : BlockFile → (first count : ℕ) → BlockFile → Type 0
IsFailedWrite old first count new =
    (run : CrashFile) × (length run ≡ count) × IsWhole run × (new ≡ after_write old first run)

-- no block is loose
abbrev pub IsSynced : BlockFile → Type 0
IsSynced file = (n : ℕ) → file.loose n ≡ false

-- what a crash may leave of the file: the content of each block that is not loose, and any 4,096 bytes in each that is
pub record IsCrashFile (file : BlockFile) (image : CrashFile) : Type 0 where
  pub size : length image ≡ length file.content
  pub kept : (n : ℕ) → file.loose n ≡ false → block image n ≡ block file.content n
  pub torn : (n : ℕ) → n < length image → file.loose n ≡ true → IsBlock (block image n)

-- the second crash file is the first one, but for the blocks of S
pub record SameOutside (S : ℕ → Type 0) (image other : CrashFile) : Type 0 where
  pub size : length other ≡ length image
  pub same : (n : ℕ) → ¬ S n → block other n ≡ block image n

-- outside the blocks of S the file holds this crash file, and no block is loose
pub record SyncedOutside (S : ℕ → Type 0) (image : CrashFile) (file : BlockFile) : Type 0 where
  pub content : SameOutside S image file.content
  pub synced : (n : ℕ) → ¬ S n → file.loose n ≡ false

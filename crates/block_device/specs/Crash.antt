-- What a crash of a file in memory leaves, as the fates name it.
use Rattle.std.specs.Prelude.{◌≡◌, ℕ, ◌+◌, ◌*◌, ◌%◌, ◌<◌, Bool, true, false, List, ◌++◌, length, take, drop}
use Rattle.std.specs.Prelude.{slice_index, slice_index_or, count_by}
use Rattle.block_device.specs.declared.fate.Fate.{Fate}
use Rattle.block_device.specs.declared.fate.Fate.TheVariants.{Old, New, Front, Back, Junk}
use Rattle.block_device.specs.Blocks.{CrashFile, block}

-- byte i is (7 * i + 13) mod 256
pub record IsJunk (bytes : List ℕ) : Type 0 where
  pub size : length bytes ≡ 4096
  pub each : (i : ℕ) → i < 4096 → slice_index bytes i ≡ (7 * i + 13) % 256

-- the first half of one block, and the second half of another
abbrev pub halves : (front back : List ℕ) → List ℕ
halves front back = take 2048 front ++ drop 2048 back

-- a loose block after the crash: what it held at the last sync, what it held last, half of each, or junk
abbrev pub HasFate : Fate → (old new bytes : List ℕ) → Type 0
HasFate Old old new bytes = bytes ≡ old
HasFate New old new bytes = bytes ≡ new
HasFate Front old new bytes = bytes ≡ halves new old
HasFate Back old new bytes = bytes ≡ halves old new
HasFate Junk old new bytes = IsJunk bytes

-- the fate of the i-th loose block: the list again and again, and `Old` where it is empty
abbrev pub fate_at : List Fate → ℕ → Fate
fate_at fates i = slice_index_or fates (i % length fates) Old

-- how many blocks below k are loose
abbrev pub loose_below : List Bool → ℕ → ℕ
loose_below loose k = count_by (λ is. is) (take k loose)

-- the content, the content at the last sync, and for each block whether it is loose
pub record Torn : Type 0 where
  pub content : CrashFile
  pub synced : CrashFile
  pub loose : List Bool

-- the blocks after a crash: the loose ones, ascending, get the fates in turn, and the others stay
pub record IsCrashed (fates : List Fate) (was : Torn) (image : CrashFile) : Type 0 where
  pub size : length image ≡ length was.content
  pub kept : (k : ℕ) → slice_index_or was.loose k false ≡ false → block image k ≡ block was.content k
  pub fated : (k : ℕ) → k < length was.content → slice_index_or was.loose k false ≡ true
      → HasFate (fate_at fates (loose_below was.loose k)) (block was.synced k) (block was.content k) (block image k)

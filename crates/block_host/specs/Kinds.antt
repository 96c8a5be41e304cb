-- A device in a file of either kind.
use Rattle.std.specs.Prelude.{ℕ, Bool, ◌&&◌, ◌||◌, not, nat_eq, nat_lt, List, [], ◌∷◌, length, ⊤}
use Rattle.std.specs.List.{starts_with}
use Rattle.sector_device.specs.Disk.{CrashState, sector}
use Rattle.sector_device.specs.DevicePast.{DevicePast}
use Rattle.block_device.specs.Blocks.{CrashFile}
use Rattle.block_host.specs.declared.device.FileDevice.{FileDevice}
use Rattle.block_host.specs.declared.device.FileDevice.TheVariants.{Plain, Blocks}

-- With this a store in a plain file begins: the letters `NSFINDEX`,
abbrev pub plain_text : List ℕ
plain_text = 78 ∷ 83 ∷ 70 ∷ 73 ∷ 78 ∷ 68 ∷ 69 ∷ 88 ∷ []

-- and with this a header of a file of blocks: `NSFBLOCK`.
abbrev pub blocks_text : List ℕ
blocks_text = 78 ∷ 83 ∷ 70 ∷ 66 ∷ 76 ∷ 79 ∷ 67 ∷ 75 ∷ []

-- whether there is a sector of this number, and it begins with a text
abbrev pub begins : CrashState → ℕ → List ℕ → Bool
begins sectors n text = nat_lt n (length sectors) && starts_with nat_eq (sector sectors n) text

-- Whether these are taken for the sectors of a file of blocks: the first block begins like a header or, unless a store
-- in a plain file does, the second one.
abbrev pub are_blocks : CrashState → Bool
are_blocks sectors = begins sectors 0 blocks_text || (begins sectors 8 blocks_text && not (begins sectors 0 plain_text))

-- so are blocks, read as blocks
abbrev pub show_blocks : CrashFile → Bool
show_blocks blocks = begins blocks 0 blocks_text || (begins blocks 1 blocks_text && not (begins blocks 0 plain_text))

module _ {P B : Type 0} where
  -- its past, by that of a device of each kind
  abbrev pub past_by : (P → DevicePast) → (B → DevicePast) → FileDevice P B → DevicePast
  past_by plain blocks (Plain disk) = plain disk
  past_by plain blocks (Blocks disk) = blocks disk

  -- how many of its calls have failed, likewise
  abbrev pub failures_by : (P → ℕ) → (B → ℕ) → FileDevice P B → ℕ
  failures_by plain blocks (Plain disk) = plain disk
  failures_by plain blocks (Blocks disk) = blocks disk

  -- where it is in a file of blocks, the device has P
  abbrev pub IsInBlocks : FileDevice P B → (B → Type 0) → Type 0
  IsInBlocks (Plain disk) P = ⊤
  IsInBlocks (Blocks disk) P = P disk

  -- where it is in a plain file, the device has P
  abbrev pub IsInPlain : FileDevice P B → (P → Type 0) → Type 0
  IsInPlain (Plain disk) P = P disk
  IsInPlain (Blocks disk) P = ⊤

  -- The device stays in a file of its kind. What becomes of it there is by the one or by the other.
  abbrev pub Becomes : (P → P → Type 0) → (B → B → Type 0) → FileDevice P B → FileDevice P B → Type 0
  Becomes plain blocks (Plain old) (Plain new) = plain old new
  Becomes plain blocks (Blocks old) (Blocks new) = blocks old new
  Becomes plain blocks (Plain old) (Blocks new) = ⊥
  Becomes plain blocks (Blocks old) (Plain new) = ⊥

  -- so it is, where it is in a plain file, which stays as it is
  abbrev pub StaysPlain : (B → B → Type 0) → FileDevice P B → FileDevice P B → Type 0
  StaysPlain blocks = Becomes (λ old new. Path P new old) blocks

  -- so it is in a file of blocks, whatever it is in a plain one
  abbrev pub InBlocks : (B → B → Type 0) → FileDevice P B → FileDevice P B → Type 0
  InBlocks blocks = Becomes (λ old new. ⊤) blocks

-- Sectors whose bytes have changed.
use Rattle.std.specs.Prelude.{◌≡◌, ◌↔◌, ℕ, ◌+◌, ◌/◌, ◌<◌, ◌≤◌, Some}
use Rattle.block_device.specs.Blocks.{CrashFile}
use Rattle.block_journal.specs.Layout.{IsInside, recovered}
use Rattle.block_table.specs.Table.{EachFits, IsFirstUnfit, IsFit}
use Rattle.block_file.specs.declared.plan.Plan.{Plan}
use Rattle.block_file.specs.Header.{HasNoBatch, plan_told}

-- the block of data that has sector n fits its digest, in a table with its data
abbrev pub IsSectorFit : Plan → CrashFile → ℕ → Type 0
IsSectorFit p kept n = IsFit p.blocks kept ((n + p.lead) / 8)

-- The same blocks of data fit in the second table as in the first one.
abbrev pub FitsAsBefore : Plan → CrashFile → CrashFile → Type 0
FitsAsBefore p old new = (n : ℕ) → n < p.blocks → (IsFit p.blocks new n ↔ IsFit p.blocks old n)

-- the first sector, from a number on, whose block doesn't
pub record IsFirstDamaged (p : Plan) (kept : CrashFile) (from n : ℕ) : Type 0 where
  pub behind : from ≤ n
  pub low : n < p.sectors
  pub unfit : ¬ IsSectorFit p kept n
  pub before : (m : ℕ) → from ≤ m → m < n → IsSectorFit p kept m

-- An opening takes the crash file: it tells the plan, and has room for it and a batch, and each block of data fits.
pub record CanBeOpened (p : Plan) (image : CrashFile) : Type 0 where
  pub told : plan_told image ≡ Some p
  pub inside : IsInside p.shape image
  pub batch : ¬ HasNoBatch image
  pub fits : EachFits p.blocks (recovered p.shape image)

-- The crash file tells a plan that it has room for, and this block of data is the first one that doesn't fit.
abbrev pub IsDamagedAt : ℕ → CrashFile → Type 0
IsDamagedAt n image = (p : Plan) × (plan_told image ≡ Some p) × IsInside p.shape image
    × IsFirstUnfit p.blocks (recovered p.shape image) 0 n

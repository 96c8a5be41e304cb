-- A file of blocks whose use was ended.
use Rattle.std.specs.Prelude.{◌≡◌, ◌⊎◌, ℕ, ◌<◌, None}
use Rattle.sector_device.specs.Disk.{CrashState}
use Rattle.block_device.specs.Blocks.{CrashFile}
use Rattle.block_journal.specs.Layout.{found, kept_of}
use Rattle.block_file.specs.declared.plan.Plan.{Plan}
use Rattle.block_file.specs.Plans.{disk_image}

-- The crash file stands for these sectors, whatever becomes of the journal's areas: also a crash file with the same
-- kept blocks, each of whose areas has the same batch or none.
abbrev pub StandsAlone : Plan → CrashFile → CrashState → Type 0
StandsAlone p image sectors = (c : CrashFile) → kept_of p.shape c ≡ kept_of p.shape image
    → ((a : ℕ) → a < 2 → (found p.shape c a ≡ None) ⊎ (found p.shape c a ≡ found p.shape image a))
    → disk_image p c ≡ sectors

use Rattle.std.proofs.Common.{◌≡◌, ℕ, ◌<◌, false, length}
use Rattle.sector_device.specs.Disk.{sector}
use Rattle.store_file.specs.FileDisk.{past_of}
use Rattle.store_file.proofs.mirror.FileDisk.holding.Given as goal

abbrev pub invariant-loop-n : goal.invariant-loop-n
invariant-loop-n g l =
    (l.disk.failures ≡ 0)
    × (length (past_of l.disk).disk.content ≡ length l.sectors)
    × ((k : ℕ) → k < l.n → sector (past_of l.disk).disk.content k ≡ sector l.sectors k)
    × (l.disk.has_failed ≡ false)

-- Whether the bytes of a sector fit what a file keeps of them.
use Rattle.std.specs.Prelude.{ℕ, ◌<◌, ⊤}
use Rattle.block_device.specs.BlocksPast.{BlocksPast}
use Rattle.block_file.specs.Damage.{IsSectorFit}
use Rattle.block_file.specs.Disks.{disk_plan, disk_table}
use Rattle.block_file.specs.declared.parts.DiskParts.{DiskParts}
use Rattle.block_host.specs.declared.device.FileDevice.{FileDevice}
use Rattle.block_host.specs.declared.device.FileDevice.TheVariants.{Plain, Blocks}

module _ {P B A : Type 0} (past_of : B → BlocksPast) where
  -- in a file of blocks its block fits its digest, where there is such a sector; a plain file keeps nothing of them
  abbrev pub IsFitIn : FileDevice P (DiskParts B A) → ℕ → Type 0
  IsFitIn (Plain disk) n = ⊤
  IsFitIn (Blocks disk) n = n < (disk_plan disk).sectors → IsSectorFit (disk_plan disk) (disk_table past_of disk) n

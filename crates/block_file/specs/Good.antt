-- A device whose blocks fit, and what a crash leaves of its file.
use Rattle.std.specs.Prelude.{◌≡◌, false, Some}
use Rattle.block_device.specs.Blocks.{CrashFile, IsCrashFile}
use Rattle.block_device.specs.BlocksPast.{BlocksPast, LeavesOnly}
use Rattle.block_journal.specs.Layout.{IsHonest}
use Rattle.block_table.specs.Table.{EachFits}
use Rattle.block_file.specs.Damage.{CanBeOpened}
use Rattle.block_file.specs.Disks.{disk_failed, disk_file, disk_journal, disk_plan, disk_settled, disk_table}
use Rattle.block_file.specs.Disks.{first_content}
use Rattle.block_file.specs.Header.{plan_told}
use Rattle.block_file.specs.declared.parts.DiskParts.{DiskParts}

module _ {B A : Type 0} (past_of : B → BlocksPast) where
  -- No commit has failed, and each block of data fits, as it was committed and as it is. The file told the device as it
  -- was opened.
  pub record IsGood (d : DiskParts B A) : Type 0 where
    pub sound : disk_failed d ≡ false
    pub told : plan_told (first_content past_of d) ≡ Some (disk_plan d)
    pub settled : EachFits (disk_plan d).blocks (disk_settled past_of d)
    pub table : EachFits (disk_plan d).blocks (disk_table past_of d)

  -- Under the premise, what a crash leaves during a call can be opened,
  abbrev pub OpensMeanwhile : (old new : DiskParts B A) → Type 0
  OpensMeanwhile old new = LeavesOnly (past_of (disk_file old)) (past_of (disk_file new))
      (λ image. IsHonest (disk_journal new).offered (disk_plan old).shape image → CanBeOpened (disk_plan old) image)

  -- and so for what it leaves now.
  abbrev pub OpensNow : DiskParts B A → Type 0
  OpensNow d = (image : CrashFile) → IsCrashFile (past_of (disk_file d)).file image
      → IsHonest (disk_journal d).offered (disk_plan d).shape image → CanBeOpened (disk_plan d) image

-- A device that was opened in a file of the system.
use Rattle.std.specs.Prelude.{◌≡◌, ℕ, ◌<◌, [], false, Some}
use Rattle.block_device.specs.Blocks.{CrashFile, block}
use Rattle.block_device.specs.BlocksPast.{Between, BlocksPast}
use Rattle.block_journal.specs.Journal.{WritesBackFrom}
use Rattle.block_journal.specs.Layout.{IsHonest, recovered}
use Rattle.block_table.specs.Table.{EachFits}
use Rattle.block_file.specs.Closing.{StandsAlone}
use Rattle.block_file.specs.Damage.{CanBeOpened}
use Rattle.block_file.specs.Disks.{disk_failed, disk_file, disk_journal, disk_past, disk_plan}
use Rattle.block_file.specs.Header.{plan_told}
use Rattle.block_file.specs.Plans.{disk_image}
use Rattle.block_file.specs.Settling.{AreHandedOn}
use Rattle.block_file.specs.declared.parts.DiskParts.{DiskParts}
use Rattle.block_host.specs.FileBlocks.{past_of, written_back_of}
use Rattle.block_host.specs.declared.mirror.FileBlocks.{FileBlocks}

module _ {F A : Type 0} where
  -- its file of blocks
  abbrev pub file_past : DiskParts (FileBlocks F A) A → BlocksPast
  file_past d = past_of (disk_file d)

  -- what the file held as it was read
  abbrev pub first_read : DiskParts (FileBlocks F A) A → CrashFile
  first_read d = ((file_past d).file_at 0).content

  -- whatever a crash leaves since then has P
  abbrev pub SinceRead : DiskParts (FileBlocks F A) A → (CrashFile → Type 0) → Type 0
  SinceRead d P = Between (file_past d).file_at 0 (file_past d).moment P

  -- the premise, by the batches that the file had and those that were handed on
  abbrev pub IsPremise : DiskParts (FileBlocks F A) A → CrashFile → Type 0
  IsPremise d c = IsHonest (disk_journal d).offered (disk_plan d).shape c

  -- As it was read, the file told this device, and each block of data fitted its digest. Until both areas of its
  -- journal were written back, the file stayed so. Under the premise, whatever a crash leaves since then stands for the
  -- same blocks, behind the same headers, and can be opened if the file could. Now the file stands for the device,
  -- whatever batches the areas of its journal lose, and no block is loose.
  pub record IsOpened (d : DiskParts (FileBlocks F A) A) : Type 0 where
    pub told : plan_told (first_read d) ≡ Some (disk_plan d)
    pub content : (disk_past past_of d).disk.content ≡ disk_image (disk_plan d) (first_read d)
    pub fits : EachFits (disk_plan d).blocks (recovered (disk_plan d).shape (first_read d))
    pub handed : AreHandedOn (disk_plan d).shape (first_read d) (disk_journal d).offered
    pub back : WritesBackFrom (disk_plan d).shape ((file_past d).file_at 0) 0 (file_past d) []
        (written_back_of (disk_file d))
    pub any_moment : SinceRead d
        (λ c. IsPremise d c → recovered (disk_plan d).shape c ≡ recovered (disk_plan d).shape (first_read d))
    pub opens : CanBeOpened (disk_plan d) (first_read d)
        → SinceRead d (λ c. IsPremise d c → CanBeOpened (disk_plan d) c)
    pub headers : SinceRead d (λ c. (n : ℕ) → n < (disk_plan d).shape.first → block c n ≡ block (first_read d) n)
    pub alone : StandsAlone (disk_plan d) (file_past d).file.content (disk_past past_of d).disk.content
    pub safe : (n : ℕ) → (file_past d).file.loose n ≡ false

  -- As it was read, the file told this device, which holds what the file stood for. No commit has failed.
  pub record IsRead (d : DiskParts (FileBlocks F A) A) : Type 0 where
    pub told : plan_told (first_read d) ≡ Some (disk_plan d)
    pub content : (disk_past past_of d).disk.content ≡ disk_image (disk_plan d) (first_read d)
    pub sound : disk_failed d ≡ false

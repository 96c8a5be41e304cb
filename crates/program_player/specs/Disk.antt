-- The program's disk.
use Rattle.std.specs.Prelude.{◌≡◌, ℕ, ◌+◌, [], ◌∷◌}
use Rattle.sector_device.specs.Disk.{IsSynced, IsCrashState}
use Rattle.sector_device.specs.Crash.{IsCrashed}
use Rattle.sector_device.specs.DevicePast.{DevicePast}
use Rattle.sector_device.specs.Fault.{fault_count}
use Rattle.sector_device.specs.FaultDisk.{device_of, which_of, made_of, fails_at_of}
use Rattle.sector_device.specs.MemDisk.{past_of, failures_of, state_of}
use Rattle.sector_device.specs.declared.call.Fate.{Fate}
use Rattle.sector_device.specs.declared.fault.FaultDisk.{FaultDisk}
use Rattle.sector_device.specs.declared.fault.Which.TheVariants.{WritesAndSyncs}
use Rattle.sector_device.specs.declared.memory.MemDisk.{MemDisk}
use Rattle.std.specs.declared.alloc.Global.{Global}

-- the disk as it is, and as it was at each moment until now
abbrev pub disk_past : FaultDisk (MemDisk Global) → DevicePast
disk_past disk = past_of (device_of disk)

-- how many of its calls have failed: those of the disk in memory, and the one that was cut short
abbrev pub disk_failures : FaultDisk (MemDisk Global) → ℕ
disk_failures disk = failures_of (device_of disk) + fault_count (fails_at_of disk) (made_of disk)

-- The power was lost, with this fate for every unsynced sector. From then on the write or sync of this number is cut
-- short, or none at 0.
pub record LosesPower (fate : Fate) (fails_at : ℕ) (before after : FaultDisk (MemDisk Global)) : Type 0 where
  pub image : IsCrashState (disk_past before).disk (disk_past after).disk.content
  pub fates : IsCrashed (fate ∷ []) (state_of (device_of before)) (disk_past after).disk.content
  pub synced : IsSynced (disk_past after).disk
  pub counted : which_of after ≡ WritesAndSyncs
  pub made : made_of after ≡ 0
  pub fails_at_is : fails_at_of after ≡ fails_at

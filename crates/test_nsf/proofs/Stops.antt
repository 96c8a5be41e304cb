-- A disk in memory that stopped, and is found.
use Rattle.std.proofs.Common.{◌≡◌, sym, subst}
use Rattle.sector_device.specs.Disk.{Disk, IsCrashState, IsSynced}
use Rattle.sector_device.specs.DevicePast.{DevicePast}
use Rattle.sector_device.proofs.Sectors.{crash_synced}
use Rattle.headline.specs.Stops.{IsFoundAs}

-- what was unsynced is torn, and all of it is synced then
pub found_torn : (disk : Disk) (found : DevicePast) → IsCrashState disk found.disk.content → IsSynced found.disk → found.moment ≡ 0 → IsFoundAs disk found
found_torn disk found crash synced anew = record {
  anew = anew;
  left = λ image torn. subst (IsCrashState disk) (sym (crash_synced found.disk image synced torn)) crash;
}

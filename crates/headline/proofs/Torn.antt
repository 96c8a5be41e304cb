-- A device that stops where it is.
use Rattle.std.proofs.Common.{◌≡◌, ℕ, ◌≤◌, sym, subst, arith}
use Rattle.sector_device.specs.Disk.{Disk, IsCrashState, IsSynced}
use Rattle.sector_device.specs.DevicePast.{DevicePast}
use Rattle.sector_device.proofs.Sectors.{crash_synced}
use Rattle.headline.specs.Stops.{HasStopped, IsFoundAs}

-- what was unsynced is torn, and all of it is synced then
module _ (old found : DevicePast) (crash : IsCrashState old.disk found.disk.content) (synced : IsSynced found.disk) (anew : found.moment ≡ 0) where
  pub found_torn : IsFoundAs old.disk found
  found_torn = record { anew = anew; left = λ image torn. subst (IsCrashState old.disk) (sym (crash_synced found.disk image synced torn)) crash }

-- one that stops where it is stops at one of its moments since any other
pub stopped_now : (since : ℕ) (old found : DevicePast) → since ≤ old.moment → IsFoundAs old.disk found → HasStopped since old found
stopped_now since old found le is = record {
  moment = old.moment;
  from = le;
  until = omega arith;
  found-as = subst (λ (disk : Disk). IsFoundAs disk found) (sym old.now) is;
}

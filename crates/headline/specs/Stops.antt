-- What a device is found as that stopped.
use Rattle.std.specs.Prelude.{◌≡◌, ◌≤◌, ℕ, List, slice_index_or}
use Rattle.sector_device.specs.Disk.{Disk, CrashState, IsCrashState}
use Rattle.sector_device.specs.DevicePast.{DevicePast}
use Rattle.headline.specs.declared.shared_day.End.{End}
use Rattle.headline.specs.declared.shared_day.End.TheVariants.{Behind, Closing, Since}

-- Its moments count from now on; and a crash of it leaves nothing that one of this disk couldn't.
pub record IsFoundAs (disk : Disk) (found : DevicePast) : Type 0 where
  pub anew : found.moment ≡ 0
  pub left : (image : CrashState) → IsCrashState found.disk image → IsCrashState disk image

-- it stopped at one of its moments since this one, and is found as it was then, or as a crash left it
pub record HasStopped (since : ℕ) (old found : DevicePast) : Type 0 where
  pub moment : ℕ
  pub from : since ≤ moment
  pub until : moment ≤ old.moment
  pub found-as : IsFoundAs (old.disk_at moment) found

-- so it stopped: at one of its moments since the first, or since the later one, or since the one that a client had read
-- a mark of; or where it was (no public clause cites this)
pub record StopsAt (end : End) (first mid read : ℕ) (old found : DevicePast) : Type 0 where
  pub stop : HasStopped first old found
  pub closing : end ≡ Closing → mid ≤ stop.moment
  pub since : (k : ℕ) → end ≡ Since k → read ≤ stop.moment
  pub at-end : end ≡ Behind → stop.moment ≡ old.moment

-- the mark that the client of a day which ends so has read last, of all these; 0 where there is none (no public clause
-- cites this)
abbrev pub mark_read : End → List ℕ → ℕ
mark_read (Since k) marks = slice_index_or marks k 0
mark_read end marks = 0

-- What a disk over a file holds, as far as its calls tell.
use Rattle.std.specs.Prelude.{ℕ, Bool, length}
use Rattle.sector_device.specs.DevicePast.{DevicePast}
use Rattle.sector_device.specs.Memory.{memory_past}
use Rattle.store_file.specs.Mirror.{blank, calls_of}
use Rattle.store_file.specs.declared.mirror.FileDisk.{FileDisk}

module _ {F A : Type 0} where
  abbrev pub past_of : FileDisk F A → DevicePast
  past_of d = memory_past (blank (length d.content.items)) (calls_of d.past.done) d.mirrors.whole

  abbrev pub failures_of : FileDisk F A → ℕ
  failures_of d = d.failures

  -- whether a write or a sync of it has failed, behind which each fails
  abbrev pub has_failed_of : FileDisk F A → Bool
  has_failed_of d = d.has_failed

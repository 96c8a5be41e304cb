-- Several sectors one after another.
use Rattle.std.specs.Prelude.{◌≡◌, ℕ, ◌+◌, ◌<◌, length}
use Rattle.sector_device.specs.Disk.{CrashState, sector}

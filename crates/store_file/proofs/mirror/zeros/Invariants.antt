use Rattle.std.proofs.Common.{◌≡◌, replicate}
use Rattle.sector_device.specs.Values.{zero_sector}
use Rattle.store_file.proofs.mirror.zeros.Given as goal

abbrev pub invariant-loop : goal.invariant-loop
invariant-loop g l = l.image.items ≡ replicate l.counter zero_sector

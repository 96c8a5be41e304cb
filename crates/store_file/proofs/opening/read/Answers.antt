use Rattle.std.proofs.Common.{ap, ◌∙◌}
use Rattle.sector_device.specs.Disk.{Disk}
use Rattle.store_file.proofs.opening.read.Goals as goal

pub returns-clause-synced : goal.returns-clause-synced
returns-clause-synced g c = λ k. ap (λ (d : Disk). d.unsynced k) c.with_below.ensures.disk ∙ c.in_ok-hold.ensures.synced k

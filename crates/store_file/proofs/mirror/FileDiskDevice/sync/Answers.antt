use Rattle.std.proofs.Common.{rules, ◌≤◌, arith}
use Rattle.sector_device.proofs.Counts.{counts_failed}
use Rattle.store_file.proofs.mirror.FileDiskDevice.sync.Goals as goal

pub returns-then-not-sync_below-clause-counts : goal.returns-then-not-sync_below-clause-counts
returns-then-not-sync_below-clause-counts g c = counts_failed _ _ _ _
    (omega (arith, c.sync_below.ensures.failures)) c.refuse.ensures.later c.refuse.ensures.rises

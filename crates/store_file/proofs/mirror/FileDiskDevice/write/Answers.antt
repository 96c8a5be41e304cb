use Rattle.std.proofs.Common.{rules, ◌≤◌, arith}
use Rattle.sector_device.proofs.Counts.{counts_failed}
use Rattle.store_file.proofs.mirror.FileDiskDevice.write.Goals as goal

pub returns-then-not-put_below-clause-counts : goal.returns-then-not-put_below-clause-counts
returns-then-not-put_below-clause-counts g c = counts_failed _ _ _ _ (omega (arith, c.put_below.ensures.failures)) c.spoil.ensures.later c.spoil.ensures.rises

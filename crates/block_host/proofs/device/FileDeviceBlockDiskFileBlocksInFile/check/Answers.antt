use Rattle.std.proofs.Common.{rules}
use Rattle.block_host.proofs.device.FileDeviceBlockDiskFileBlocksInFile.check.Goals as goal

pub returns-in-Blocks : goal.returns-in-Blocks
returns-in-Blocks g c =
    let done = c.check.ensures in
    rw c.in-Blocks.is (record {
      harmed = search rules;
      whole = done.fit;
      damaged = done.damaged;
      fit = done.fit;
      plain = tt;
      reads = done.reads;
      back = done.back;
      disk = done.disk;
      good = done.good;
      failed = done.failed;
      left_alone = done.left_alone;
      counts = done.counts;
    })

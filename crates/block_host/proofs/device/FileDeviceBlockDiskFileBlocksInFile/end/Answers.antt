use Rattle.block_host.proofs.device.FileDeviceBlockDiskFileBlocksInFile.end.Goals as goal

pub returns-in-Blocks : goal.returns-in-Blocks
returns-in-Blocks g c =
    let done = c.close.ensures in
    rw c.in-Blocks.is (record {
      plain = tt;
      content = done.content;
      synced = done.synced;
      alone = done.alone;
      safe = done.safe;
      settled = done.settled;
      good = done.good;
      opens = done.opens;
      failed = done.failed;
      left_alone = done.left_alone;
      back = done.back;
      counts = done.counts;
    })

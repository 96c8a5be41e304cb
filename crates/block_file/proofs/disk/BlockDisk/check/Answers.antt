use Rattle.block_file.proofs.disk.BlockDisk.check.Goals as goal

pub check-requires : goal.check-requires
check-requires g c = record { sound = c.self.invariant }

pub returns : goal.returns
returns g c =
    rw (← c.self.view_is) (
    let done = c.check.ensures in
    record {
      damaged = done.damaged;
      fit = done.fit;
      failed = done.failed;
      unfailed = done.unfailed;
      quiet = done.quiet;
      left_alone = done.left_alone;
      back = done.back;
      reads = done.reads;
      good = done.good;
      disk = done.disk;
      plan = done.plan;
      time = done.time;
      counts = done.counts;
    })

pub invariant_of-self : goal.invariant_of-self
invariant_of-self g c = c.check.ensures.sound

use Rattle.block_file.proofs.disk.BlockDisk.close.Goals as goal

pub close-requires : goal.close-requires
close-requires g c = record { sound = c.self.invariant }

pub returns : goal.returns
returns g c =
    rw (← c.self.view_is) (
    let done = c.close.ensures in
    record {
      content = done.content;
      synced = done.synced;
      alone = done.alone;
      safe = done.safe;
      failed = done.failed;
      sound = done.working;
      broken = done.broken;
      settled = done.settled;
      good = done.good;
      opens = done.opens;
      left_alone = done.left_alone;
      back = done.back;
      table = done.table;
      number = done.number;
      quiet = done.quiet;
      plan = done.plan;
      time = done.time;
      counts = done.counts;
    })

pub invariant_of-self : goal.invariant_of-self
invariant_of-self g c = c.close.ensures.sound

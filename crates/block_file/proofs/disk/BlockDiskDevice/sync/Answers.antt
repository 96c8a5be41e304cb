use Rattle.block_file.proofs.disk.BlockDiskDevice.sync.Goals as goal

pub sync-requires : goal.sync-requires
sync-requires g c = record { sound = c.self.invariant }

pub returns : goal.returns
returns g c =
    rw (← c.self.view_is) (
    let done = c.sync.ensures in
    record {
      ok = done.ok;
      err = done.err;
      time = done.time;
      counts = done.counts;
      failed = done.fails;
      sound = done.working;
      broken = done.broken;
      settled = done.settled;
      unsettled = done.unsettled;
      any_moment = done.any_moment;
      good = done.good;
      opens = done.opens;
      left_alone = done.left_alone;
      back = done.back;
      table = done.table;
      quiet = done.quiet;
      number = done.last;
      plan = done.plan;
    })

pub invariant_of-self : goal.invariant_of-self
invariant_of-self g c = c.sync.ensures.sound

use Rattle.std.proofs.Common.{◌<◌, length, arith}
use Rattle.block_table.specs.Checked.{data_now}
use Rattle.block_file.specs.Sectors.{sectors_of}
use Rattle.block_file.proofs.Patching.{length-sectors}
use Rattle.block_file.proofs.disk.BlockDiskDevice.write.Goals as goal

pub write-requires : goal.write-requires
write-requires g c =
    let d = c.self.inside.parts in
    let content = sectors_of d.plan.lead d.plan.sectors (data_now g.B.Blocks.past_of d.now.checked) in
    let below : c.args.n < length content = rw (← c.self.view_is) at c.requires in
    record { sound = c.self.invariant; inside = omega (arith, below, length-sectors d.plan.lead d.plan.sectors (data_now g.B.Blocks.past_of d.now.checked)) }

pub returns : goal.returns
returns g c =
    rw (← c.self.view_is) (
    let done = c.write.ensures in
    record {
      ok = done.ok;
      err = done.err;
      time = done.time;
      counts = done.counts;
      kept = done.kept;
      failed = done.failed;
      sound = done.working;
      quiet = done.quiet;
      left_alone = done.left_alone;
      back = done.back;
      fits = done.fits;
      broken = done.broken;
      number = done.number;
      settled = done.settled;
      any_moment = done.any_moment;
      good = done.good;
      opens = done.opens;
      gathers = done.gathers;
      room = done.room;
      plan = done.plan;
    })

pub invariant_of-self : goal.invariant_of-self
invariant_of-self g c = c.write.ensures.sound

use Rattle.std.proofs.Common.{refl, ap}
use Rattle.block_device.specs.Blocks.{CrashFile}
use Rattle.block_table.specs.Checked.{CheckedValue}
use Rattle.block_file.specs.declared.parts.DiskParts.{DiskParts}
use Rattle.block_journal.proofs.Results.{on_err, on_ok}
use Rattle.block_file.specs.Sectors.{sectors_of}
use Rattle.block_file.proofs.Heading.{first_moved}
use Rattle.block_file.proofs.Keeping.{comes_kept, comes_moved, crash_after, through_err, through_ok, write_failed, written_disk}
use Rattle.block_file.proofs.Pushing.{disk_elapses, sound_pushed}
use Rattle.block_file.proofs.Reopening.{good_moved, moves_reopen}
use Rattle.block_file.proofs.parts.DiskParts.write.Goals as goal

pub write_sector-done-requires : goal.write_sector-done-requires
write_sector-done-requires g c = record {
  plan = c.requires.sound.plan;
  shape = c.requires.sound.kept.shape;
  blocks = c.requires.sound.kept.blocks;
  inside = c.requires.inside;
}

pub returns : goal.returns
returns g c =
    let h = g.B.Blocks.past_of in
    let d : DiskParts g.row.B.Denot g.row.A.Denot = c.args.self.now in
    let sound = c.requires.sound in
    let at = c.args.n in
    let new : CheckedValue g.row.B.Denot = c.write_sector-done.new.checked in
    let done = c.write_sector-done.ensures in
    let r = c.write_sector-done.result in
    let n : DiskParts g.row.B.Denot g.row.A.Denot = record {
      plan = d.plan;
      now = record { checked = new; written = c.and-self-2.result };
      past = c.and-self.result;
      damaged = c.count.new.damaged;
    } in
    let comes = comes_moved h d.plan d.now sound.kept new done.moves in
    let more = c.and-self-2.ensures in
    record {
      ok = through_ok _ r c.count.result c.count.ensures.ok (on_ok _ _ r (λ is. written_disk h d.plan d.now n.now at more c.args.bytes.now is) done.ok);
      err = through_err _ r c.count.result c.count.ensures.err
          (on_err _ _ r (λ is. write_failed h d.plan d.now n.now at more c.args.bytes.now c.requires.inside r done.ok done.err is) done.err);
      kept = through_err _ r c.count.result c.count.ensures.err
          (on_err _ _ r (λ is. ap (λ (l : CrashFile). sectors_of d.plan.lead d.plan.sectors l) is) done.err);
      failed = through_err _ r c.count.result c.count.ensures.err done.failed;
      working = through_ok _ r c.count.result c.count.ensures.ok done.sound;
      quiet = through_ok _ r c.count.result c.count.ensures.ok done.quiet;
      left_alone = done.alone;
      back = done.back;
      fits = done.fits;
      broken = done.broken;
      number = done.number;
      settled = done.moves.settled;
      any_moment = done.moves.any_moment;
      good = λ good kept. good_moved h d n refl c.and-self.ensures good kept done.moves.settled done.fits;
      opens = λ good. moves_reopen h d new sound done.moves good;
      gathers = done.gathers;
      room = done.room;
      plan = refl;
      time = disk_elapses h d n refl c.and-self.ensures;
      counts = c.count.ensures.counts _ _ done.counts;
      sound = sound_pushed h d n refl c.and-self.ensures sound comes.leaves done.moves.offers
          (first_moved h d sound new done.moves.before (λ failed. (done.moves.refused failed).0)) (comes_kept h d.plan d.now new n.now refl comes
          (crash_after h d.plan d.now n.now at more c.args.bytes.now c.requires.inside r done.ok done.err));
    }

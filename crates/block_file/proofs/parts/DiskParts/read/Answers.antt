use Rattle.std.proofs.Common.{◌≡◌, inl, refl, sym, ◌∙◌, ap, subst}
use Rattle.sector_device.specs.Disk.{Disk, IsCrashState}
use Rattle.block_journal.specs.Value.{JournalValue}
use Rattle.block_table.specs.Checked.{CheckedValue, data_now}
use Rattle.block_table.specs.Table.{data_of}
use Rattle.block_table.proofs.Contents.{settled_read, table_read}
use Rattle.block_file.specs.declared.parts.DiskParts.{DiskParts}
use Rattle.block_file.specs.Disks.{disk_of}
use Rattle.block_file.specs.Sectors.{sectors_of}
use Rattle.block_file.proofs.Heading.{first_read}
use Rattle.block_file.proofs.Keeping.{comes_kept, comes_read, through_err, through_ok}
use Rattle.block_file.proofs.Pushing.{disk_elapses, sound_pushed}
use Rattle.block_file.proofs.Reopening.{good_same}
use Rattle.block_file.proofs.parts.DiskParts.read.Goals as goal

pub read_sector-done-requires : goal.read_sector-done-requires
read_sector-done-requires g c = record {
  plan = c.requires.sound.plan;
  blocks = c.requires.sound.kept.blocks;
  inside = c.requires.inside;
}

pub returns : goal.returns
returns g c =
    let h = g.B.Blocks.past_of in
    let d : DiskParts g.row.B.Denot g.row.A.Denot = c.args.self.now in
    let sound = c.requires.sound in
    let old : CheckedValue g.row.B.Denot = d.now.checked in
    let new : CheckedValue g.row.B.Denot = c.read_sector-done.new.checked in
    let done = c.read_sector-done.ensures in
    let n : DiskParts g.row.B.Denot g.row.A.Denot = record {
      plan = d.plan;
      now = record { checked = new; written = d.now.written };
      past = c.and-self.result;
      damaged = c.count.new.damaged;
    } in
    let blocks : new.blocks ≡ old.blocks = ap (λ (x : CheckedValue g.row.B.Denot). x.blocks) done.rest in
    let journal = ap (λ (x : CheckedValue g.row.B.Denot). x.journal) done.rest in
    let table = table_read h old new done.rest done.reads in
    let same_data : data_now h new ≡ data_now h old = λ i. data_of (blocks i) (table i) in
    let disk : disk_of h d.plan n.now ≡ disk_of h d.plan d.now =
    λ i. record { content = sectors_of d.plan.lead d.plan.sectors (same_data i); unsynced = (disk_of h d.plan d.now).unsynced } in
    let comes = comes_read h d.plan d.now sound.kept new (ap (λ (v : JournalValue g.row.B.Denot). v.shape) journal) blocks
    (settled_read h old.journal new.journal journal done.reads) (ap (λ (v : JournalValue g.row.B.Denot). v.offered) journal) done.reads in
    record {
      ok = through_ok _ c.read_sector-done.result c.count.result c.count.ensures.ok done.ok;
      err = through_err _ c.read_sector-done.result c.count.result c.count.ensures.err done.err;
      fits = through_ok _ c.read_sector-done.result c.count.result c.count.ensures.ok done.fits;
      failed = through_err _ c.read_sector-done.result c.count.result c.count.ensures.err done.failed;
      working = through_ok _ c.read_sector-done.result c.count.result c.count.ensures.ok done.sound;
      quiet = through_ok _ c.read_sector-done.result c.count.result c.count.ensures.ok done.quiet;
      left_alone = done.alone;
      back = done.back;
      reads = record { plan = refl; table = table; journal = journal; file = done.reads };
      good = λ good. good_same h d n refl c.and-self.ensures good
          (ap (λ (v : JournalValue g.row.B.Denot). v.has_failed) journal ∙ good.sound)
          (inl (settled_read h old.journal new.journal journal done.reads)) table;
      disk = disk;
      time = disk_elapses h d n refl c.and-self.ensures;
      counts = c.count.ensures.counts _ _ done.counts;
      sound = sound_pushed h d n refl c.and-self.ensures sound comes.leaves
          (inl (ap (λ (v : JournalValue g.row.B.Denot). v.offered) journal)) (first_read h d sound new done.reads)
          (comes_kept h d.plan d.now new n.now refl comes (λ image crash. subst (λ (x : Disk). IsCrashState x image) (sym disk) crash));
    }

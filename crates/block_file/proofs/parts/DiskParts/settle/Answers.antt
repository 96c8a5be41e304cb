use Rattle.std.proofs.Common.{◌≡◌, List, refl, sym, ◌∙◌, ap, subst}
use Rattle.sector_device.specs.Disk.{Disk, IsCrashState}
use Rattle.block_batch.specs.Batch.{Batch, Entry, replayed}
use Rattle.block_journal.specs.Journal.{NeedsNoArea}
use Rattle.block_journal.specs.Value.{JournalValue}
use Rattle.block_journal.proofs.Results.{counts_with, on_ok, on_ok_always}
use Rattle.block_table.specs.Checked.{CheckedValue, data_now, kept_table, settled_table}
use Rattle.block_table.specs.Table.{data_of}
use Rattle.block_file.specs.declared.parts.DiskParts.{DiskParts}
use Rattle.block_file.specs.Closing.{StandsAlone}
use Rattle.block_file.specs.Disks.{disk_of}
use Rattle.block_file.specs.Sectors.{sectors_of}
use Rattle.block_file.proofs.Ending.{on_err_always, stands_alone}
use Rattle.block_file.proofs.Heading.{first_moved}
use Rattle.block_file.proofs.Keeping.{comes_kept, comes_moved}
use Rattle.block_file.proofs.Moving.{moves_commit}
use Rattle.block_file.proofs.Pushing.{disk_elapses, sound_pushed}
use Rattle.block_file.proofs.Reopening.{good_same, moves_reopen}
use Rattle.block_file.proofs.parts.DiskParts.settle.Goals as goal

pub close-requires : goal.close-requires
close-requires g c = c.requires.none

pub returns : goal.returns
returns g c =
    let h = g.B.Blocks.past_of in
    let d : DiskParts g.row.B.Denot g.row.A.Denot = c.args.self.now in
    let sound = c.requires.sound in
    let old : CheckedValue g.row.B.Denot = d.now.checked in
    let new : CheckedValue g.row.B.Denot = c.close.new.self in
    let all = c.close.ensures in
    let r = c.close.result in
    let n : DiskParts g.row.B.Denot g.row.A.Denot = record {
      plan = d.plan;
      now = record { checked = new; written = d.now.written };
      past = c.and-self.result;
      damaged = d.damaged;
    } in
    let was : kept_table h old ≡ settled_table h old = ap (λ (l : List Entry). replayed l (settled_table h old)) c.requires.none in
    let committed : settled_table h new ≡ kept_table h old = all.settled ∙ sym was in
    let moves = moves_commit h old new r all.shape all.blocks (on_ok_always (settled_table h new ≡ kept_table h old) r committed)
    (on_err_always (settled_table h new ≡ settled_table h old) r all.settled) all.any_moment all.offered all.before all.holds all.refused in
    let table : kept_table h new ≡ kept_table h old = ap (λ (l : List Entry). replayed l (settled_table h new)) all.none ∙ committed in
    let same_data : data_now h new ≡ data_now h old = λ i. data_of (all.blocks i) (table i) in
    let disk : disk_of h d.plan n.now ≡ disk_of h d.plan d.now =
    λ i. record { content = sectors_of d.plan.lead d.plan.sectors (same_data i); unsynced = (disk_of h d.plan d.now).unsynced } in
    let comes = comes_moved h d.plan d.now sound.kept new moves in
    record {
      fails = all.fails;
      working = all.sound;
      broken = all.failed;
      settled = on_ok_always _ r committed;
      good = λ good kept. good_same h d n refl c.and-self.ensures good kept moves.settled table;
      opens = λ good. moves_reopen h d new sound moves good;
      offers = moves.offers;
      left_alone = λ was. ap (λ (v : JournalValue g.row.B.Denot). v.below) (all.refused was);
      back = all.back;
      table = table;
      last = on_ok _ _ r (λ is. ap (λ (b : Batch). b.number) is) all.last;
      quiet = all.quiet;
      disk = disk;
      alone = on_ok (NeedsNoArea old.journal.shape (h new.journal.below).file.content (settled_table h old))
          (StandsAlone d.plan (h new.journal.below).file.content (disk_of h d.plan d.now).content) r
          (stands_alone d.plan old.journal.shape (h new.journal.below).file.content (settled_table h old) (kept_table h old) old.blocks sound.kept.shape
          sound.kept.blocks was) all.areas;
      safe = all.synced;
      plan = refl;
      time = disk_elapses h d n refl c.and-self.ensures;
      counts = counts_with _ _ d.damaged d.damaged r all.counts refl;
      sound = sound_pushed h d n refl c.and-self.ensures sound comes.leaves moves.offers
          (first_moved h d sound new moves.before (λ failed. (moves.refused failed).0))
          (comes_kept h d.plan d.now new n.now refl comes (λ image crash. subst (λ (x : Disk). IsCrashState x image) (sym disk) crash));
    }

use Rattle.std.proofs.Common.{◌≡◌, ◌<◌, Err, refl, sym, ◌∙◌, ap, subst, arith}
use Rattle.std.proofs.lemmas.Result.{err_from_is_err_and}
use Rattle.sector_device.specs.Disk.{Disk, IsCrashState}
use Rattle.block_batch.specs.Batch.{Batch}
use Rattle.block_journal.specs.Value.{JournalValue, failures_of}
use Rattle.block_table.specs.Checked.{CheckedValue, data_now}
use Rattle.block_table.specs.Table.{data_of}
use Rattle.block_file.specs.declared.parts.DiskParts.{DiskParts}
use Rattle.block_file.specs.Disks.{disk_of}
use Rattle.block_file.specs.Sectors.{sectors_of}
use Rattle.block_file.proofs.Heading.{first_moved}
use Rattle.block_file.proofs.Keeping.{comes_kept, comes_moved, settled_kept, synced_disk}
use Rattle.block_file.proofs.Moving.{kept_commit, moves_commit}
use Rattle.block_file.proofs.Pushing.{disk_elapses, sound_pushed}
use Rattle.block_file.proofs.Reopening.{good_same, moves_reopen}
use Rattle.block_file.proofs.parts.DiskParts.sync.Goals as goal

pub returns-in_err-commit : goal.returns-in_err-commit
returns-in_err-commit g c =
    let p = err_from_is_err_and c.from_residual.result c.from_residual.ensures.1 in
    let h = g.B.Blocks.past_of in
    let d : DiskParts g.row.B.Denot g.row.A.Denot = c.args.self.now in
    let old : CheckedValue g.row.B.Denot = d.now.checked in
    let new : CheckedValue g.row.B.Denot = c.commit.new.self in
    let all = c.commit.ensures in
    let counts = c.in_err-commit.ensures.counts in
    let F = g.B.Blocks.failures in
    let r = c.commit.result in
    let n : DiskParts g.row.B.Denot g.row.A.Denot = record {
      plan = d.plan;
      now = record { checked = new; written = d.now.written };
      past = c.and-self.result;
      damaged = d.damaged;
    } in
    let moves = moves_commit h old new r all.shape all.blocks all.ok all.err all.any_moment all.offered all.before all.holds all.refused in
    let table = kept_commit h old new r all.ok all.none all.err all.kept in
    let same_data : data_now h new ≡ data_now h old = λ i. data_of (all.blocks i) (table i) in
    let disk : disk_of h d.plan n.now ≡ disk_of h d.plan d.now =
    λ i. record { content = sectors_of d.plan.lead d.plan.sectors (same_data i); unsynced = (disk_of h d.plan d.now).unsynced } in
    let comes = comes_moved h d.plan d.now c.requires.sound.kept new moves in
    rw (p.1 ∙ ap Err p.2) (record {
      ok = tt;
      err = disk;
      none = tt;
      working = tt;
      broken = c.in_err-commit.ensures.failed;
      settled = tt;
      unsettled = c.in_err-commit.ensures.err;
      any_moment = all.any_moment;
      good = λ good kept. good_same h d n refl c.and-self.ensures good kept moves.settled table;
      opens = λ good. moves_reopen h d new c.requires.sound moves good;
      holds = all.holds;
      offers = moves.offers;
      left_alone = λ was. ap (λ (v : JournalValue g.row.B.Denot). v.below) (all.refused was);
      back = all.back;
      table = table;
      last = tt;
      quiet = tt;
      fails = c.in_err-commit.ensures.fails;
      plan = refl;
      time = disk_elapses h d n refl c.and-self.ensures;
      counts = record {
        later = omega (arith, counts.later);
        none = tt;
        failed = λ below. let up : failures_of F old.journal < failures_of F new.journal = counts.failed (omega (arith, below)) in omega (arith, up);
      };
      sound = sound_pushed h d n refl c.and-self.ensures c.requires.sound comes.leaves moves.offers
          (first_moved h d c.requires.sound new moves.before (λ failed. (moves.refused failed).0))
          (comes_kept h d.plan d.now new n.now refl comes (λ image crash. subst (λ (x : Disk). IsCrashState x image) (sym disk) crash));
    })

pub returns : goal.returns
returns g c =
    let h = g.B.Blocks.past_of in
    let d : DiskParts g.row.B.Denot g.row.A.Denot = c.args.self.now in
    let old : CheckedValue g.row.B.Denot = d.now.checked in
    let new : CheckedValue g.row.B.Denot = c.commit.new.self in
    let all = c.commit.ensures in
    let done = c.in_ok-commit.ensures in
    let r = c.commit.result in
    let n : DiskParts g.row.B.Denot g.row.A.Denot = record {
      plan = d.plan;
      now = record { checked = new; written = c.new-self.result };
      past = c.and-self.result;
      damaged = d.damaged;
    } in
    let moves = moves_commit h old new r all.shape all.blocks all.ok all.err all.any_moment all.offered all.before all.holds all.refused in
    let comes = comes_moved h d.plan d.now c.requires.sound.kept new moves in
    let table = kept_commit h old new r all.ok all.none all.err all.kept in
    let same_data : data_now h new ≡ data_now h old = λ i. data_of (all.blocks i) (table i) in
    record {
      ok = synced_disk h d.plan d.now n.now same_data c.new-self.ensures;
      err = tt;
      none = done.none;
      working = done.sound;
      broken = tt;
      settled = done.ok;
      unsettled = tt;
      any_moment = all.any_moment;
      good = λ good kept. good_same h d n refl c.and-self.ensures good kept moves.settled table;
      opens = λ good. moves_reopen h d new c.requires.sound moves good;
      holds = all.holds;
      offers = moves.offers;
      left_alone = λ was. ap (λ (v : JournalValue g.row.B.Denot). v.below) (all.refused was);
      back = all.back;
      table = table;
      last = ap (λ (b : Batch). b.number) done.last;
      quiet = done.quiet;
      fails = tt;
      plan = refl;
      time = disk_elapses h d n refl c.and-self.ensures;
      counts = record { later = omega (arith, done.counts.later); none = omega (arith, done.counts.none); failed = tt };
      sound = sound_pushed h d n refl c.and-self.ensures c.requires.sound comes.leaves moves.offers
          (first_moved h d c.requires.sound new moves.before (λ failed. (moves.refused failed).0))
          (settled_kept h d.plan n.now (all.shape ∙ c.requires.sound.kept.shape) (all.blocks ∙ c.requires.sound.kept.blocks) done.none done.sound.1
          c.stands.ensures.survives);
    }

use Rattle.std.proofs.Common.{◌≡◌, inl, inr, ⊎_elim, ℕ, Err, List, [], ◌∷◌, Contains, sym, ◌∙◌, ap, subst, arith}
use Rattle.std.proofs.lemmas.Bool.{false≢true}
use Rattle.std.proofs.lemmas.List.Elements.{Contains-append_left}
use Rattle.std.proofs.lemmas.Result.{err_from_is_err_and}
use Rattle.sector_device.specs.Disk.{CrashState, Disk, IsSynced, after_sync}
use Rattle.sector_device.proofs.Counts.{counts_later}
use Rattle.block_device.specs.Blocks.{CrashFile}
use Rattle.sector_device.specs.DevicePast.{Rises}
use Rattle.block_batch.specs.Batch.{Batch}
use Rattle.block_journal.specs.declared.shape.Shape.{Shape}
use Rattle.block_journal.specs.Journal.{KeepsBatch}
use Rattle.block_journal.specs.Value.{JournalValue, next_batch}
use Rattle.block_journal.proofs.Results.{on_err, on_ok, on_ok_always}
use Rattle.block_file.specs.declared.parts.DiskParts.{DiskParts}
use Rattle.block_file.specs.declared.plan.Plan.{Plan}
use Rattle.block_file.specs.Closing.{StandsAlone}
use Rattle.block_file.specs.Disks.{disk_past, journal_in}
use Rattle.block_file.specs.Settling.{OpensUnder}
use Rattle.block_file.proofs.Ending.{elapses_then}
use Rattle.block_file.proofs.HandingOn.{opens_then}
use Rattle.block_file.proofs.parts.DiskParts.close.Goals as goal

pub sync-requires : goal.sync-requires
sync-requires g c = record { sound = c.requires.sound }

pub settle-requires : goal.settle-requires
settle-requires g c = record { sound = c.sync.ensures.sound; none = c.in_ok-sync.ensures.none }

pub returns-in_err-sync : goal.returns-in_err-sync
returns-in_err-sync g c =
    let p = err_from_is_err_and c.from_residual.result c.from_residual.ensures.1 in
    let done = c.in_err-sync.ensures in
    rw (p.1 ∙ ap Err p.2) (record {
      content = ap (λ (x : Disk). x.content) done.err;
      synced = tt;
      alone = tt;
      safe = tt;
      failed = ⊎_elim (λ was. inl was) (⊎_elim (λ most. inr (inl (omega (arith, most)))) (λ up. inr (inr up))) done.fails;
      working = tt;
      broken = done.broken;
      settled = tt;
      good = c.sync.ensures.good;
      opens = c.sync.ensures.opens;
      left_alone = c.sync.ensures.left_alone;
      back = c.sync.ensures.back;
      table = c.sync.ensures.table;
      number = tt;
      quiet = tt;
      plan = c.sync.ensures.plan;
      time = c.sync.ensures.time;
      counts = done.counts;
      sound = c.sync.ensures.sound;
    })

pub returns : goal.returns
returns g c =
    let h = g.B.Blocks.past_of in
    let old : DiskParts g.row.B.Denot g.row.A.Denot = c.args.self.now in
    let mid : DiskParts g.row.B.Denot g.row.A.Denot = c.sync.new.self in
    let new : DiskParts g.row.B.Denot g.row.A.Denot = c.settle.new.self in
    let first = c.in_ok-sync.ensures in
    let second = c.settle.ensures in
    let r = c.settle.result in
    let disk : (disk_past h new).disk ≡ after_sync (disk_past h old).disk = second.disk ∙ first.ok in
    let image : CrashFile = (h (journal_in new.now).below).file.content in
    record {
      content = ap (λ (x : Disk). x.content) disk;
      synced = on_ok_always (IsSynced (disk_past h new).disk) r (λ k. ap (λ (x : Disk). x.unsynced k) disk);
      alone = on_ok (StandsAlone mid.plan image (disk_past h mid).disk.content) (StandsAlone old.plan image (disk_past h old).disk.content) r
          (λ alone. subst (λ (p : Plan). StandsAlone p image (disk_past h old).disk.content) c.sync.ensures.plan
          (subst (λ (s : CrashState). StandsAlone mid.plan image s) (ap (λ (x : Disk). x.content) first.ok) alone)) second.alone;
      safe = second.safe;
      failed = on_err _ _ r (⊎_elim (λ was. absurd (false≢true (sym first.working.1 ∙ was)))
          (⊎_elim (λ most. inr (inl (omega (arith, most, first.last))))
          (λ up. inr (inr (subst (λ (a : ℕ). Rises a (g.B.Blocks.failures (journal_in new.now).below)) first.quiet up))))) second.fails;
      working = on_ok _ _ r (λ both. (first.working.0, both.1)) second.working;
      broken = second.broken;
      settled = on_ok _ _ r (λ is. is ∙ c.sync.ensures.table) second.settled;
      good = λ good kept. second.good (c.sync.ensures.good good first.working.1) kept;
      opens = λ good.
          let v : JournalValue g.row.B.Denot = journal_in old.now in
          let m : JournalValue g.row.B.Denot = journal_in mid.now in
          let n : JournalValue g.row.B.Denot = journal_in new.now in
          let keeps = subst (λ (s : Shape). KeepsBatch s v.last (h v.below) (h m.below)) c.requires.sound.kept.shape
          (c.sync.ensures.holds first.working.0) in
          let has : Contains m.offered v.last = ⊎_elim
          (λ same. subst (λ (l : List Batch). Contains l v.last) (sym same) (c.stands.ensures.last first.working.0))
          (λ more. subst (λ (l : List Batch). Contains l v.last) (sym more)
          (Contains-append_left v.offered (next_batch v ∷ []) v.last (c.stands.ensures.last first.working.0)))
          c.sync.ensures.offers in
          opens_then old.plan (h v.below) (h m.below) (h n.below) v.last m.offered n.offered (next_batch m) keeps has (omega (arith, first.last))
          second.offers (c.sync.ensures.opens good)
          (subst (λ (p : Plan). OpensUnder n.offered p (h m.below) (h n.below)) c.sync.ensures.plan
          (second.opens (c.sync.ensures.good good first.working.1)));
      left_alone = λ was. absurd (false≢true (sym first.working.0 ∙ was));
      back = second.back ∙ c.sync.ensures.back;
      table = second.table ∙ c.sync.ensures.table;
      number = on_ok _ _ r (λ is. omega (arith, is, first.last)) second.last;
      quiet = on_ok _ _ r (λ same. same ∙ first.quiet) second.quiet;
      plan = second.plan ∙ c.sync.ensures.plan;
      time = elapses_then (disk_past h old) (disk_past h mid) (disk_past h new) c.sync.ensures.time second.time second.disk;
      counts = counts_later _ _ _ r first.counts.none second.counts;
      sound = second.sound;
    }

use Rattle.std.proofs.Common.{◌≡◌, inl, inr, ℕ, Err, false, ⊎_elim, refl, sym, ◌∙◌, ap, subst, arith}
use Rattle.std.proofs.lemmas.Bool.{cases_Bool, cases_eq, false≢true}
use Rattle.sector_device.specs.DevicePast.{Rises}
use Rattle.block_device.specs.Blocks.{CrashFile}
use Rattle.block_journal.specs.Value.{JournalValue, failures_of}
use Rattle.block_journal.proofs.OnlyReading.{reads_none, reads_then}
use Rattle.block_table.specs.Checked.{CheckedValue, kept_table}
use Rattle.block_table.specs.Table.{IsFit}
use Rattle.block_table.proofs.Contents.{read_then, table_read}
use Rattle.block_table.proofs.Errors.{ok_not_err, damaged_not_failed}
use Rattle.block_table.proofs.checked.CheckedBlocks.check.Goals as goal

pub loop-n-init : goal.loop-n-init
loop-n-init g c = record {
  fits = λ m behind below. absurd (omega (arith, behind, below));
  rest = refl;
  reads = reads_none (g.B.Blocks.past_of c.args.self.now.journal.below);
  back = refl;
  sound = λ below. absurd (omega (arith, below));
  alone = λ _. refl;
  still = refl;
  quiet = refl;
}

pub read-requires : goal.read-requires
read-requires g c =
    let opened = ap (λ (x : CheckedValue g.row.B.Denot). x.blocks) c.self.view_is in
    omega (arith, c.loop-n-test.true, opened, ap (λ (x : CheckedValue g.row.B.Denot). x.blocks) c.loop-n.invariant.rest)

pub loop-n-preserved : goal.loop-n-preserved
loop-n-preserved g c =
    let h = g.B.Blocks.past_of in
    let so_far = c.loop-n.invariant in
    let start = c.args.self.now in
    let mid = c.loop-n.self in
    let n = c.loop-n.n in
    let blocks = ap (λ (x : CheckedValue g.row.B.Denot). x.blocks) so_far.rest in
    let table = table_read h start mid so_far.rest so_far.reads in
    let here : IsFit start.blocks (kept_table h start) n =
    subst (λ (k : ℕ). IsFit k (kept_table h start) n) blocks (subst (λ (l : CrashFile). IsFit mid.blocks l n) table c.in-Ok.ensures.fits) in
    let F = g.B.Blocks.failures in
    let same : failures_of F c.read.new.self.journal ≡ failures_of F mid.journal = c.in-Ok.ensures.counts.quiet (λ is. ok_not_err is) in
    let good : mid.journal.has_failed ≡ false = c.in-Ok.ensures.sound (λ is. ok_not_err is) in
    let began : start.journal.has_failed ≡ false = sym (ap (λ (x : CheckedValue g.row.B.Denot). x.journal.has_failed) so_far.rest) ∙ good in
    let refused = ap (λ (x : CheckedValue g.row.B.Denot). x.journal.refused) (c.read.ensures.good good) in
    record {
      fits = λ m behind below. ⊎_elim
          (λ same. subst (IsFit start.blocks (kept_table h start)) (sym same) here)
          (λ other. so_far.fits m behind (omega (arith, below, other)))
          (cases_eq m n);
      rest = read_then start mid c.read.new.self so_far.rest c.read.ensures.rest;
      reads = reads_then _ _ _ so_far.reads c.read.ensures.reads;
      back = c.read.ensures.back ∙ so_far.back;
      sound = λ _. began;
      alone = λ failed. absurd (false≢true (sym began ∙ failed));
      still = omega (arith, same, refused, so_far.still);
      quiet = same ∙ so_far.quiet;
    }

pub returns-in-Err-Damaged : goal.returns-in-Err-Damaged
returns-in-Err-Damaged g c =
    let h = g.B.Blocks.past_of in
    let so_far = c.loop-n.invariant in
    let start = c.args.self.now in
    let mid = c.loop-n.self in
    let n = c.loop-n.n in
    let read = c.read.ensures in
    let blocks : mid.blocks ≡ start.blocks = ap (λ (x : CheckedValue g.row.B.Denot). x.blocks) so_far.rest in
    let table = table_read h start mid so_far.rest so_far.reads in
    let damaged = c.in-Err-Damaged.ensures in
    let other = ap Err c.in-Err-Damaged.field-0-is in
    let same = damaged.counts.quiet (λ is. damaged_not_failed (sym other ∙ is)) in
    let none = same ∙ so_far.quiet in
    let good : mid.journal.has_failed ≡ false = damaged.sound (λ is. damaged_not_failed (sym other ∙ is)) in
    let began : start.journal.has_failed ≡ false = sym (ap (λ (x : CheckedValue g.row.B.Denot). x.journal.has_failed) so_far.rest) ∙ good in
    let refused = ap (λ (x : CheckedValue g.row.B.Denot). x.journal.refused) (read.good good) in
    record {
      unfit = record {
        behind = c.loop-n.auto.n;
        low = omega (arith, c.loop-n-test.true, ap (λ (x : CheckedValue g.row.B.Denot). x.blocks) c.self.view_is);
        unfit = subst (λ (k : ℕ). ¬ IsFit k (kept_table h start) n) blocks
            (subst (λ (l : CrashFile). ¬ IsFit mid.blocks l n) table (damaged.damaged other));
        before = so_far.fits;
      };
      sound = tt;
      rest = read_then start mid c.read.new.self so_far.rest read.rest;
      failed = tt;
      unfailed = λ _. began;
      quiet = omega (arith, same, refused, so_far.still);
      alone = λ failed. absurd (false≢true (sym began ∙ failed));
      reads = reads_then _ _ _ so_far.reads read.reads;
      back = read.back ∙ so_far.back;
      counts = record { later = omega (arith, none); none = none; failed = tt };
    }

pub returns-in-Err-FileFailed : goal.returns-in-Err-FileFailed
returns-in-Err-FileFailed g c =
    let so_far = c.loop-n.invariant in
    let start = c.args.self.now in
    let mid = c.loop-n.self in
    let read = c.read.ensures in
    record {
      unfit = tt;
      sound = tt;
      rest = read_then start mid c.read.new.self so_far.rest read.rest;
      failed = ⊎_elim (λ was. inl was)
          (λ sound. ⊎_elim
          (λ was. inl (sym (ap (λ (x : CheckedValue g.row.B.Denot). x.journal.has_failed) so_far.rest) ∙ was))
          (λ up. inr (subst (λ (a : ℕ). Rises a (g.B.Blocks.failures c.read.new.self.journal.below)) so_far.still up))
          (c.in-Err-FileFailed.ensures.failed (ap Err c.in-Err-FileFailed.field-0-is)))
          (cases_Bool start.journal.has_failed);
      unfailed = λ _. tt;
      quiet = tt;
      alone = λ failed. ap (λ (v : JournalValue g.row.B.Denot). v.below)
          (read.refused (ap (λ (x : CheckedValue g.row.B.Denot). x.journal.has_failed) so_far.rest ∙ failed)) ∙ so_far.alone failed;
      reads = reads_then _ _ _ so_far.reads read.reads;
      back = read.back ∙ so_far.back;
      counts = record {
        later = omega (arith, read.counts.later, so_far.quiet);
        none = tt;
        failed = subst (λ (a : ℕ). Rises a (failures_of g.B.Blocks.failures c.read.new.self.journal)) so_far.quiet
            (c.in-Err-FileFailed.ensures.counts.rises (ap Err c.in-Err-FileFailed.field-0-is));
      };
    }

pub returns : goal.returns
returns g c =
    let so_far = c.loop-n.invariant in
    record {
      unfit = tt;
      sound = λ n behind below. so_far.fits n behind
          (omega (arith, below, c.loop-n-test.false, ap (λ (x : CheckedValue g.row.B.Denot). x.blocks) c.self.view_is));
      rest = so_far.rest;
      failed = tt;
      unfailed = λ low. so_far.sound
          (omega (arith, low, c.loop-n-test.false, ap (λ (x : CheckedValue g.row.B.Denot). x.blocks) c.self.view_is));
      quiet = so_far.still;
      alone = so_far.alone;
      reads = so_far.reads;
      back = so_far.back;
      counts = record { later = omega (arith, so_far.quiet); none = so_far.quiet; failed = tt };
    }

use Rattle.std.proofs.Common.{◌≡◌, ◌⊎◌, inl, inr, ⊎_elim, ℕ, ◌-◌, List, sym, ◌∙◌, ap, subst, arith}
use Rattle.std.proofs.lemmas.Bool.{false≢true}
use Rattle.std.proofs.lemmas.Result.{IfErr-weaker, IfOk-weaker}
use Rattle.sector_device.specs.DevicePast.{Rises}
use Rattle.block_device.specs.Blocks.{CrashFile}
use Rattle.block_batch.specs.Batch.{Entry, replayed}
use Rattle.block_journal.specs.Journal.{OnlyReads}
use Rattle.block_journal.specs.Value.{JournalValue}
use Rattle.block_table.specs.Checked.{CheckedValue, kept_table, settled_table}
use Rattle.block_table.specs.Table.{EachFits, IsFirstUnfit, IsFit, data_of}
use Rattle.block_table.proofs.Contents.{settled_read}
use Rattle.block_file.specs.Sectors.{sectors_of}
use Rattle.block_file.specs.Disks.{journal_in}
use Rattle.block_file.specs.Settling.{handed_on}
use Rattle.block_file.proofs.Errors.{failed_not_damaged, failed_not_header, failed_not_short, failed_not_batch, damaged_not_header, damaged_not_short}
use Rattle.block_file.proofs.Errors.{damaged_not_batch, damaged_not_failed, same_damaged}
use Rattle.block_file.proofs.Openings.{if_err2}
use Rattle.block_file.proofs.HandingOn.{hands_read}
use Rattle.block_file.proofs.opening.compared.Goals as goal

pub settled-requires : goal.settled-requires
settled-requires g c =
    let rest = c.check.ensures.rest in
    let journal = ap (λ (x : CheckedValue g.row.B.Denot). x.journal) rest in
    record {
      plan = c.requires.plan;
      shape = ap (λ (v : JournalValue g.row.B.Denot). v.shape) journal ∙ c.requires.shape;
      blocks = ap (λ (x : CheckedValue g.row.B.Denot). x.blocks) rest ∙ c.requires.blocks;
      none = ap (λ (v : JournalValue g.row.B.Denot). v.next) journal ∙ c.requires.none;
      good = ap (λ (v : JournalValue g.row.B.Denot). v.has_failed) journal ∙ c.requires.good;
    }

pub returns-in-Ok-None : goal.returns-in-Ok-None
returns-in-Ok-None g c =
    let h = g.B.Blocks.past_of in
    let F = g.B.Blocks.failures in
    let plan = c.args.plan in
    let old : CheckedValue g.row.B.Denot = c.args.checked in
    let new : CheckedValue g.row.B.Denot = c.check.new.self in
    let done = c.check.ensures in
    let journal = ap (λ (x : CheckedValue g.row.B.Denot). x.journal) done.rest in
    let blocks : new.blocks ≡ old.blocks = ap (λ (x : CheckedValue g.row.B.Denot). x.blocks) done.rest in
    let table : kept_table h old ≡ settled_table h old = ap (λ (l : List Entry). replayed l (settled_table h old)) c.requires.none in
    let settled : settled_table h new ≡ settled_table h old = settled_read h old.journal new.journal journal done.reads in
    let sound = rw c.in-Ok-None.field-0-is at c.in-Ok-None.ensures.sound in
    let fits : EachFits plan.blocks (settled_table h old) = λ n below. subst (λ (l : CrashFile). IsFit plan.blocks l n) table
    (subst (λ (b : ℕ). IsFit b (kept_table h old) n) c.requires.blocks (sound n (omega arith) (omega (arith, below, c.requires.blocks)))) in
    let quiet : F new.journal.below ≡ F old.journal.below = c.in-Ok-None.ensures.quiet in
    let number : new.journal.last.number ≡ old.journal.last.number = ap (λ (v : JournalValue g.row.B.Denot). v.last.number) journal in
    let made = c.settled.ensures in
    let r = c.settled.result in
    record {
      plan = made.plan;
      content = IfOk-weaker r _ _ (λ d is. is ∙ (λ i. sectors_of plan.lead plan.sectors (data_of (blocks i) (settled i)))) made.content;
      synced = made.synced;
      alone = made.alone;
      fits = IfOk-weaker r _ _ (λ d _. fits) made.plan;
      safe = made.safe;
      first = made.first;
      failures = IfOk-weaker r _ _ (λ d is. is ∙ c.in-Ok-None.ensures.counts.none) made.failures;
      offered = IfOk-weaker r _ _ (λ d is. is ∙ ap (λ (v : JournalValue g.row.B.Denot). handed_on v.offered v.last) journal) made.offered;
      sound = made.sound;
      each = IfOk-weaker r _ _ (λ d is. subst (EachFits plan.blocks) (sym (is ∙ settled)) fits) made.table;
      committed = made.committed;
      hands = IfOk-weaker r _ _ (λ d hands. hands_read h old.journal new.journal (h (journal_in d.now).below) journal done.reads hands) made.hands;
      back = IfOk-weaker r _ _ (λ d is. is ∙ done.back) made.back;
      back_refused = IfErr-weaker r _ _ (λ e is. is ∙ done.back) made.back_refused;
      refused = if_err2 r _ _ _ (λ e why hands. inr (why, hands_read h old.journal new.journal (h e.file) journal done.reads hands)) made.why made.refused;
      damaged = IfErr-weaker r _ _ (λ e why n is. absurd (failed_not_damaged n (sym why ∙ is))) made.why;
      header = IfErr-weaker r _ _ (λ e why is. absurd (failed_not_header (sym why ∙ is))) made.why;
      short = IfErr-weaker r _ _ (λ e why is. absurd (failed_not_short (sym why ∙ is))) made.why;
      batch = IfErr-weaker r _ _ (λ e why is. absurd (failed_not_batch (sym why ∙ is))) made.why;
      failed = IfErr-weaker r _ _ (λ e failed _. ⊎_elim (λ most. inl (omega (arith, most, number)))
          (λ up. inr (subst (λ (a : ℕ). Rises a (F e.file)) quiet up)) failed) made.failed;
    }

pub returns-in-Ok-Some : goal.returns-in-Ok-Some
returns-in-Ok-Some g c =
    let h = g.B.Blocks.past_of in
    let plan = c.args.plan in
    let old : CheckedValue g.row.B.Denot = c.args.checked in
    let done = c.check.ensures in
    let table : kept_table h old ≡ settled_table h old = ap (λ (l : List Entry). replayed l (settled_table h old)) c.requires.none in
    let unfit = rw c.in-Ok-Some.field-0-is at c.in-Ok-Some.ensures.unfit in
    record {
      plan = tt;
      content = tt;
      synced = tt;
      alone = tt;
      fits = tt;
      safe = tt;
      first = tt;
      failures = tt;
      offered = tt;
      sound = tt;
      each = tt;
      committed = tt;
      hands = tt;
      back = tt;
      back_refused = ap g.B.Blocks.written_back c.into_file.ensures ∙ done.back;
      refused = inl (subst (λ (b : g.row.B.Denot). OnlyReads (h old.journal.below) (h b)) (sym c.into_file.ensures) done.reads);
      damaged = λ n is.
          subst (IsFirstUnfit plan.blocks (settled_table h old) 0) (same_damaged c.in-Ok-Some.n n is)
          (subst (λ (l : CrashFile). IsFirstUnfit plan.blocks l 0 c.in-Ok-Some.n) table
          (subst (λ (b : ℕ). IsFirstUnfit b (kept_table h old) 0 c.in-Ok-Some.n) c.requires.blocks unfit));
      header = damaged_not_header c.in-Ok-Some.n;
      short = damaged_not_short c.in-Ok-Some.n;
      batch = damaged_not_batch c.in-Ok-Some.n;
      failed = λ is. absurd (damaged_not_failed c.in-Ok-Some.n is);
    }

pub returns-in-Err : goal.returns-in-Err
returns-in-Err g c =
    let h = g.B.Blocks.past_of in
    record {
      plan = tt;
      content = tt;
      synced = tt;
      alone = tt;
      fits = tt;
      safe = tt;
      first = tt;
      failures = tt;
      offered = tt;
      sound = tt;
      each = tt;
      committed = tt;
      hands = tt;
      back = tt;
      back_refused = ap g.B.Blocks.written_back c.into_file-in-Err.ensures ∙ c.check.ensures.back;
      refused = inl (subst (λ (b : g.row.B.Denot). OnlyReads (h c.args.checked.journal.below) (h b)) (sym c.into_file-in-Err.ensures)
          c.check.ensures.reads);
      damaged = λ n is. absurd (failed_not_damaged n is);
      header = failed_not_header;
      short = failed_not_short;
      batch = failed_not_batch;
      failed = λ _. inr (subst (λ (b : g.row.B.Denot). Rises (g.B.Blocks.failures c.args.checked.journal.below) (g.B.Blocks.failures b))
          (sym c.into_file-in-Err.ensures)
          (⊎_elim (λ was. absurd (false≢true (sym c.requires.good ∙ was))) (λ up. up) c.in-Err.ensures.failed));
    }

use Rattle.std.proofs.Common.{◌⊎◌, ◌-◌, ◌^◌, ◌≤◌, List, refl, sym, ◌∙◌, ap, subst}
use Rattle.sector_device.specs.Disk.{CrashState}
use Rattle.sector_device.specs.DevicePast.{Rises}
use Rattle.block_batch.specs.Batch.{Entry, replayed}
use Rattle.block_journal.specs.Value.{JournalValue, content_of, settled_of}
use Rattle.block_table.specs.Checked.{CheckedValue, settled_table}
use Rattle.block_table.specs.Table.{data_of}
use Rattle.block_file.specs.Closing.{StandsAlone}
use Rattle.block_file.specs.Disks.{disk_past, journal_in}
use Rattle.block_file.specs.Sectors.{sectors_of}
use Rattle.block_file.specs.Settling.{IsHandingOn}
use Rattle.block_file.proofs.Ending.{stands_alone}
use Rattle.block_file.proofs.opening.settled.Goals as goal

pub settle-requires : goal.settle-requires
settle-requires g c = record { none = c.requires.none; good = c.requires.good }

pub over-requires : goal.over-requires
over-requires g c = record {
  plan = c.requires.plan;
  shape = c.settle.ensures.shape ∙ c.requires.shape;
  blocks = c.settle.ensures.blocks ∙ c.requires.blocks;
  none = c.in-Ok.ensures.none;
  good = c.in-Ok.ensures.sound;
}

pub returns-in-Ok : goal.returns-in-Ok
returns-in-Ok g c =
    let h = g.B.Blocks.past_of in
    let plan = c.args.plan in
    let old : CheckedValue g.row.B.Denot = c.args.checked in
    let new : CheckedValue g.row.B.Denot = c.settle.new.checked in
    let all = c.settle.ensures in
    let done = c.in-Ok.ensures in
    let made = c.over.ensures in
    let content = made.content ∙ (λ i. sectors_of plan.lead plan.sectors (data_of (all.blocks i) (all.settled i))) in
    let none = ap (λ (v : JournalValue g.row.B.Denot). v.next) made.journal ∙ done.none in
    let alone = stands_alone plan old.journal.shape (h new.journal.below).file.content (settled_table h old) (settled_table h old) old.blocks
    c.requires.shape c.requires.blocks refl done.areas in
    record {
      plan = made.plan;
      content = content;
      synced = made.synced;
      alone = subst (λ (v : JournalValue g.row.B.Denot). StandsAlone plan (h v.below).file.content (disk_past h c.over.result).disk.content) (sym made.journal)
          (subst (λ (s : CrashState). StandsAlone plan (h new.journal.below).file.content s) (sym content) alone);
      safe = λ n. ap (λ (v : JournalValue g.row.B.Denot). (h v.below).file.loose n) made.journal ∙ done.safe n;
      first = made.first ∙ sym (ap (λ (v : JournalValue g.row.B.Denot). (h v.below).file.content) made.journal);
      failures = made.failures ∙ done.counted;
      offered = ap (λ (v : JournalValue g.row.B.Denot). v.offered) made.journal ∙ done.offered;
      sound = ap (λ (v : JournalValue g.row.B.Denot). v.has_failed) made.journal ∙ done.sound;
      table = ap (λ (v : JournalValue g.row.B.Denot). content_of h v) made.journal
          ∙ ap (λ (l : List Entry). replayed l (settled_table h new)) done.none ∙ all.settled;
      committed = sym (ap (λ (l : List Entry). replayed l (settled_of h (journal_in c.over.result.now))) none);
      hands = subst (λ (v : JournalValue g.row.B.Denot). IsHandingOn h old.journal (h v.below)) (sym made.journal) all.hands;
      back = ap (λ (v : JournalValue g.row.B.Denot). g.B.Blocks.written_back v.below) made.journal ∙ all.back;
      back_refused = tt;
      refused = tt;
      why = tt;
      failed = tt;
    }

pub returns-in-Err : goal.returns-in-Err
returns-in-Err g c =
    let h = g.B.Blocks.past_of in
    let F = g.B.Blocks.failures in
    let v : JournalValue g.row.B.Denot = c.args.checked.journal in
    record {
      plan = tt;
      content = tt;
      synced = tt;
      alone = tt;
      safe = tt;
      first = tt;
      failures = tt;
      offered = tt;
      sound = tt;
      table = tt;
      committed = tt;
      hands = tt;
      back = tt;
      back_refused = ap g.B.Blocks.written_back c.into_file.ensures ∙ c.settle.ensures.back;
      refused = subst (λ (b : g.row.B.Denot). IsHandingOn h v (h b)) (sym c.into_file.ensures) c.settle.ensures.hands;
      why = refl;
      failed = subst (λ (b : g.row.B.Denot). (2 ^ 64 - 2 ≤ v.last.number) ⊎ Rises (F v.below) (F b)) (sym c.into_file.ensures) c.in-Err.ensures.fails;
    }

use Rattle.std.proofs.Common.{◌≡◌, ◌⊎◌, inl, inr, ⊎_elim, ℕ, ◌<◌, List, None, Some, sym, ◌∙◌, ap, subst, arith}
use Rattle.sector_device.specs.DevicePast.{Rises}
use Rattle.block_device.specs.Blocks.{BlockFile, block}
use Rattle.block_device.proofs.CrashFiles.{content_is_image}
use Rattle.block_device.proofs.Moments.{at_end}
use Rattle.block_device.specs.BlocksPast.{BlocksPast, WrittenBack}
use Rattle.block_batch.specs.Batch.{Entry, replayed}
use Rattle.block_journal.specs.Layout.{IsInside, found, recovered}
use Rattle.block_journal.specs.Journal.{BeginsBack, LeavesBefore, StaysRecovered, WritesBackFirst}
use Rattle.block_journal.proofs.OnlyReading.{reads_then}
use Rattle.block_journal.proofs.WritingBack.{begins_back_behind, writes_back_behind}
use Rattle.block_journal.specs.Value.{JournalValue}
use Rattle.block_table.specs.Checked.{CheckedValue, kept_table, settled_table}
use Rattle.block_table.specs.Table.{data_of}
use Rattle.block_file.specs.declared.plan.Plan.{Plan}
use Rattle.block_file.specs.Plans.{disk_image}
use Rattle.block_file.specs.Disks.{disk_past, first_content, journal_in}
use Rattle.block_file.specs.Header.{plan_told}
use Rattle.block_file.proofs.Errors.{short_not_header, short_not_failed, short_not_batch, short_not_damaged}
use Rattle.block_file.proofs.Heading.{still_told}
use Rattle.block_file.specs.Sectors.{sectors_of}
use Rattle.block_file.proofs.Openings.{before_then, reads_before, reads_recovered, same_plan, stays_then}
use Rattle.block_file.proofs.uncompared.open_uncompared.Goals as goal

-- ---- it is opened

pub returns-in-Ok-open-clause-still : goal.returns-in-Ok-open-clause-still
returns-in-Ok-open-clause-still g c =
    let h = g.B.Blocks.past_of in
    let plan : Plan = c.in-Ok.plan in
    let checked : CheckedValue g.row.B.Denot = c.in-Ok-open.checked in
    let mid : BlocksPast = h c.read_plan.new.below in
    let end : BlocksPast = h checked.journal.below in
    let told : plan_told mid.file.content ≡ Some plan = ap (λ (f : BlockFile). plan_told f.content) c.in-Ok.ensures.reads.file ∙ c.in-Ok.ensures.told in
    let stays = at_end mid end (λ image. (n : ℕ) → n < plan.shape.first → block image n ≡ block mid.file.content n) c.in-Ok-open.ensures.before
    end.file.content (content_is_image end.file end.whole) in
    let now : plan_told end.file.content ≡ Some plan = still_told end.file.content mid.file.content plan told stays in
    subst (λ (p : Plan). plan_told (first_content h c.over.result) ≡ Some p) (sym c.over.ensures.plan) (ap plan_told c.over.ensures.first ∙ now)

pub returns-in-Ok-open-clause-content : goal.returns-in-Ok-open-clause-content
returns-in-Ok-open-clause-content g c =
    let h = g.B.Blocks.past_of in
    let plan : Plan = c.in-Ok.plan in
    let checked : CheckedValue g.row.B.Denot = c.in-Ok-open.checked in
    let old : BlockFile = (h c.args.below).file in
    let opened = c.in-Ok-open.ensures in
    let table : settled_table h checked ≡ recovered plan.shape old.content =
    opened.settled ∙ ap (λ (f : BlockFile). recovered plan.shape f.content) c.in-Ok.ensures.reads.file in
    subst (λ (p : Plan). (disk_past h c.over.result).disk.content ≡ disk_image p old.content) (sym c.over.ensures.plan)
    (c.over.ensures.content ∙ (λ i. sectors_of plan.lead plan.sectors (data_of (opened.blocks i) (table i))))

pub returns-in-Ok-open-clause-table : goal.returns-in-Ok-open-clause-table
returns-in-Ok-open-clause-table g c =
    let h = g.B.Blocks.past_of in
    let plan : Plan = c.in-Ok.plan in
    let checked : CheckedValue g.row.B.Denot = c.in-Ok-open.checked in
    let old : BlockFile = (h c.args.below).file in
    let opened = c.in-Ok-open.ensures in
    let table : settled_table h checked ≡ recovered plan.shape old.content =
    opened.settled ∙ ap (λ (f : BlockFile). recovered plan.shape f.content) c.in-Ok.ensures.reads.file in
    let kept : kept_table h checked ≡ settled_table h checked = ap (λ (l : List Entry). replayed l (settled_table h checked)) opened.none in
    let now : kept_table h (c.over.result).now.checked ≡ kept_table h checked =
    ap (λ (v : JournalValue g.row.B.Denot). kept_table h (record { journal = v; blocks = checked.blocks })) c.over.ensures.journal in
    subst (λ (p : Plan). kept_table h (c.over.result).now.checked ≡ recovered p.shape old.content) (sym c.over.ensures.plan)
    (now ∙ kept ∙ table)

pub returns-in-Ok-open-clause-failures : goal.returns-in-Ok-open-clause-failures
returns-in-Ok-open-clause-failures g c =
    let opened = c.in-Ok-open.ensures in
    omega (arith, c.over.ensures.failures, opened.quiet, opened.unrefused, c.in-Ok.ensures.quiet)

pub returns-in-Ok-open-clause-any_moment : goal.returns-in-Ok-open-clause-any_moment
returns-in-Ok-open-clause-any_moment g c =
    let h = g.B.Blocks.past_of in
    let plan : Plan = c.in-Ok.plan in
    let checked : CheckedValue g.row.B.Denot = c.in-Ok-open.checked in
    let old : BlocksPast = h c.args.below in
    let mid : BlocksPast = h c.read_plan.new.below in
    let reads = c.in-Ok.ensures.reads in
    let all : StaysRecovered plan.shape old (h checked.journal.below) =
    stays_then plan.shape old mid (h checked.journal.below) reads.file (reads_recovered plan.shape old mid c.requires reads) c.in-Ok-open.ensures.any_moment in
    subst (λ (p : Plan). StaysRecovered p.shape old (h (journal_in (c.over.result).now).below)) (sym c.over.ensures.plan)
    (subst (λ (v : JournalValue g.row.B.Denot). StaysRecovered plan.shape old (h v.below)) (sym c.over.ensures.journal) all)

pub returns-in-Ok-open-clause-headers : goal.returns-in-Ok-open-clause-headers
returns-in-Ok-open-clause-headers g c =
    let h = g.B.Blocks.past_of in
    let plan : Plan = c.in-Ok.plan in
    let checked : CheckedValue g.row.B.Denot = c.in-Ok-open.checked in
    let old : BlocksPast = h c.args.below in
    let mid : BlocksPast = h c.read_plan.new.below in
    let reads = c.in-Ok.ensures.reads in
    let all : LeavesBefore plan.shape old (h checked.journal.below) =
    before_then plan.shape old mid (h checked.journal.below) reads.file (reads_before plan.shape old mid c.requires reads) c.in-Ok-open.ensures.before in
    subst (λ (p : Plan). LeavesBefore p.shape old (h (journal_in (c.over.result).now).below)) (sym c.over.ensures.plan)
    (subst (λ (v : JournalValue g.row.B.Denot). LeavesBefore plan.shape old (h v.below)) (sym c.over.ensures.journal) all)

pub returns-in-Ok-open-clause-sound : goal.returns-in-Ok-open-clause-sound
returns-in-Ok-open-clause-sound g c =
    ap (λ (v : JournalValue g.row.B.Denot). v.has_failed) c.over.ensures.journal ∙ c.in-Ok-open.ensures.sound

-- ---- its journal can't be opened

pub returns-in-Err-open-clause-refused : goal.returns-in-Err-open-clause-refused
returns-in-Err-open-clause-refused g c = λ p told inside.
    let h = g.B.Blocks.past_of in
    let plan : Plan = c.in-Ok.plan in
    let old : BlocksPast = h c.args.below in
    let mid : BlocksPast = h c.read_plan.new.below in
    let reads = c.in-Ok.ensures.reads in
    let new : BlocksPast = h c.in-Err-open.refused.file in
    subst (λ (q : Plan). StaysRecovered q.shape old new) (same_plan _ plan p c.in-Ok.ensures.told told)
    (stays_then plan.shape old mid new reads.file (reads_recovered plan.shape old mid c.requires reads) c.in-Err-open.ensures.refused)

pub returns-in-Err-open-clause-headers_refused : goal.returns-in-Err-open-clause-headers_refused
returns-in-Err-open-clause-headers_refused g c = λ p told.
    let h = g.B.Blocks.past_of in
    let plan : Plan = c.in-Ok.plan in
    let old : BlocksPast = h c.args.below in
    let mid : BlocksPast = h c.read_plan.new.below in
    let reads = c.in-Ok.ensures.reads in
    let new : BlocksPast = h c.in-Err-open.refused.file in
    subst (λ (q : Plan). LeavesBefore q.shape old new) (same_plan _ plan p c.in-Ok.ensures.told told)
    (before_then plan.shape old mid new reads.file (reads_before plan.shape old mid c.requires reads) c.in-Err-open.ensures.before_refused)

pub returns-in-Err-open-clause-left_alone : goal.returns-in-Err-open-clause-left_alone
returns-in-Err-open-clause-left_alone g c = λ none.
    let h = g.B.Blocks.past_of in
    let plan : Plan = c.in-Ok.plan in
    let inside = subst (λ (f : BlockFile). IsInside plan.shape f.content) c.in-Ok.ensures.reads.file
    (c.has_room.ensures.room c.if-not-has_room.false) in
    absurd (none plan c.in-Ok.ensures.told inside)

pub returns-in-Err-open-clause-too_short : goal.returns-in-Err-open-clause-too_short
returns-in-Err-open-clause-too_short g c = λ is. absurd (c.error_of.ensures.short is)

pub returns-in-Err-open-clause-failed : goal.returns-in-Err-open-clause-failed
returns-in-Err-open-clause-failed g c = λ is.
    subst (λ (a : ℕ). Rises a (g.B.Blocks.failures c.in-Err-open.refused.file)) c.in-Ok.ensures.quiet
    (c.in-Err-open.ensures.failed (c.error_of.ensures.failed is))

pub returns-in-Err-open-clause-no_batch : goal.returns-in-Err-open-clause-no_batch
returns-in-Err-open-clause-no_batch g c = λ is.
    let plan : Plan = c.in-Ok.plan in
    let same = c.in-Ok.ensures.reads.file in
    let none = subst (λ (f : BlockFile). (found plan.shape f.content 0 ≡ None) × (found plan.shape f.content 1 ≡ None)) same
    (c.in-Err-open.ensures.no_batch (c.error_of.ensures.batch is)) in (
      plan,
      c.in-Ok.ensures.told,
      subst (λ (f : BlockFile). IsInside plan.shape f.content) same (c.has_room.ensures.room c.if-not-has_room.false),
      none.0,
      none.1,
    )

-- ---- it is too short

pub returns-then-not-has_room-clause-refused : goal.returns-then-not-has_room-clause-refused
returns-then-not-has_room-clause-refused g c = λ p told inside.
    reads_recovered p.shape (g.B.Blocks.past_of c.args.below) (g.B.Blocks.past_of c.read_plan.new.below) c.requires c.in-Ok.ensures.reads

pub returns-then-not-has_room-clause-headers_refused : goal.returns-then-not-has_room-clause-headers_refused
returns-then-not-has_room-clause-headers_refused g c = λ p told.
    reads_before p.shape (g.B.Blocks.past_of c.args.below) (g.B.Blocks.past_of c.read_plan.new.below) c.requires c.in-Ok.ensures.reads

pub returns-then-not-has_room-clause-left_alone : goal.returns-then-not-has_room-clause-left_alone
returns-then-not-has_room-clause-left_alone g c = λ _. c.in-Ok.ensures.reads

pub returns-then-not-has_room-clause-too_short : goal.returns-then-not-has_room-clause-too_short
returns-then-not-has_room-clause-too_short g c = λ _.
    let plan : Plan = c.in-Ok.plan in
    let same = c.in-Ok.ensures.reads.file in
    inr (
      plan,
      c.in-Ok.ensures.told,
      λ inside. c.has_room.ensures.short c.if-not-has_room.true
          (subst (λ (f : BlockFile). IsInside plan.shape f.content) (sym same) inside),
    )

-- ---- it tells no plan

pub returns-in-Err : goal.returns-in-Err
returns-in-Err g c =
    let h = g.B.Blocks.past_of in
    record {
      told = tt;
      still = tt;
      content = tt;
      synced = tt;
      table = tt;
      sound = tt;
      failures = tt;
      any_moment = tt;
      headers = tt;
      written_back = tt;
      left_alone = λ _. c.in-Err.ensures.reads;
      back_alone = λ _. c.read_plan.ensures.back;
      back_none = λ _. c.read_plan.ensures.back;
      written_back_refused = λ p told. inl (record { reads = c.in-Err.ensures.reads; back = inl c.read_plan.ensures.back });
      headers_refused = λ p told. reads_before p.shape (h c.args.below) (h c.read_plan.new.below) c.requires c.in-Err.ensures.reads;
      refused = λ p told inside. reads_recovered p.shape (h c.args.below) (h c.read_plan.new.below) c.requires c.in-Err.ensures.reads;
      undamaged = λ n is. absurd (c.in-Err.ensures.undamaged n is);
      no_header = c.in-Err.ensures.none;
      too_short = λ is. inl (c.in-Err.ensures.short is);
      failed = c.in-Err.ensures.failed;
      no_batch = λ is. absurd (c.in-Err.ensures.batch is);
    }

-- ---- it is too short

pub returns-then-not-has_room-clause-back_alone : goal.returns-then-not-has_room-clause-back_alone
returns-then-not-has_room-clause-back_alone g c = λ _. c.read_plan.ensures.back

pub returns-then-not-has_room-clause-back_none : goal.returns-then-not-has_room-clause-back_none
returns-then-not-has_room-clause-back_none g c = λ _. c.read_plan.ensures.back

pub returns-then-not-has_room-clause-written_back_refused : goal.returns-then-not-has_room-clause-written_back_refused
returns-then-not-has_room-clause-written_back_refused g c = λ p told. inl (record { reads = c.in-Ok.ensures.reads; back = inl c.read_plan.ensures.back })

-- ---- what was written back

pub returns-in-Err-open-clause-back_alone : goal.returns-in-Err-open-clause-back_alone
returns-in-Err-open-clause-back_alone g c = λ none.
    let plan : Plan = c.in-Ok.plan in
    absurd (none plan c.in-Ok.ensures.told (subst (λ (f : BlockFile). IsInside plan.shape f.content) c.in-Ok.ensures.reads.file
    (c.has_room.ensures.room c.if-not-has_room.false)))

pub returns-in-Err-open-clause-back_none : goal.returns-in-Err-open-clause-back_none
returns-in-Err-open-clause-back_none g c = λ is.
    c.in-Err-open.ensures.back_none (c.error_of.ensures.batch is) ∙ c.read_plan.ensures.back

pub returns-in-Err-open-clause-written_back_refused : goal.returns-in-Err-open-clause-written_back_refused
returns-in-Err-open-clause-written_back_refused g c = λ p told.
    let h = g.B.Blocks.past_of in
    let back = g.B.Blocks.written_back in
    let plan : Plan = c.in-Ok.plan in
    let old : BlocksPast = h c.args.below in
    let mid : BlocksPast = h c.read_plan.new.below in
    let new : BlocksPast = h c.in-Err-open.refused.file in
    let reads = c.in-Ok.ensures.reads in
    subst (λ (q : Plan). BeginsBack q.shape old new (back c.args.below) (back c.in-Err-open.refused.file)
    ⊎ WritesBackFirst q.shape old new (back c.args.below) (back c.in-Err-open.refused.file))
    (same_plan _ plan p c.in-Ok.ensures.told told)
    (⊎_elim
    (λ (begun : BeginsBack plan.shape mid new (back c.read_plan.new.below) (back c.in-Err-open.refused.file)). inl
    (subst (λ (l : List WrittenBack). BeginsBack plan.shape old new l (back c.in-Err-open.refused.file)) c.read_plan.ensures.back
    (begins_back_behind plan.shape old mid new (back c.read_plan.new.below) (back c.in-Err-open.refused.file) reads
    (reads_then _ _ _ reads begun.reads) begun)))
    (λ wrote. inr (subst (λ (l : List WrittenBack). WritesBackFirst plan.shape old new l (back c.in-Err-open.refused.file)) c.read_plan.ensures.back
    (writes_back_behind plan.shape old mid new (back c.read_plan.new.below) (back c.in-Err-open.refused.file) reads
    c.in-Err-open.ensures.refused.kept wrote)))
    c.in-Err-open.ensures.written_back_refused)

pub returns-in-Ok-open-clause-written_back : goal.returns-in-Ok-open-clause-written_back
returns-in-Ok-open-clause-written_back g c =
    let h = g.B.Blocks.past_of in
    let back = g.B.Blocks.written_back in
    let plan : Plan = c.in-Ok.plan in
    let checked : CheckedValue g.row.B.Denot = c.in-Ok-open.checked in
    let old : BlocksPast = h c.args.below in
    let mid : BlocksPast = h c.read_plan.new.below in
    let end : BlocksPast = h checked.journal.below in
    let opened = c.in-Ok-open.ensures in
    let first : WritesBackFirst plan.shape old end (back c.args.below) (back checked.journal.below) =
    subst (λ (l : List WrittenBack). WritesBackFirst plan.shape old end l (back checked.journal.below)) c.read_plan.ensures.back
    (writes_back_behind plan.shape old mid end (back c.read_plan.new.below) (back checked.journal.below) c.in-Ok.ensures.reads
    opened.any_moment.kept opened.written_back) in
    subst (λ (p : Plan). WritesBackFirst p.shape old (h (journal_in (c.over.result).now).below) (back c.args.below)
    (back (journal_in (c.over.result).now).below)) (sym c.over.ensures.plan)
    (subst (λ (v : JournalValue g.row.B.Denot). WritesBackFirst plan.shape old (h v.below) (back c.args.below) (back v.below))
    (sym c.over.ensures.journal) first)

-- ---- what the calls need, and what is plain

pub has_room-requires : goal.has_room-requires
has_room-requires g c = c.in-Ok.ensures.plan

pub open-requires : goal.open-requires
open-requires g c = record {
  inside = c.has_room.ensures.room c.if-not-has_room.false;
  kept = c.in-Ok.ensures.plan.kept;
  synced = λ n other. ap (λ (f : BlockFile). f.loose n) c.in-Ok.ensures.reads.file ∙ c.requires n;
}

pub over-requires : goal.over-requires
over-requires g c =
    let opened = c.in-Ok-open.ensures in
    record { plan = c.in-Ok.ensures.plan; shape = opened.shape; blocks = opened.blocks; none = opened.none; good = opened.sound }

pub returns-in-Ok-open-clause-told : goal.returns-in-Ok-open-clause-told
returns-in-Ok-open-clause-told g c = c.in-Ok.ensures.told ∙ ap Some (sym c.over.ensures.plan)

pub returns-in-Ok-open-clause-synced : goal.returns-in-Ok-open-clause-synced
returns-in-Ok-open-clause-synced g c = c.over.ensures.synced

pub returns-then-not-has_room-clause-undamaged : goal.returns-then-not-has_room-clause-undamaged
returns-then-not-has_room-clause-undamaged g c = short_not_damaged

pub returns-then-not-has_room-clause-no_header : goal.returns-then-not-has_room-clause-no_header
returns-then-not-has_room-clause-no_header g c = λ is. absurd (short_not_header is)

pub returns-then-not-has_room-clause-failed : goal.returns-then-not-has_room-clause-failed
returns-then-not-has_room-clause-failed g c = λ is. absurd (short_not_failed is)

pub returns-then-not-has_room-clause-no_batch : goal.returns-then-not-has_room-clause-no_batch
returns-then-not-has_room-clause-no_batch g c = λ is. absurd (short_not_batch is)

pub returns-in-Err-open-clause-undamaged : goal.returns-in-Err-open-clause-undamaged
returns-in-Err-open-clause-undamaged g c = c.error_of.ensures.undamaged

pub returns-in-Err-open-clause-no_header : goal.returns-in-Err-open-clause-no_header
returns-in-Err-open-clause-no_header g c = λ is. absurd (c.error_of.ensures.header is)

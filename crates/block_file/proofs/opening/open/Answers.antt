use Rattle.std.proofs.Common.{◌≡◌, ◌⊎◌, inl, inr, ⊎_elim, ℕ, List, None, Some, refl, sym, ◌∙◌, ap, subst, arith}
use Rattle.std.proofs.lemmas.Result.{IfErr-weaker, IfOk-weaker}
use Rattle.sector_device.specs.DevicePast.{Rises}
use Rattle.block_device.specs.Blocks.{CrashFile, BlockFile}
use Rattle.block_device.specs.BlocksPast.{BlocksPast, WrittenBack}
use Rattle.block_batch.specs.Batch.{Batch}
use Rattle.block_journal.specs.Layout.{IsHonest, IsInside, found, recovered}
use Rattle.block_journal.specs.Journal.{AreInAreas, BeginsBack, LeavesBefore, WritesBackFirst}
use Rattle.block_journal.proofs.Before.{before_read}
use Rattle.block_journal.proofs.Keeping.{areas_read}
use Rattle.block_journal.proofs.OnlyReading.{reads_then}
use Rattle.block_journal.proofs.WritingBack.{begins_back_behind, writes_back_behind, writes_back_later}
use Rattle.block_table.specs.Checked.{CheckedValue, settled_table}
use Rattle.block_table.specs.Table.{EachFits, IsFirstUnfit, data_of}
use Rattle.block_table.proofs.Contents.{stays_read}
use Rattle.block_file.specs.declared.plan.Plan.{Plan}
use Rattle.block_file.specs.Closing.{StandsAlone}
use Rattle.block_file.specs.Damage.{CanBeOpened}
use Rattle.block_file.specs.Plans.{disk_image}
use Rattle.block_file.specs.Disks.{disk_past, first_content, journal_in}
use Rattle.block_file.specs.Header.{plan_told}
use Rattle.block_file.specs.Sectors.{sectors_of}
use Rattle.block_file.specs.Settling.{AreHandedOn, IsLeft, OpensUnder, StaysUnder, handed_on}
use Rattle.block_file.proofs.Openings.{before_then, if_err2, if_err4, if_ok, if_ok3, if_ok5, reads_before, reads_recovered, same_plan, stays_then, why_refused}
use Rattle.block_file.proofs.Reopening.{good_opened, reads_reopen, reopens_then}
use Rattle.block_file.proofs.HandingOn.{before_under, honest_handed, opens_under, stays_under, told_end}
use Rattle.block_file.proofs.opening.open.Goals as goal

pub returns-then-not-has_room-clause-refused : goal.returns-then-not-has_room-clause-refused
returns-then-not-has_room-clause-refused g c =
    λ p told inside.
    let h = g.B.Blocks.past_of in
    inl (record {
      stays = reads_recovered p.shape (h c.args.below) (h c.read_plan.new.below) c.requires c.in-Ok.ensures.reads;
      opens = λ can. reads_reopen p (h c.args.below) (h c.read_plan.new.below) c.requires can c.in-Ok.ensures.reads;
    })

pub returns-in-Ok-open-clause-content : goal.returns-in-Ok-open-clause-content
returns-in-Ok-open-clause-content g c =
    let h = g.B.Blocks.past_of in
    let plan : Plan = c.in-Ok.plan in
    let checked : CheckedValue g.row.B.Denot = c.in-Ok-open.checked in
    let old : BlockFile = (h c.args.below).file in
    let opened = c.in-Ok-open.ensures in
    let table : settled_table h checked ≡ recovered plan.shape old.content =
    opened.settled ∙ ap (λ (f : BlockFile). recovered plan.shape f.content) c.in-Ok.ensures.reads.file in
    if_ok c.compared.result _ _ _
    (λ d is content. subst (λ (p : Plan). (disk_past h d).disk.content ≡ disk_image p old.content) (sym is)
    (content ∙ (λ i. sectors_of plan.lead plan.sectors (data_of (opened.blocks i) (table i)))))
    c.compared.ensures.plan c.compared.ensures.content

pub returns-in-Ok-open-clause-fits : goal.returns-in-Ok-open-clause-fits
returns-in-Ok-open-clause-fits g c =
    let h = g.B.Blocks.past_of in
    let plan : Plan = c.in-Ok.plan in
    let checked : CheckedValue g.row.B.Denot = c.in-Ok-open.checked in
    let old : BlockFile = (h c.args.below).file in
    let table : settled_table h checked ≡ recovered plan.shape old.content =
    c.in-Ok-open.ensures.settled ∙ ap (λ (f : BlockFile). recovered plan.shape f.content) c.in-Ok.ensures.reads.file in
    if_ok c.compared.result _ _ _
    (λ d is fits. subst (λ (p : Plan). EachFits p.blocks (recovered p.shape old.content)) (sym is)
    (subst (λ (l : CrashFile). EachFits plan.blocks l) table fits))
    c.compared.ensures.plan c.compared.ensures.fits

pub returns-in-Ok-open-clause-any_moment : goal.returns-in-Ok-open-clause-any_moment
returns-in-Ok-open-clause-any_moment g c =
    let h = g.B.Blocks.past_of in
    let plan : Plan = c.in-Ok.plan in
    let checked : CheckedValue g.row.B.Denot = c.in-Ok-open.checked in
    let old : BlocksPast = h c.args.below in
    let mid : BlocksPast = h c.read_plan.new.below in
    let end : BlocksPast = h checked.journal.below in
    let reads = c.in-Ok.ensures.reads in
    let opened = c.in-Ok-open.ensures in
    let table : settled_table h checked ≡ recovered plan.shape old.file.content =
    opened.settled ∙ ap (λ (f : BlockFile). recovered plan.shape f.content) reads.file in
    let stays = stays_then plan.shape old mid end reads.file (reads_recovered plan.shape old mid c.requires reads) opened.any_moment in
    let before = before_then plan.shape old mid end reads.file (reads_before plan.shape old mid c.requires reads) opened.before in
    if_ok3 c.compared.result _ _ _ _
    (λ d is same hands. subst (λ (p : Plan). StaysUnder (journal_in d.now).offered p.shape old (h (journal_in d.now).below)) (sym is)
    (subst (λ (l : List Batch). StaysUnder l plan.shape old (h (journal_in d.now).below)) (sym same)
    (stays_under h plan old checked.journal (h (journal_in d.now).below) opened.shape table stays before hands)))
    c.compared.ensures.plan c.compared.ensures.offered c.compared.ensures.hands

pub returns-in-Ok-open-clause-refused : goal.returns-in-Ok-open-clause-refused
returns-in-Ok-open-clause-refused g c =
    let h = g.B.Blocks.past_of in
    let plan : Plan = c.in-Ok.plan in
    let checked : CheckedValue g.row.B.Denot = c.in-Ok-open.checked in
    let old : BlocksPast = h c.args.below in
    let mid : BlocksPast = h c.read_plan.new.below in
    let end : BlocksPast = h checked.journal.below in
    let reads = c.in-Ok.ensures.reads in
    let opened = c.in-Ok-open.ensures in
    let table : settled_table h checked ≡ recovered plan.shape old.file.content =
    opened.settled ∙ ap (λ (f : BlockFile). recovered plan.shape f.content) reads.file in
    let stays = stays_then plan.shape old mid end reads.file (reads_recovered plan.shape old mid c.requires reads) opened.any_moment in
    let before = before_then plan.shape old mid end reads.file (reads_before plan.shape old mid c.requires reads) opened.before in
    let first = reopens_then plan old mid end c.requires reads opened.before opened.any_moment opened.batches in
    IfErr-weaker c.compared.result _ _
    (λ e left p told inside. subst (λ (q : Plan). IsLeft q e.error old (h e.file)) (same_plan _ plan p c.in-Ok.ensures.told told)
    (⊎_elim
    (λ read. inl (record {
      stays = stays_read plan.shape old end (h e.file) stays read;
      opens = λ can. reopens_then plan old mid (h e.file) c.requires reads
          (before_read plan.shape mid end (h e.file) opened.before read)
          (stays_read plan.shape mid end (h e.file) opened.any_moment read)
          (areas_read plan.shape mid end (h e.file) opened.batches read) can;
    }))
    (λ both. inr (
      both.0,
      record {
        offered = handed_on checked.journal.offered checked.journal.last;
        handed = record {
          batches = checked.journal.offered;
          last = checked.journal.last;
          in_areas = subst (λ (f : BlockFile). AreInAreas plan.shape f.content checked.journal.offered) reads.file opened.found;
          all = subst (λ (f : BlockFile). IsHonest checked.journal.offered plan.shape f.content) reads.file opened.honest;
          has_last = c.stands.ensures.last opened.sound;
          latest = c.stands.ensures.latest opened.sound;
          behind = refl;
        };
        stays = stays_under h plan old checked.journal (h e.file) opened.shape table stays before both.1;
        opens = λ can. opens_under h plan old checked.journal (h e.file) opened.shape table stays before both.1 (first can) can;
      },
    )) left))
    c.compared.ensures.refused

pub returns-in-Ok-open-clause-damaged : goal.returns-in-Ok-open-clause-damaged
returns-in-Ok-open-clause-damaged g c =
    let h = g.B.Blocks.past_of in
    let plan : Plan = c.in-Ok.plan in
    let checked : CheckedValue g.row.B.Denot = c.in-Ok-open.checked in
    let old : BlockFile = (h c.args.below).file in
    let table : settled_table h checked ≡ recovered plan.shape old.content =
    c.in-Ok-open.ensures.settled ∙ ap (λ (f : BlockFile). recovered plan.shape f.content) c.in-Ok.ensures.reads.file in
    let inside = subst (λ (f : BlockFile). IsInside plan.shape f.content) c.in-Ok.ensures.reads.file
    (c.has_room.ensures.room c.if-not-has_room.false) in
    IfErr-weaker c.compared.result _ _
    (λ e damaged n is. (
      plan,
      c.in-Ok.ensures.told,
      inside,
      subst (λ (l : CrashFile). IsFirstUnfit plan.blocks l 0 n) table (damaged n is),
    ))
    c.compared.ensures.damaged

pub returns-in-Err-open-clause-refused : goal.returns-in-Err-open-clause-refused
returns-in-Err-open-clause-refused g c =
    λ p told inside.
    let h = g.B.Blocks.past_of in
    let plan : Plan = c.in-Ok.plan in
    let old : BlocksPast = h c.args.below in
    let mid : BlocksPast = h c.read_plan.new.below in
    let reads = c.in-Ok.ensures.reads in
    let new : BlocksPast = h c.in-Err-open.refused.file in
    let opened = c.in-Err-open.ensures in
    subst (λ (q : Plan). IsLeft q c.error_of.result old new) (same_plan _ plan p c.in-Ok.ensures.told told)
    (inl (record {
      stays = stays_then plan.shape old mid new reads.file (reads_recovered plan.shape old mid c.requires reads) opened.refused;
      opens = reopens_then plan old mid new c.requires reads opened.before_refused opened.refused opened.batches_refused;
    }))

pub returns-in-Err-open-clause-damaged : goal.returns-in-Err-open-clause-damaged
returns-in-Err-open-clause-damaged g c = λ n is. absurd (c.error_of.ensures.undamaged n is)

pub returns-in-Err : goal.returns-in-Err
returns-in-Err g c =
    let h = g.B.Blocks.past_of in
    record {
      told = tt;
      still = tt;
      content = tt;
      synced = tt;
      fits = tt;
      failures = tt;
      honest = tt;
      handed = tt;
      alone = tt;
      safe = tt;
      any_moment = tt;
      headers = tt;
      again = tt;
      good = tt;
      written_back = tt;
      left_alone = λ _. c.in-Err.ensures.reads;
      back_alone = λ _. c.read_plan.ensures.back;
      back_none = λ _. c.read_plan.ensures.back;
      written_back_refused = λ p told. inl (record { reads = c.in-Err.ensures.reads; back = inl c.read_plan.ensures.back });
      headers_refused = λ p told. reads_before p.shape (h c.args.below) (h c.read_plan.new.below) c.requires c.in-Err.ensures.reads;
      refused = λ p told inside. inl (record {
        stays = reads_recovered p.shape (h c.args.below) (h c.read_plan.new.below) c.requires c.in-Err.ensures.reads;
        opens = λ can. reads_reopen p (h c.args.below) (h c.read_plan.new.below) c.requires can c.in-Err.ensures.reads;
      });
      damaged = λ n is. absurd (c.in-Err.ensures.undamaged n is);
      no_header = c.in-Err.ensures.none;
      too_short = λ is. inl (c.in-Err.ensures.short is);
      failed = λ is. inr (c.in-Err.ensures.failed is);
      no_batch = λ is. absurd (c.in-Err.ensures.batch is);
      only = λ p can. why_refused c.in-Err.error (g.B.Blocks.past_of c.args.below).file.content p can c.in-Err.ensures.none
          (λ is. inl (c.in-Err.ensures.short is)) (λ is. absurd (c.in-Err.ensures.batch is)) (λ n is. absurd (c.in-Err.ensures.undamaged n is));
    }

pub returns-then-not-has_room-clause-too_short : goal.returns-then-not-has_room-clause-too_short
returns-then-not-has_room-clause-too_short g c = λ _.
    let plan : Plan = c.in-Ok.plan in
    let same = c.in-Ok.ensures.reads.file in
    inr (
      plan,
      c.in-Ok.ensures.told,
      λ inside. c.has_room.ensures.short c.if-not-has_room.true
          (subst (λ (f : BlockFile). IsInside plan.shape f.content) (sym same) inside),
    )

pub returns-in-Ok-open-clause-too_short : goal.returns-in-Ok-open-clause-too_short
returns-in-Ok-open-clause-too_short g c = IfErr-weaker c.compared.result _ _ (λ e other is. absurd (other is)) c.compared.ensures.short

pub returns-in-Ok-open-clause-no_batch : goal.returns-in-Ok-open-clause-no_batch
returns-in-Ok-open-clause-no_batch g c = IfErr-weaker c.compared.result _ _ (λ e other is. absurd (other is)) c.compared.ensures.batch

pub returns-in-Err-open-clause-too_short : goal.returns-in-Err-open-clause-too_short
returns-in-Err-open-clause-too_short g c = λ is. absurd (c.error_of.ensures.short is)

pub returns-in-Err-open-clause-no_batch : goal.returns-in-Err-open-clause-no_batch
returns-in-Err-open-clause-no_batch g c = λ is.
    let plan : Plan = c.in-Ok.plan in
    let same = c.in-Ok.ensures.reads.file in
    let none = c.in-Err-open.ensures.no_batch (c.error_of.ensures.batch is) in (
      plan,
      c.in-Ok.ensures.told,
      subst (λ (f : BlockFile). IsInside plan.shape f.content) same (c.has_room.ensures.room c.if-not-has_room.false),
      subst (λ (f : BlockFile). found plan.shape f.content 0 ≡ None) same none.0,
      subst (λ (f : BlockFile). found plan.shape f.content 1 ≡ None) same none.1,
    )

pub returns-in-Ok-open-clause-still : goal.returns-in-Ok-open-clause-still
returns-in-Ok-open-clause-still g c =
    let h = g.B.Blocks.past_of in
    let plan : Plan = c.in-Ok.plan in
    let checked : CheckedValue g.row.B.Denot = c.in-Ok-open.checked in
    let old : BlocksPast = h c.args.below in
    let mid : BlocksPast = h c.read_plan.new.below in
    let end : BlocksPast = h checked.journal.below in
    let reads = c.in-Ok.ensures.reads in
    let opened = c.in-Ok-open.ensures in
    let table : settled_table h checked ≡ recovered plan.shape old.file.content =
    opened.settled ∙ ap (λ (f : BlockFile). recovered plan.shape f.content) reads.file in
    let stays = stays_then plan.shape old mid end reads.file (reads_recovered plan.shape old mid c.requires reads) opened.any_moment in
    let before = before_then plan.shape old mid end reads.file (reads_before plan.shape old mid c.requires reads) opened.before in
    if_ok3 c.compared.result _ _ _ _
    (λ d is first hands. subst (λ (p : Plan). plan_told (first_content h d) ≡ Some p) (sym is)
    (ap plan_told first ∙ told_end plan old (h (journal_in d.now).below) c.in-Ok.ensures.told
    (before_under h plan old checked.journal (h (journal_in d.now).below) opened.shape table stays before hands)))
    c.compared.ensures.plan c.compared.ensures.first c.compared.ensures.hands

pub returns-in-Ok-open-clause-failed : goal.returns-in-Ok-open-clause-failed
returns-in-Ok-open-clause-failed g c =
    let F = g.B.Blocks.failures in
    let plan : Plan = c.in-Ok.plan in
    let checked : CheckedValue g.row.B.Denot = c.in-Ok-open.checked in
    let opened = c.in-Ok-open.ensures in
    let reads = c.in-Ok.ensures.reads in
    let quiet : F checked.journal.below ≡ F c.args.below = opened.quiet ∙ c.in-Ok.ensures.quiet in
    let known = subst (λ (f : BlockFile). AreInAreas plan.shape f.content checked.journal.offered) reads.file opened.found in
    IfErr-weaker c.compared.result _ _
    (λ e failed is. ⊎_elim
    (λ most. inl (plan, c.in-Ok.ensures.told, (checked.journal.last, known checked.journal.last (c.stands.ensures.last opened.sound), most)))
    (λ up. inr (subst (λ (a : ℕ). Rises a (F e.file)) quiet up)) (failed is))
    c.compared.ensures.failed

pub returns-in-Err-open-clause-failed : goal.returns-in-Err-open-clause-failed
returns-in-Err-open-clause-failed g c =
    λ is. inr (subst (λ (a : ℕ). Rises a (g.B.Blocks.failures c.in-Err-open.refused.file)) c.in-Ok.ensures.quiet
    (c.in-Err-open.ensures.failed (c.error_of.ensures.failed is)))

pub returns-then-not-has_room-clause-headers_refused : goal.returns-then-not-has_room-clause-headers_refused
returns-then-not-has_room-clause-headers_refused g c = λ p told.
    reads_before p.shape (g.B.Blocks.past_of c.args.below) (g.B.Blocks.past_of c.read_plan.new.below) c.requires c.in-Ok.ensures.reads

pub returns-then-not-has_room-clause-left_alone : goal.returns-then-not-has_room-clause-left_alone
returns-then-not-has_room-clause-left_alone g c = λ _. c.in-Ok.ensures.reads

pub returns-in-Ok-open-clause-headers : goal.returns-in-Ok-open-clause-headers
returns-in-Ok-open-clause-headers g c =
    let h = g.B.Blocks.past_of in
    let plan : Plan = c.in-Ok.plan in
    let checked : CheckedValue g.row.B.Denot = c.in-Ok-open.checked in
    let old : BlocksPast = h c.args.below in
    let mid : BlocksPast = h c.read_plan.new.below in
    let end : BlocksPast = h checked.journal.below in
    let reads = c.in-Ok.ensures.reads in
    let opened = c.in-Ok-open.ensures in
    let table : settled_table h checked ≡ recovered plan.shape old.file.content =
    opened.settled ∙ ap (λ (f : BlockFile). recovered plan.shape f.content) reads.file in
    let stays = stays_then plan.shape old mid end reads.file (reads_recovered plan.shape old mid c.requires reads) opened.any_moment in
    let before = before_then plan.shape old mid end reads.file (reads_before plan.shape old mid c.requires reads) opened.before in
    if_ok c.compared.result _ _ _
    (λ d is hands. subst (λ (p : Plan). LeavesBefore p.shape old (h (journal_in d.now).below)) (sym is)
    (before_under h plan old checked.journal (h (journal_in d.now).below) opened.shape table stays before hands))
    c.compared.ensures.plan c.compared.ensures.hands

pub returns-in-Ok-open-clause-headers_refused : goal.returns-in-Ok-open-clause-headers_refused
returns-in-Ok-open-clause-headers_refused g c =
    let h = g.B.Blocks.past_of in
    let plan : Plan = c.in-Ok.plan in
    let checked : CheckedValue g.row.B.Denot = c.in-Ok-open.checked in
    let old : BlocksPast = h c.args.below in
    let mid : BlocksPast = h c.read_plan.new.below in
    let end : BlocksPast = h checked.journal.below in
    let reads = c.in-Ok.ensures.reads in
    let opened = c.in-Ok-open.ensures in
    let table : settled_table h checked ≡ recovered plan.shape old.file.content =
    opened.settled ∙ ap (λ (f : BlockFile). recovered plan.shape f.content) reads.file in
    let stays = stays_then plan.shape old mid end reads.file (reads_recovered plan.shape old mid c.requires reads) opened.any_moment in
    let before = before_then plan.shape old mid end reads.file (reads_before plan.shape old mid c.requires reads) opened.before in
    IfErr-weaker c.compared.result _ _
    (λ e left p told. subst (λ (q : Plan). LeavesBefore q.shape old (h e.file)) (same_plan _ plan p c.in-Ok.ensures.told told)
    (⊎_elim (λ read. before_read plan.shape old end (h e.file) before read)
    (λ both. before_under h plan old checked.journal (h e.file) opened.shape table stays before both.1) left))
    c.compared.ensures.refused

pub returns-in-Err-open-clause-headers_refused : goal.returns-in-Err-open-clause-headers_refused
returns-in-Err-open-clause-headers_refused g c = λ p told.
    let h = g.B.Blocks.past_of in
    let plan : Plan = c.in-Ok.plan in
    let old : BlocksPast = h c.args.below in
    let mid : BlocksPast = h c.read_plan.new.below in
    let reads = c.in-Ok.ensures.reads in
    let new : BlocksPast = h c.in-Err-open.refused.file in
    subst (λ (q : Plan). LeavesBefore q.shape old new) (same_plan _ plan p c.in-Ok.ensures.told told)
    (before_then plan.shape old mid new reads.file (reads_before plan.shape old mid c.requires reads) c.in-Err-open.ensures.before_refused)

pub returns-in-Ok-open-clause-left_alone : goal.returns-in-Ok-open-clause-left_alone
returns-in-Ok-open-clause-left_alone g c =
    let h = g.B.Blocks.past_of in
    let plan : Plan = c.in-Ok.plan in
    let inside = subst (λ (f : BlockFile). IsInside plan.shape f.content) c.in-Ok.ensures.reads.file
    (c.has_room.ensures.room c.if-not-has_room.false) in
    IfErr-weaker c.compared.result _ _ (λ e read none. absurd (none plan c.in-Ok.ensures.told inside)) c.compared.ensures.refused

pub returns-in-Err-open-clause-left_alone : goal.returns-in-Err-open-clause-left_alone
returns-in-Err-open-clause-left_alone g c = λ none.
    let h = g.B.Blocks.past_of in
    let plan : Plan = c.in-Ok.plan in
    let inside = subst (λ (f : BlockFile). IsInside plan.shape f.content) c.in-Ok.ensures.reads.file
    (c.has_room.ensures.room c.if-not-has_room.false) in
    absurd (none plan c.in-Ok.ensures.told inside)

-- ---- the count of failures, and the batches that were found

pub returns-in-Ok-open-clause-failures : goal.returns-in-Ok-open-clause-failures
returns-in-Ok-open-clause-failures g c =
    let opened = c.in-Ok-open.ensures in
    let quiet = c.in-Ok.ensures.quiet in
    if_ok c.compared.result _ _ _ (λ d _ is. omega (arith, is, opened.quiet, opened.unrefused, quiet)) c.compared.ensures.plan c.compared.ensures.failures

pub returns-in-Ok-open-clause-honest : goal.returns-in-Ok-open-clause-honest
returns-in-Ok-open-clause-honest g c =
    let plan : Plan = c.in-Ok.plan in
    let checked : CheckedValue g.row.B.Denot = c.in-Ok-open.checked in
    let old : CrashFile = (g.B.Blocks.past_of c.args.below).file.content in
    let honest = subst (λ (f : BlockFile). IsHonest checked.journal.offered plan.shape f.content) c.in-Ok.ensures.reads.file
    c.in-Ok-open.ensures.honest in
    if_ok c.compared.result _ _ _
    (λ d is same. subst (λ (p : Plan). IsHonest (journal_in d.now).offered p.shape old) (sym is)
    (subst (λ (l : List Batch). IsHonest l plan.shape old) (sym same) (honest_handed checked.journal.offered checked.journal.last plan.shape old honest)))
    c.compared.ensures.plan c.compared.ensures.offered

pub returns-in-Ok-open-clause-good : goal.returns-in-Ok-open-clause-good
returns-in-Ok-open-clause-good g c =
    let h = g.B.Blocks.past_of in
    let plan : Plan = c.in-Ok.plan in
    let checked : CheckedValue g.row.B.Denot = c.in-Ok-open.checked in
    let old : BlocksPast = h c.args.below in
    let mid : BlocksPast = h c.read_plan.new.below in
    let end : BlocksPast = h checked.journal.below in
    let reads = c.in-Ok.ensures.reads in
    let opened = c.in-Ok-open.ensures in
    let table : settled_table h checked ≡ recovered plan.shape old.file.content =
    opened.settled ∙ ap (λ (f : BlockFile). recovered plan.shape f.content) reads.file in
    let stays = stays_then plan.shape old mid end reads.file (reads_recovered plan.shape old mid c.requires reads) opened.any_moment in
    let before = before_then plan.shape old mid end reads.file (reads_before plan.shape old mid c.requires reads) opened.before in
    let told = if_ok c.compared.result _ _ (λ d. plan_told (first_content h d) ≡ Some plan)
    (λ d first hands. ap plan_told first ∙ told_end plan old (h (journal_in d.now).below) c.in-Ok.ensures.told
    (before_under h plan old checked.journal (h (journal_in d.now).below) opened.shape table stays before hands))
    c.compared.ensures.first c.compared.ensures.hands in
    if_ok5 c.compared.result _ _ _ _ _ _
    (λ d is still sound each committed. good_opened h d plan is still sound each committed)
    c.compared.ensures.plan told c.compared.ensures.sound c.compared.ensures.each c.compared.ensures.committed

pub returns-then-not-has_room-clause-only : goal.returns-then-not-has_room-clause-only
returns-then-not-has_room-clause-only g c = λ p can.
    let plan : Plan = c.in-Ok.plan in
    let same = c.in-Ok.ensures.reads.file in
    let inside = subst (λ (q : Plan). IsInside q.shape (g.B.Blocks.past_of c.args.below).file.content)
    (same_plan _ p plan can.told c.in-Ok.ensures.told) can.inside in
    absurd (c.has_room.ensures.short c.if-not-has_room.true (subst (λ (f : BlockFile). IsInside plan.shape f.content) (sym same) inside))

pub returns-in-Ok-open-clause-only : goal.returns-in-Ok-open-clause-only
returns-in-Ok-open-clause-only g c =
    let h = g.B.Blocks.past_of in
    let plan : Plan = c.in-Ok.plan in
    let checked : CheckedValue g.row.B.Denot = c.in-Ok-open.checked in
    let old : BlockFile = (h c.args.below).file in
    let table : settled_table h checked ≡ recovered plan.shape old.content =
    c.in-Ok-open.ensures.settled ∙ ap (λ (f : BlockFile). recovered plan.shape f.content) c.in-Ok.ensures.reads.file in
    if_err4 c.compared.result _ _ _ _ _
    (λ e header short batch damaged p can. why_refused e.error old.content p can (λ is. absurd (header is)) (λ is. absurd (short is))
    (λ is. absurd (batch is)) (λ n is. (
      plan,
      c.in-Ok.ensures.told,
      subst (λ (f : BlockFile). IsInside plan.shape f.content) c.in-Ok.ensures.reads.file (c.has_room.ensures.room c.if-not-has_room.false),
      subst (λ (l : CrashFile). IsFirstUnfit plan.blocks l 0 n) table (damaged n is),
    ))) c.compared.ensures.header c.compared.ensures.short c.compared.ensures.batch c.compared.ensures.damaged

pub returns-in-Err-open-clause-only : goal.returns-in-Err-open-clause-only
returns-in-Err-open-clause-only g c = λ p can.
    let plan : Plan = c.in-Ok.plan in
    let same = c.in-Ok.ensures.reads.file in
    let kind = c.error_of.ensures in
    why_refused c.error_of.result (g.B.Blocks.past_of c.args.below).file.content p can (λ is. absurd (kind.header is)) (λ is. absurd (kind.short is))
    (λ is. (
      plan,
      c.in-Ok.ensures.told,
      subst (λ (f : BlockFile). IsInside plan.shape f.content) same (c.has_room.ensures.room c.if-not-has_room.false),
      subst (λ (f : BlockFile). found plan.shape f.content 0 ≡ None) same (c.in-Err-open.ensures.no_batch (kind.batch is)).0,
      subst (λ (f : BlockFile). found plan.shape f.content 1 ≡ None) same (c.in-Err-open.ensures.no_batch (kind.batch is)).1,
    )) (λ n is. absurd (kind.undamaged n is))

pub returns-in-Ok-open-clause-again : goal.returns-in-Ok-open-clause-again
returns-in-Ok-open-clause-again g c =
    let h = g.B.Blocks.past_of in
    let plan : Plan = c.in-Ok.plan in
    let checked : CheckedValue g.row.B.Denot = c.in-Ok-open.checked in
    let old : BlocksPast = h c.args.below in
    let mid : BlocksPast = h c.read_plan.new.below in
    let end : BlocksPast = h checked.journal.below in
    let reads = c.in-Ok.ensures.reads in
    let opened = c.in-Ok-open.ensures in
    let table : settled_table h checked ≡ recovered plan.shape old.file.content =
    opened.settled ∙ ap (λ (f : BlockFile). recovered plan.shape f.content) reads.file in
    let stays = stays_then plan.shape old mid end reads.file (reads_recovered plan.shape old mid c.requires reads) opened.any_moment in
    let before = before_then plan.shape old mid end reads.file (reads_before plan.shape old mid c.requires reads) opened.before in
    let first = reopens_then plan old mid end c.requires reads opened.before opened.any_moment opened.batches in
    if_ok3 c.compared.result _ _ _ _
    (λ d is same hands. subst (λ (p : Plan). CanBeOpened p old.file.content → OpensUnder (journal_in d.now).offered p old (h (journal_in d.now).below)) (sym is)
    (subst (λ (l : List Batch). CanBeOpened plan old.file.content → OpensUnder l plan old (h (journal_in d.now).below)) (sym same)
    (λ can. opens_under h plan old checked.journal (h (journal_in d.now).below) opened.shape table stays before hands (first can) can)))
    c.compared.ensures.plan c.compared.ensures.offered c.compared.ensures.hands

pub returns-in-Ok-open-clause-handed : goal.returns-in-Ok-open-clause-handed
returns-in-Ok-open-clause-handed g c =
    let plan : Plan = c.in-Ok.plan in
    let checked : CheckedValue g.row.B.Denot = c.in-Ok-open.checked in
    let old : CrashFile = (g.B.Blocks.past_of c.args.below).file.content in
    let opened = c.in-Ok-open.ensures in
    let reads = c.in-Ok.ensures.reads in
    let known = subst (λ (f : BlockFile). AreInAreas plan.shape f.content checked.journal.offered) reads.file opened.found in
    let honest = subst (λ (f : BlockFile). IsHonest checked.journal.offered plan.shape f.content) reads.file opened.honest in
    if_ok c.compared.result _ _ _
    (λ d is same. subst (λ (p : Plan). AreHandedOn p.shape old (journal_in d.now).offered) (sym is) (record {
      batches = checked.journal.offered;
      last = checked.journal.last;
      in_areas = known;
      all = honest;
      has_last = c.stands.ensures.last opened.sound;
      latest = c.stands.ensures.latest opened.sound;
      behind = same;
    }))
    c.compared.ensures.plan c.compared.ensures.offered

pub returns-in-Ok-open-clause-alone : goal.returns-in-Ok-open-clause-alone
returns-in-Ok-open-clause-alone g c =
    let h = g.B.Blocks.past_of in
    if_ok c.compared.result _ _ _
    (λ d is alone. subst (λ (p : Plan). StandsAlone p (h (journal_in d.now).below).file.content (disk_past h d).disk.content) (sym is) alone)
    c.compared.ensures.plan c.compared.ensures.alone

pub returns-in-Ok-open-clause-safe : goal.returns-in-Ok-open-clause-safe
returns-in-Ok-open-clause-safe g c = c.compared.ensures.safe

-- ---- it is too short

pub returns-then-not-has_room-clause-back_alone : goal.returns-then-not-has_room-clause-back_alone
returns-then-not-has_room-clause-back_alone g c = λ _. c.read_plan.ensures.back

pub returns-then-not-has_room-clause-back_none : goal.returns-then-not-has_room-clause-back_none
returns-then-not-has_room-clause-back_none g c = λ _. c.read_plan.ensures.back

pub returns-then-not-has_room-clause-written_back_refused : goal.returns-then-not-has_room-clause-written_back_refused
returns-then-not-has_room-clause-written_back_refused g c = λ p told. inl (record { reads = c.in-Ok.ensures.reads; back = inl c.read_plan.ensures.back })

-- ---- what was written back

pub returns-in-Err-open-clause-back_alone : goal.returns-in-Err-open-clause-back_alone
returns-in-Err-open-clause-back_alone g c = λ none.
    let plan : Plan = c.in-Ok.plan in
    absurd (none plan c.in-Ok.ensures.told (subst (λ (f : BlockFile). IsInside plan.shape f.content) c.in-Ok.ensures.reads.file
    (c.has_room.ensures.room c.if-not-has_room.false)))

pub returns-in-Err-open-clause-back_none : goal.returns-in-Err-open-clause-back_none
returns-in-Err-open-clause-back_none g c = λ is.
    c.in-Err-open.ensures.back_none (c.error_of.ensures.batch is) ∙ c.read_plan.ensures.back

pub returns-in-Err-open-clause-written_back_refused : goal.returns-in-Err-open-clause-written_back_refused
returns-in-Err-open-clause-written_back_refused g c = λ p told.
    let h = g.B.Blocks.past_of in
    let back = g.B.Blocks.written_back in
    let plan : Plan = c.in-Ok.plan in
    let old : BlocksPast = h c.args.below in
    let mid : BlocksPast = h c.read_plan.new.below in
    let new : BlocksPast = h c.in-Err-open.refused.file in
    let reads = c.in-Ok.ensures.reads in
    subst (λ (q : Plan). BeginsBack q.shape old new (back c.args.below) (back c.in-Err-open.refused.file)
    ⊎ WritesBackFirst q.shape old new (back c.args.below) (back c.in-Err-open.refused.file))
    (same_plan _ plan p c.in-Ok.ensures.told told)
    (⊎_elim
    (λ (begun : BeginsBack plan.shape mid new (back c.read_plan.new.below) (back c.in-Err-open.refused.file)). inl
    (subst (λ (l : List WrittenBack). BeginsBack plan.shape old new l (back c.in-Err-open.refused.file)) c.read_plan.ensures.back
    (begins_back_behind plan.shape old mid new (back c.read_plan.new.below) (back c.in-Err-open.refused.file) reads
    (reads_then _ _ _ reads begun.reads) begun)))
    (λ wrote. inr (subst (λ (l : List WrittenBack). WritesBackFirst plan.shape old new l (back c.in-Err-open.refused.file)) c.read_plan.ensures.back
    (writes_back_behind plan.shape old mid new (back c.read_plan.new.below) (back c.in-Err-open.refused.file) reads
    c.in-Err-open.ensures.refused.kept wrote)))
    c.in-Err-open.ensures.written_back_refused)

pub returns-in-Ok-open-clause-back_alone : goal.returns-in-Ok-open-clause-back_alone
returns-in-Ok-open-clause-back_alone g c =
    let plan : Plan = c.in-Ok.plan in
    let inside = subst (λ (f : BlockFile). IsInside plan.shape f.content) c.in-Ok.ensures.reads.file
    (c.has_room.ensures.room c.if-not-has_room.false) in
    IfErr-weaker c.compared.result _ _ (λ e read none. absurd (none plan c.in-Ok.ensures.told inside)) c.compared.ensures.refused

pub returns-in-Ok-open-clause-back_none : goal.returns-in-Ok-open-clause-back_none
returns-in-Ok-open-clause-back_none g c = IfErr-weaker c.compared.result _ _ (λ e other is. absurd (other is)) c.compared.ensures.batch

pub returns-in-Ok-open-clause-written_back : goal.returns-in-Ok-open-clause-written_back
returns-in-Ok-open-clause-written_back g c =
    let h = g.B.Blocks.past_of in
    let back = g.B.Blocks.written_back in
    let plan : Plan = c.in-Ok.plan in
    let checked : CheckedValue g.row.B.Denot = c.in-Ok-open.checked in
    let old : BlocksPast = h c.args.below in
    let mid : BlocksPast = h c.read_plan.new.below in
    let end : BlocksPast = h checked.journal.below in
    let opened = c.in-Ok-open.ensures in
    let first : WritesBackFirst plan.shape old end (back c.args.below) (back checked.journal.below) =
    subst (λ (l : List WrittenBack). WritesBackFirst plan.shape old end l (back checked.journal.below)) c.read_plan.ensures.back
    (writes_back_behind plan.shape old mid end (back c.read_plan.new.below) (back checked.journal.below) c.in-Ok.ensures.reads
    opened.any_moment.kept opened.written_back) in
    if_ok3 c.compared.result _ _ _ _
    (λ d is same hands. subst (λ (p : Plan). WritesBackFirst p.shape old (h (journal_in d.now).below) (back c.args.below)
    (back (journal_in d.now).below)) (sym is)
    (writes_back_later plan.shape old end (h (journal_in d.now).below) (back c.args.below) (back checked.journal.below) (back (journal_in d.now).below)
    first hands.stays.later hands.stays.kept same))
    c.compared.ensures.plan c.compared.ensures.back c.compared.ensures.hands

pub returns-in-Ok-open-clause-written_back_refused : goal.returns-in-Ok-open-clause-written_back_refused
returns-in-Ok-open-clause-written_back_refused g c =
    let h = g.B.Blocks.past_of in
    let back = g.B.Blocks.written_back in
    let plan : Plan = c.in-Ok.plan in
    let checked : CheckedValue g.row.B.Denot = c.in-Ok-open.checked in
    let old : BlocksPast = h c.args.below in
    let mid : BlocksPast = h c.read_plan.new.below in
    let end : BlocksPast = h checked.journal.below in
    let opened = c.in-Ok-open.ensures in
    let first : WritesBackFirst plan.shape old end (back c.args.below) (back checked.journal.below) =
    subst (λ (l : List WrittenBack). WritesBackFirst plan.shape old end l (back checked.journal.below)) c.read_plan.ensures.back
    (writes_back_behind plan.shape old mid end (back c.read_plan.new.below) (back checked.journal.below) c.in-Ok.ensures.reads
    opened.any_moment.kept opened.written_back) in
    if_err2 c.compared.result _ _ _
    (λ e left same p told. subst (λ (q : Plan). BeginsBack q.shape old (h e.file) (back c.args.below) (back e.file)
    ⊎ WritesBackFirst q.shape old (h e.file) (back c.args.below) (back e.file))
    (same_plan _ plan p c.in-Ok.ensures.told told)
    (inr (⊎_elim
    (λ read. writes_back_later plan.shape old end (h e.file) (back c.args.below) (back checked.journal.below) (back e.file)
    first read.time.later read.time.kept same)
    (λ both. writes_back_later plan.shape old end (h e.file) (back c.args.below) (back checked.journal.below) (back e.file)
    first both.1.stays.later both.1.stays.kept same)
    left)))
    c.compared.ensures.refused c.compared.ensures.back_refused

-- ---- what the calls need, and what is plain

pub has_room-requires : goal.has_room-requires
has_room-requires g c = c.in-Ok.ensures.plan

pub open-requires : goal.open-requires
open-requires g c = record {
  inside = c.has_room.ensures.room c.if-not-has_room.false;
  kept = c.in-Ok.ensures.plan.kept;
  synced = λ n other. ap (λ (f : BlockFile). f.loose n) c.in-Ok.ensures.reads.file ∙ c.requires n;
}

pub compared-requires : goal.compared-requires
compared-requires g c =
    let opened = c.in-Ok-open.ensures in
    record { plan = c.in-Ok.ensures.plan; shape = opened.shape; blocks = opened.blocks; none = opened.none; good = opened.sound }

pub returns-then-not-has_room-clause-damaged : goal.returns-then-not-has_room-clause-damaged
returns-then-not-has_room-clause-damaged g c = λ n is. cc

pub returns-then-not-has_room-clause-no_header : goal.returns-then-not-has_room-clause-no_header
returns-then-not-has_room-clause-no_header g c = λ is. cc

pub returns-then-not-has_room-clause-failed : goal.returns-then-not-has_room-clause-failed
returns-then-not-has_room-clause-failed g c = λ is. cc

pub returns-then-not-has_room-clause-no_batch : goal.returns-then-not-has_room-clause-no_batch
returns-then-not-has_room-clause-no_batch g c = λ is. cc

pub returns-in-Ok-open-clause-told : goal.returns-in-Ok-open-clause-told
returns-in-Ok-open-clause-told g c =
    IfOk-weaker c.compared.result _ _ (λ d is. c.in-Ok.ensures.told ∙ ap Some (sym is)) c.compared.ensures.plan

pub returns-in-Ok-open-clause-synced : goal.returns-in-Ok-open-clause-synced
returns-in-Ok-open-clause-synced g c = c.compared.ensures.synced

pub returns-in-Ok-open-clause-no_header : goal.returns-in-Ok-open-clause-no_header
returns-in-Ok-open-clause-no_header g c = IfErr-weaker c.compared.result _ _ (λ e other is. absurd (other is)) c.compared.ensures.header

pub returns-in-Err-open-clause-no_header : goal.returns-in-Err-open-clause-no_header
returns-in-Err-open-clause-no_header g c = λ is. absurd (c.error_of.ensures.header is)

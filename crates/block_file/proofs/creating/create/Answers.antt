use Rattle.std.proofs.Common.{◌≡◌, ◌⊎◌, inl, inr, ⊎_elim, ℕ, ◌<◌, List, [], Option, Some, None, refl, sym, ◌∙◌, ap, subst, arith}
use Rattle.sector_device.specs.DevicePast.{Rises}
use Rattle.block_device.specs.Blocks.{CrashFile, block}
use Rattle.block_device.specs.BlocksPast.{BlocksPast, WrittenBack}
use Rattle.block_device.proofs.CrashFiles.{content_is_image, crash_synced}
use Rattle.block_device.proofs.Moments.{at_end, joined, started}
use Rattle.block_batch.specs.Batch.{Batch, Entry, replayed}
use Rattle.block_journal.specs.Layout.{found, recovered}
use Rattle.block_journal.specs.Journal.{BeginsBack, StaysRecovered}
use Rattle.block_journal.specs.Value.{JournalValue, content_of, settled_of}
use Rattle.block_journal.proofs.Placing.{inside_same}
use Rattle.block_journal.proofs.Results.{from_err, from_ok}
use Rattle.block_table.specs.Checked.{CheckedValue}
use Rattle.block_table.specs.Table.{EachFits, data_of}
use Rattle.block_file.specs.declared.plan.Plan.{Plan}
use Rattle.block_file.specs.Header.{TellTwice, plan_told}
use Rattle.block_file.specs.Making.{AreBegun, BecomesZeros, BeginsNewBack, HoldsZeros, WritesNewBack}
use Rattle.block_file.specs.Sectors.{sectors_of}
use Rattle.block_file.specs.Disks.{journal_in}
use Rattle.block_file.proofs.Errors.{failed_not_damaged, failed_not_header, failed_not_short, failed_not_batch}
use Rattle.block_file.proofs.Heading.{still_told, twice_still}
use Rattle.block_file.proofs.NewFile.{begins_new_back, leaves_weaker, new_back, same_zeros, told_is_plan, told_small}
use Rattle.block_file.proofs.Reopening.{good_opened}
use Rattle.block_file.proofs.creating.create.Goals as goal

-- what stays recovered goes on holding zeros
goes_on : (p : Plan) (old mid new : BlocksPast) → BecomesZeros p old mid → HoldsZeros p mid.file.content → StaysRecovered p.shape mid new
    → BecomesZeros p old new
goes_on p old mid new first held stays = joined old mid new (λ c. (plan_told c ≡ plan_told old.file.content) ⊎ HoldsZeros p c) first
    (leaves_weaker mid new (λ c. recovered p.shape c ≡ recovered p.shape mid.file.content)
    (λ c. (plan_told c ≡ plan_told old.file.content) ⊎ HoldsZeros p c) (λ c same. inr (same_zeros p mid.file.content c same held)) stays)

never : (o : Option Batch) (b : Batch) → o ≡ Some b → o ≡ None → ⊥
never o b some none = cc

pub has_room-requires : goal.has_room-requires
has_room-requires g c = told_is_plan c.args.plan c.requires.told

pub open-requires : goal.open-requires
open-requires g c =
    let h = g.B.Blocks.past_of in
    let good = sym c.is_err.ensures.value ∙ c.if-is_err.false in
    let laid = c.lay_out.ensures in
    record {
      inside = inside_same c.args.plan.shape _ _ (c.has_room.ensures.room c.if-not-has_room.false) laid.size;
      kept = (told_small c.args.plan c.requires.told).kept;
      synced = λ n out. from_ok _ _ good laid.synced n;
    }

pub over-requires : goal.over-requires
over-requires g c =
    let opened = c.in-Ok.ensures in
    record {
      plan = told_is_plan c.args.plan c.requires.told;
      shape = opened.shape;
      blocks = opened.blocks;
      none = opened.none;
      good = opened.sound;
    }

pub returns-then-not-has_room-clause-refused : goal.returns-then-not-has_room-clause-refused
returns-then-not-has_room-clause-refused g c =
    let old : BlocksPast = g.B.Blocks.past_of c.args.below in
    started old (λ image. (plan_told image ≡ plan_told old.file.content) ⊎ HoldsZeros c.args.plan image)
    (λ image crash. inl (ap plan_told (crash_synced old.file image c.requires.synced crash)))

pub returns-then-not-has_room-clause-written_back_refused : goal.returns-then-not-has_room-clause-written_back_refused
returns-then-not-has_room-clause-written_back_refused g c = inl refl

pub returns-then-is_err : goal.returns-then-is_err
returns-then-is_err g c =
    let failed = sym c.is_err.ensures.value ∙ c.if-is_err.true in
    record {
      plan = tt;
      still = tt;
      headers = tt;
      content = tt;
      synced = tt;
      good = tt;
      failures = tt;
      any_moment = tt;
      written_back = tt;
      refused = c.lay_out.ensures.any_moment;
      written_back_refused = inl c.lay_out.ensures.back;
      left_alone = λ is. absurd (failed_not_short is);
      too_short = λ is. absurd (failed_not_short is);
      failed = λ is. from_err _ _ failed c.lay_out.ensures.counts.failed;
      header = failed_not_header;
      batch = failed_not_batch;
      undamaged = failed_not_damaged;
    }

pub returns-in-Ok : goal.returns-in-Ok
returns-in-Ok g c =
    let h = g.B.Blocks.past_of in
    let back = g.B.Blocks.written_back in
    let plan : Plan = c.args.plan in
    let good = sym c.is_err.ensures.value ∙ c.if-is_err.false in
    let old : BlocksPast = h c.args.below in
    let mid : BlocksPast = h c.lay_out.new.below in
    let checked : CheckedValue g.row.B.Denot = c.in-Ok.checked in
    let opened = c.in-Ok.ensures in
    let over = c.over.ensures in
    let end : BlocksPast = h checked.journal.below in
    let held : HoldsZeros plan mid.file.content = from_ok _ _ good c.lay_out.ensures.zeros in
    let table : settled_of h checked.journal ≡ recovered plan.shape mid.file.content = opened.settled in
    let stays = at_end mid end (λ image. (n : ℕ) → n < plan.shape.first → block image n ≡ block mid.file.content n) opened.before
    end.file.content (content_is_image end.file end.whole) in
    record {
      plan = over.plan;
      still = ap plan_told over.first ∙ still_told end.file.content mid.file.content plan (from_ok _ _ good c.lay_out.ensures.told) stays;
      headers = subst (λ (l : CrashFile). TellTwice plan l) (sym over.first)
          (twice_still end.file.content mid.file.content plan (from_ok _ _ good c.lay_out.ensures.headers) stays);
      content = over.content ∙ (λ i. sectors_of plan.lead plan.sectors (data_of (opened.blocks i) (table i))) ∙ held.zeros;
      synced = over.synced;
      good = good_opened h c.over.result plan over.plan
          (ap plan_told over.first ∙ still_told end.file.content mid.file.content plan (from_ok _ _ good c.lay_out.ensures.told) stays)
          (ap (λ (v : JournalValue g.row.B.Denot). v.has_failed) over.journal ∙ opened.sound)
          (subst (λ (l : CrashFile). EachFits plan.blocks l)
          (sym (ap (λ (v : JournalValue g.row.B.Denot). content_of h v) over.journal
          ∙ ap (λ (l : List Entry). replayed l (settled_of h checked.journal)) opened.none ∙ table)) held.fits)
          (sym (ap (λ (l : List Entry). replayed l (settled_of h (journal_in c.over.result.now)))
          (ap (λ (v : JournalValue g.row.B.Denot). v.next) over.journal ∙ opened.none)));
      failures = omega (arith, over.failures, opened.quiet, opened.unrefused, from_ok _ _ good c.lay_out.ensures.counts.none);
      any_moment = subst (λ (v : JournalValue g.row.B.Denot). BecomesZeros plan old (h v.below)) (sym over.journal)
          (goes_on plan old mid (h checked.journal.below) c.lay_out.ensures.any_moment held opened.any_moment);
      written_back = subst (λ (v : JournalValue g.row.B.Denot). WritesNewBack plan old.moment (h v.below) (back c.args.below) (back v.below))
          (sym over.journal) (subst (λ (l : List WrittenBack). WritesNewBack plan old.moment end l (back checked.journal.below)) c.lay_out.ensures.back
          (new_back plan old.moment mid end (back c.lay_out.new.below) (back checked.journal.below) (from_ok _ _ good c.lay_out.ensures.told)
          (from_ok _ _ good c.lay_out.ensures.begun) c.lay_out.ensures.any_moment.later opened.written_back));
      refused = tt;
      written_back_refused = tt;
      left_alone = tt;
      too_short = tt;
      failed = tt;
      header = tt;
      batch = tt;
      undamaged = tt;
    }

pub returns-in-Err : goal.returns-in-Err
returns-in-Err g c =
    let h = g.B.Blocks.past_of in
    let F = g.B.Blocks.failures in
    let back = g.B.Blocks.written_back in
    let plan : Plan = c.args.plan in
    let good = sym c.is_err.ensures.value ∙ c.if-is_err.false in
    let old : BlocksPast = h c.args.below in
    let mid : BlocksPast = h c.lay_out.new.below in
    let new : BlocksPast = h c.in-Err.refused.file in
    let refused = c.in-Err.ensures in
    let kind = c.error_of.ensures in
    let later = c.lay_out.ensures.any_moment.later in
    let told : plan_told mid.file.content ≡ Some plan = from_ok _ _ good c.lay_out.ensures.told in
    let both : AreBegun plan.shape mid.file.content = from_ok _ _ good c.lay_out.ensures.begun in
    let held : HoldsZeros plan mid.file.content = from_ok _ _ good c.lay_out.ensures.zeros in
    let begun : found plan.shape mid.file.content 0 ≡ Some (record { number = 0; entries = [] }) = from_ok _ _ good c.lay_out.ensures.begun 0 (omega arith) in
    record {
      plan = tt;
      still = tt;
      headers = tt;
      content = tt;
      synced = tt;
      good = tt;
      failures = tt;
      any_moment = tt;
      written_back = tt;
      refused = goes_on plan old mid (h c.in-Err.refused.file) c.lay_out.ensures.any_moment held refused.refused;
      written_back_refused = subst (λ (l : List WrittenBack). BeginsNewBack plan old.moment new l (back c.in-Err.refused.file)) c.lay_out.ensures.back
          (⊎_elim
          (λ (begins : BeginsBack plan.shape mid new (back c.lay_out.new.below) (back c.in-Err.refused.file)).
          begins_new_back plan old.moment mid new (back c.lay_out.new.below) (back c.in-Err.refused.file) told both later begins)
          (λ wrote. inr (inr (new_back plan old.moment mid new (back c.lay_out.new.below) (back c.in-Err.refused.file) told both later wrote)))
          refused.written_back_refused);
      left_alone = λ is. absurd (kind.short is);
      too_short = λ is. absurd (kind.short is);
      failed = λ is. subst (λ (a : ℕ). Rises a (F c.in-Err.refused.file)) (from_ok _ _ good c.lay_out.ensures.counts.none) (refused.failed (kind.failed is));
      header = kind.header;
      batch = λ is. never _ _ begun (refused.no_batch (kind.batch is)).0;
      undamaged = kind.undamaged;
    }

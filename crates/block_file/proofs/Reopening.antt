-- What a crash leaves can be opened again.
use Rattle.std.proofs.Common.{◌≡◌, ◌⊎◌, ⊎_elim, inl, inr, ℕ, ◌%◌, ◌<◌, false, Option, Some, None, List, [], ◌∷◌, ◌++◌, sym, ◌∙◌, ap, subst, arith}
use Rattle.std.proofs.lemmas.Bool.{cases_eq}
use Rattle.block_device.specs.Blocks.{BlockFile, CrashFile, IsCrashFile, IsSynced, block}
use Rattle.block_device.specs.BlocksPast.{BlocksPast, LeavesOnly}
use Rattle.block_device.proofs.CrashFiles.{content_is_image, crash_synced}
use Rattle.block_device.proofs.Moments.{joined, one_call}
use Rattle.block_batch.specs.Batch.{Batch}
use Rattle.block_journal.specs.declared.shape.Shape.{Shape}
use Rattle.block_journal.specs.Layout.{IsHonest, IsInside, found, recovered}
use Rattle.block_journal.specs.Journal.{KeepsAreas, LeavesBefore, OnlyReads, StaysRecovered}
use Rattle.block_table.specs.Checked.{CheckedValue, kept_table, settled_table}
use Rattle.block_table.specs.Table.{EachFits}
use Rattle.block_file.specs.Damage.{CanBeOpened, FitsAsBefore}
use Rattle.block_file.specs.Good.{IsGood}
use Rattle.block_file.specs.Header.{HasNoBatch, plan_told}
use Rattle.block_file.specs.declared.plan.Plan.{Plan}
use Rattle.block_file.specs.declared.parts.DiskParts.{DiskParts}
use Rattle.block_file.specs.Disks.{first_content, journal_in}
use Rattle.block_file.specs.Moves.{IsSound, Moves}
use Rattle.block_file.proofs.Damage.{fits_same}
use Rattle.block_file.proofs.Heading.{still_told}
use Rattle.block_file.proofs.Openings.{same_plan}
use Rattle.block_file.proofs.Pushing.{first_same}

-- a file with a batch in an area isn't without one
pub has_batch : (p : Plan) (image : CrashFile) → plan_told image ≡ Some p
    → ((found p.shape image 0 ≡ None) × (found p.shape image 1 ≡ None) → ⊥) → ¬ HasNoBatch image
has_batch p image told some none = some (subst (λ (q : Plan). (found q.shape image 0 ≡ None) × (found q.shape image 1 ≡ None))
    (same_plan (plan_told image) none.0 p none.1 told) (none.3, none.4))

-- ---- what an opening leaves

pub reopens : (p : Plan) (old new : BlocksPast) → CanBeOpened p old.file.content → LeavesBefore p.shape old new → StaysRecovered p.shape old new
    → KeepsAreas p.shape old new → LeavesOnly old new (CanBeOpened p)
reopens p old new can before stays areas = record {
  later = before.later;
  kept = before.kept;
  each = λ t c from to crash.
      let told : plan_told c ≡ Some p = still_told c old.file.content p can.told (before.each t c from to crash) in
      let same = (areas.each t c from to crash).1 in
      record {
        told = told;
        inside = (areas.each t c from to crash).0;
        batch = has_batch p c told (λ none. can.batch (
          p,
          can.told,
          can.inside,
          sym (same 0 (omega arith)) ∙ none.0,
          sym (same 1 (omega arith)) ∙ none.1,
        ));
        fits = subst (EachFits p.blocks) (sym (stays.each t c from to crash)) can.fits;
      };
}

-- calls that only read a file with no loose block
pub reads_reopen : (p : Plan) (old new : BlocksPast) → IsSynced old.file → CanBeOpened p old.file.content → OnlyReads old new
    → LeavesOnly old new (CanBeOpened p)
reads_reopen p old new synced can reads = one_call old new (CanBeOpened p) reads.time here
    (λ c crash. here c (subst (λ (f : BlockFile). IsCrashFile f c) reads.file crash))
  where
    here : (c : CrashFile) → IsCrashFile old.file c → CanBeOpened p c
    here c crash = subst (CanBeOpened p) (sym (crash_synced old.file c synced crash)) can

-- and an opening behind them
pub reopens_then : (p : Plan) (old mid new : BlocksPast) → IsSynced old.file → OnlyReads old mid → LeavesBefore p.shape mid new
    → StaysRecovered p.shape mid new → KeepsAreas p.shape mid new → CanBeOpened p old.file.content → LeavesOnly old new (CanBeOpened p)
reopens_then p old mid new synced reads before stays areas can = joined old mid new (CanBeOpened p) (reads_reopen p old mid synced can reads)
    (reopens p mid new (subst (λ (f : BlockFile). CanBeOpened p f.content) (sym reads.file) can) before stays areas)

-- ---- what a crash leaves now

pub is_either : (k : ℕ) → (k % 2 ≡ 0 → ⊥) → (k % 2 ≡ 1 → ⊥) → ⊥
is_either k even odd = ⊎_elim even (λ other. odd (omega (arith, other))) (cases_eq (k % 2) 0)

pub never_both : (o : Option Batch) (b : Batch) → o ≡ Some b → o ≡ None → ⊥
never_both o b some none = differ (sym some ∙ none)
  where
    differ : Path (Option Batch) (Some b) None → ⊥
    differ is = absurd cc

pub reopens_now : {B A : Type 0} (past_of : B → BlocksPast) (d : DiskParts B A) (last : Batch) (image : CrashFile) → IsSound past_of d → IsGood past_of d
    → IsInside d.plan.shape (past_of (journal_in d.now).below).file.content → IsSynced (past_of (journal_in d.now).below).file
    → found d.plan.shape (past_of (journal_in d.now).below).file.content (last.number % 2) ≡ Some last
    → recovered d.plan.shape image ≡ settled_table past_of d.now.checked → IsCrashFile (past_of (journal_in d.now).below).file image
    → CanBeOpened d.plan image
reopens_now past_of d last image sound good inside synced here is crash = record {
  told = now;
  inside = subst (IsInside d.plan.shape) (sym same) inside;
  batch = has_batch d.plan image now (λ none. is_either last.number
      (λ even. never_both _ last (ap (found d.plan.shape image) (sym even) ∙ there) none.0)
      (λ odd. never_both _ last (ap (found d.plan.shape image) (sym odd) ∙ there) none.1));
  fits = subst (EachFits d.plan.blocks) (sym is) good.settled;
}
  where
    same : image ≡ (past_of (journal_in d.now).below).file.content
    same = crash_synced (past_of (journal_in d.now).below).file image synced crash

    there : found d.plan.shape image (last.number % 2) ≡ Some last
    there = ap (λ (l : CrashFile). found d.plan.shape l (last.number % 2)) same ∙ here

    now : plan_told image ≡ Some d.plan
    now = still_told image (first_content past_of d) d.plan good.told (sound.before (past_of (journal_in d.now).below).moment image
        (sound.rising 0 (omega arith)) (omega arith)
        (subst (λ (f : BlockFile). IsCrashFile f image) (sym (past_of (journal_in d.now).below).now) crash))

-- ---- what a crash leaves during a call

module _ {B A : Type 0} (past_of : B → BlocksPast) (d : DiskParts B A) (new : CheckedValue B) (sound : IsSound past_of d)
    (moves : Moves past_of d.now.checked new) (good : IsGood past_of d) where
  shape_is : (journal_in d.now).shape ≡ d.plan.shape
  shape_is = sound.kept.shape

  -- the file tells the plan now
  told_now : plan_told (past_of (journal_in d.now).below).file.content ≡ Some d.plan
  told_now = still_told (past_of (journal_in d.now).below).file.content (first_content past_of d) d.plan good.told
      (sound.before (past_of (journal_in d.now).below).moment (past_of (journal_in d.now).below).file.content (sound.rising 0 (omega arith)) (omega arith)
      (subst (λ (f : BlockFile). IsCrashFile f (past_of (journal_in d.now).below).file.content) (sym (past_of (journal_in d.now).below).now)
      (content_is_image (past_of (journal_in d.now).below).file (past_of (journal_in d.now).below).whole)))

  pub moves_reopen : LeavesOnly (past_of (journal_in d.now).below) (past_of new.journal.below)
      (λ image. IsHonest new.journal.offered d.plan.shape image → CanBeOpened d.plan image)
  moves_reopen = record {
    later = (moves.any_moment good.sound).later;
    kept = (moves.any_moment good.sound).kept;
    each = λ t c from to crash honest.
        let before = (moves.before good.sound).each t c from to crash in
        let holds = (moves.holds good.sound).each t c from to crash in
        let either = (moves.any_moment good.sound).each t c from to crash (subst (λ (s : Shape). IsHonest new.journal.offered s c) (sym shape_is) honest) in
        let now : plan_told c ≡ Some d.plan = still_told c (past_of (journal_in d.now).below).file.content d.plan told_now
        (λ n below. before n (subst (λ (s : Shape). n < s.first) (sym shape_is) below)) in
        let there = ap (λ (s : Shape). found s c ((journal_in d.now).last.number % 2)) (sym shape_is) ∙ holds.1 in
        let same : recovered d.plan.shape c ≡ recovered (journal_in d.now).shape c = ap (λ (s : Shape). recovered s c) (sym shape_is) in
        record {
          told = now;
          inside = subst (λ (s : Shape). IsInside s c) shape_is holds.0;
          batch = has_batch d.plan c now (λ none. is_either (journal_in d.now).last.number
              (λ even. never_both _ (journal_in d.now).last (ap (found d.plan.shape c) (sym even) ∙ there) none.0)
              (λ odd. never_both _ (journal_in d.now).last (ap (found d.plan.shape c) (sym odd) ∙ there) none.1));
          fits = ⊎_elim (λ is. subst (EachFits d.plan.blocks) (sym (same ∙ is)) good.settled)
              (λ is. subst (EachFits d.plan.blocks) (sym (same ∙ is)) good.table)
              either;
        };
  }

-- ---- a device stays good

pub good_opened : {B A : Type 0} (past_of : B → BlocksPast) (d : DiskParts B A) (plan : Plan) → d.plan ≡ plan
    → plan_told (first_content past_of d) ≡ Some plan → (journal_in d.now).has_failed ≡ false
    → EachFits plan.blocks (kept_table past_of d.now.checked) → settled_table past_of d.now.checked ≡ kept_table past_of d.now.checked → IsGood past_of d
good_opened past_of d plan is told sound each committed = record {
  sound = sound;
  told = told ∙ ap (λ (p : Plan). Some p) (sym is);
  settled = subst (λ (p : Plan). EachFits p.blocks (settled_table past_of d.now.checked)) (sym is) (subst (EachFits plan.blocks) (sym committed) each);
  table = subst (λ (p : Plan). EachFits p.blocks (kept_table past_of d.now.checked)) (sym is) each;
}

module _ {B A : Type 0} (past_of : B → BlocksPast) (d n : DiskParts B A) (plan : n.plan ≡ d.plan) (is : n.past.items ≡ d.past.items ++ d.now ∷ [])
    (good : IsGood past_of d) (sound : (journal_in n.now).has_failed ≡ false) where
  told_later : plan_told (first_content past_of n) ≡ Some n.plan
  told_later = ap plan_told (first_same past_of d n plan is) ∙ good.told ∙ ap (λ (p : Plan). Some p) (sym plan)

  pub good_moved : (settled_table past_of n.now.checked ≡ settled_table past_of d.now.checked)
      ⊎ (settled_table past_of n.now.checked ≡ kept_table past_of d.now.checked)
      → FitsAsBefore d.plan (kept_table past_of d.now.checked) (kept_table past_of n.now.checked) → IsGood past_of n
  good_moved settled fits = record {
    sound = sound;
    told = told_later;
    settled = subst (λ (p : Plan). EachFits p.blocks (settled_table past_of n.now.checked)) (sym plan)
        (⊎_elim (λ same. subst (EachFits d.plan.blocks) (sym same) good.settled) (λ same. subst (EachFits d.plan.blocks) (sym same) good.table) settled);
    table = subst (λ (p : Plan). EachFits p.blocks (kept_table past_of n.now.checked)) (sym plan) (λ k low. (fits k low).1 (good.table k low));
  }

  -- where the table and the data stay
  pub good_same : (settled_table past_of n.now.checked ≡ settled_table past_of d.now.checked)
      ⊎ (settled_table past_of n.now.checked ≡ kept_table past_of d.now.checked)
      → kept_table past_of n.now.checked ≡ kept_table past_of d.now.checked → IsGood past_of n
  good_same settled same = good_moved settled (fits_same d.plan (kept_table past_of d.now.checked) (kept_table past_of n.now.checked) same)

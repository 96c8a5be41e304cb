-- The headers stay while a disk is used.
use Rattle.std.proofs.Common.{◌≡◌, ◌⊎◌, inl, inr, ⊎_elim, ℕ, ◌-◌, ◌^◌, ◌<◌, Bool, true, false, ◌&&◌, if◌then◌else◌, List}
use Rattle.std.proofs.Common.{Option, Some, None, refl, sym, ◌∙◌, ap, subst, arith}
use Rattle.std.proofs.lemmas.Bool.{cases_Bool, cases_lt, false≢true}
use Rattle.block_device.specs.Blocks.{BlockFile, CrashFile, IsCrashFile, block}
use Rattle.block_device.specs.BlocksPast.{BlocksPast, LeavesOnly}
use Rattle.block_device.proofs.CrashFiles.{content_is_image}
use Rattle.block_device.proofs.Moments.{one_call}
use Rattle.block_device.specs.Words.{word}
use Rattle.block_journal.specs.declared.shape.Shape.{Shape}
use Rattle.block_journal.specs.Journal.{LeavesBefore, OnlyReads}
use Rattle.block_journal.specs.Value.{JournalValue, Offers}
use Rattle.block_table.specs.Checked.{CheckedValue}
use Rattle.block_file.specs.declared.plan.Plan.{Plan}
use Rattle.block_file.specs.declared.parts.DiskParts.{DiskParts}
use Rattle.block_file.specs.Header.{TellTwice, can_be, first_of, is_header, plan_for, plan_told, told_by}
use Rattle.block_file.specs.Disks.{BeforeStays, OffersOne, TellsStill, first_content, journal_in}
use Rattle.block_file.specs.Moves.{IsSound}

-- ---- what a header tells begins behind both

first_or : (a b : Option Plan) (p : Plan) → first_of a b ≡ Some p → (a ≡ Some p) ⊎ (b ≡ Some p)
first_or (Some q) b p is = inl is
first_or None b p is = inr is

chosen : (b : Bool) (q p : Plan) → q.shape.first ≡ 2 → Path (Option Plan) (if b then Some q else None) (Some p) → p.shape.first ≡ 2
chosen true q p two is = let same : q ≡ p = cc in sym (ap (λ (x : Plan). x.shape.first) same) ∙ two
chosen false q p two is = absurd cc

behind_both : (bytes : List ℕ) (p : Plan) → told_by bytes ≡ Some p → p.shape.first ≡ 2
behind_both bytes p is = chosen (is_header bytes && can_be (word bytes 2) (word bytes 3) (word bytes 4))
    (plan_for (word bytes 2) (word bytes 3) (word bytes 4)) p refl is

pub told_behind : (image : CrashFile) (p : Plan) → plan_told image ≡ Some p → p.shape.first ≡ 2
told_behind image p is = ⊎_elim (behind_both (block image 0) p) (behind_both (block image 1) p)
    (first_or (told_by (block image 0)) (told_by (block image 1)) p is)

-- where the blocks before the journal stay, the header is still told
pub still_told : (image first : CrashFile) (p : Plan) → plan_told first ≡ Some p → ((n : ℕ) → n < p.shape.first → block image n ≡ block first n)
    → plan_told image ≡ Some p
still_told image first p told same =
    let two = told_behind first p told in
    let zero : block image 0 ≡ block first 0 = same 0 (omega (arith, two)) in
    let one : block image 1 ≡ block first 1 = same 1 (omega (arith, two)) in
    (λ i. first_of (told_by (zero i)) (told_by (one i))) ∙ told

-- and both of its blocks tell it, if they did
pub twice_still : (image first : CrashFile) (p : Plan) → TellTwice p first → ((n : ℕ) → n < p.shape.first → block image n ≡ block first n)
    → TellTwice p image
twice_still image first p told same =
    let two = behind_both (block first 0) p told.first in
    record {
      first = ap told_by (same 0 (omega (arith, two))) ∙ told.first;
      second = ap told_by (same 1 (omega (arith, two))) ∙ told.second;
    }

-- ---- what is handed to be written

pub offers_one : {B : Type 0} (old new : JournalValue B) → Offers old new → OffersOne old new
offers_one old new offers = ⊎_elim
    (λ failed. inl (offers.none (λ can. absurd (false≢true (sym can.0 ∙ failed)))))
    (λ good. ⊎_elim
    (λ low. inr (offers.next (good, low)))
    (λ most. inl (offers.none (λ can. omega (arith, can.1, most))))
    (cases_lt old.last.number (2 ^ 64 - 1)))
    (cases_Bool old.has_failed)

-- ---- a disk

module _ {B A : Type 0} (past_of : B → BlocksPast) where
  pub tells_still : (d : DiskParts B A) → BeforeStays past_of d → TellsStill past_of d
  tells_still d stays told t image from to crash = still_told image (first_content past_of d) d.plan told (stays t image from to crash)

  module _ (d : DiskParts B A) (sound : IsSound past_of d) (new : CheckedValue B) where
    -- what a crash leaves has the blocks before the journal as they were first
    abbrev pub HasFirst : CrashFile → Type 0
    HasFirst image = (n : ℕ) → n < d.plan.shape.first → block image n ≡ block (first_content past_of d) n

    has_now : (image : CrashFile) → IsCrashFile (past_of (journal_in d.now).below).file image → HasFirst image
    has_now image crash = sound.before (past_of (journal_in d.now).below).moment image (sound.rising 0 (omega arith)) (omega arith)
        (subst (λ (f : BlockFile). IsCrashFile f image) (sym (past_of (journal_in d.now).below).now) crash)

    -- calls that only read
    pub first_read : OnlyReads (past_of (journal_in d.now).below) (past_of new.journal.below)
        → LeavesOnly (past_of (journal_in d.now).below) (past_of new.journal.below) HasFirst
    first_read reads = one_call (past_of (journal_in d.now).below) (past_of new.journal.below) HasFirst reads.time has_now
        (λ image crash. has_now image (subst (λ (f : BlockFile). IsCrashFile f image) reads.file crash))

    -- calls of which some may write
    pub first_moved : ((journal_in d.now).has_failed ≡ false
        → LeavesBefore (journal_in d.now).shape (past_of (journal_in d.now).below) (past_of new.journal.below))
        → ((journal_in d.now).has_failed ≡ true → OnlyReads (past_of (journal_in d.now).below) (past_of new.journal.below))
        → LeavesOnly (past_of (journal_in d.now).below) (past_of new.journal.below) HasFirst
    first_moved leaves reads = ⊎_elim (λ failed. first_read (reads failed)) (λ good. by (leaves good)) (cases_Bool (journal_in d.now).has_failed)
      where
        by : LeavesBefore (journal_in d.now).shape (past_of (journal_in d.now).below) (past_of new.journal.below)
            → LeavesOnly (past_of (journal_in d.now).below) (past_of new.journal.below) HasFirst
        by run = record {
          later = run.later;
          kept = run.kept;
          each = λ t image from to crash n below.
              run.each t image from to crash n (omega (arith, below, ap (λ (g : Shape). g.first) sound.kept.shape))
              ∙ has_now (past_of (journal_in d.now).below).file.content
              (content_is_image (past_of (journal_in d.now).below).file (past_of (journal_in d.now).below).whole) n below;
        }

-- An opening hands the last batch on, and puts all blocks in their places.
use Rattle.std.proofs.Common.{◌≡◌, ◌⊎◌, ⊎_elim, ℕ, ◌+◌, ◌-◌, ◌^◌, ◌%◌, ◌<◌, ◌≤◌, false, List, [], ◌∷◌, ◌++◌, Option, Some, None, IfSome, Contains, sym, ◌∙◌}
use Rattle.std.proofs.Common.{ap, subst, arith}
use Rattle.std.proofs.lemmas.Bool.{cases_lt}
use Rattle.std.proofs.lemmas.List.Elements.{Contains-append_left}
use Rattle.block_device.specs.Blocks.{BlockFile, CrashFile, IsCrashFile, IsSynced, block}
use Rattle.block_device.specs.BlocksPast.{BlocksPast, LeavesOnly}
use Rattle.block_device.proofs.CrashFiles.{content_is_image, crash_synced}
use Rattle.block_device.proofs.Moments.{at_end, joined, one_call, started}
use Rattle.block_batch.specs.Batch.{Batch, replayed}
use Rattle.block_batch.proofs.Replay.{again}
use Rattle.block_journal.specs.declared.shape.Shape.{Shape}
use Rattle.block_journal.specs.Layout.{IsHonest, IsInside, found, kept_of, recovered}
use Rattle.block_journal.specs.Journal.{KeepsBatch, LeavesBefore, OnlyReads, StaysRecovered}
use Rattle.block_journal.specs.Value.{CanCommit, JournalValue, LeavesEither, Offers, content_of, next_batch, settled_of}
use Rattle.block_journal.proofs.Keeping.{honest_before}
use Rattle.block_table.specs.Table.{EachFits}
use Rattle.block_table.proofs.Contents.{settled_read}
use Rattle.block_file.specs.Damage.{CanBeOpened}
use Rattle.block_file.specs.Header.{plan_told}
use Rattle.block_file.specs.Settling.{HasBatch, IsHandingOn, OpensUnder, StaysUnder, handed_on}
use Rattle.block_file.specs.declared.plan.Plan.{Plan}
use Rattle.block_file.proofs.Heading.{still_told}
use Rattle.block_file.proofs.NewFile.{leaves_weaker}
use Rattle.block_file.proofs.Reopening.{has_batch, is_either, never_both}

-- ---- runs of calls

-- calls that only read, before others
pub reads_then : (old mid new : BlocksPast) (P : CrashFile → Type 0) → OnlyReads old mid → LeavesOnly mid new P → LeavesOnly old new P
reads_then old mid new P reads run = joined old mid new P
    (one_call old mid P reads.time (λ c crash. here c (subst (λ (f : BlockFile). IsCrashFile f c) (sym reads.file) crash)) here) run
  where
    here : (c : CrashFile) → IsCrashFile mid.file c → P c
    here c crash = run.each mid.moment c (omega arith) run.later
        (subst (λ (f : BlockFile). IsCrashFile f c) (sym (run.kept mid.moment (omega arith) ∙ mid.now)) crash)

-- the blocks before the journal stay, one run after another
pub before_joined : (g : Shape) (old mid new : BlocksPast) → LeavesBefore g old mid → LeavesBefore g mid new → LeavesBefore g old new
before_joined g old mid new first second = joined old mid new (λ c. (n : ℕ) → n < g.first → block c n ≡ block old.file.content n) first (record {
  later = second.later;
  kept = second.kept;
  each = λ t c from to crash n low.
      second.each t c from to crash n low
      ∙ at_end old mid (λ c. (n : ℕ) → n < g.first → block c n ≡ block old.file.content n) first mid.file.content
      (content_is_image mid.file mid.whole) n low;
})

-- ---- what a journal stands for

-- with no loose block
pub stands_now : (file : BlockFile) (offered : List Batch) (g : Shape) (settled : CrashFile) → IsSynced file → IsHonest offered g file.content
    → ((c : CrashFile) → IsCrashFile file c → IsHonest offered g c → recovered g c ≡ settled) → (c : CrashFile) → IsCrashFile file c
    → recovered g c ≡ settled
stands_now file offered g settled synced honest survives c crash =
    survives c crash (subst (IsHonest offered g) (sym (crash_synced file c synced crash)) honest)

-- the last batch is in its area
pub has_one : (g : Shape) (last : Batch) (c : CrashFile) → IsInside g c × (found g c (last.number % 2) ≡ Some last) → IsInside g c × HasBatch g c
has_one g last c there = (
  there.0,
  λ none. is_either last.number
      (λ even. never_both _ last (ap (found g c) (sym even) ∙ there.1) none.0)
      (λ odd. never_both _ last (ap (found g c) (sym odd) ∙ there.1) none.1),
)

module _ {B : Type 0} (past_of : B → BlocksPast) (v w : JournalValue B) where
  -- the blocks of the last batch are gathered once more
  abbrev pub gathered : JournalValue B
  gathered = record v { next = v.last.entries }

  abbrev pub Handed : CrashFile → Type 0
  Handed c = IsHonest (handed_on v.offered v.last) v.shape c → recovered v.shape c ≡ settled_of past_of v

  -- they are committed
  pub first_handed : v.has_failed ≡ false → Contains v.offered v.last
      → ((c : CrashFile) → IsCrashFile (past_of v.below).file c → recovered v.shape c ≡ settled_of past_of v) → LeavesEither past_of gathered w
      → Offers gathered w → KeepsBatch v.shape v.last (past_of v.below) (past_of w.below) → (¬ CanCommit gathered → w.below ≡ v.below)
      → LeavesOnly (past_of v.below) (past_of w.below) Handed
  first_handed good has now either offers holds untouched = ⊎_elim can cannot (cases_lt v.last.number (2 ^ 64 - 1))
    where
      can : v.last.number < 2 ^ 64 - 1 → LeavesOnly (past_of v.below) (past_of w.below) Handed
      can low = record {
        later = either.later;
        kept = either.kept;
        each = λ t c from to crash honest.
            let parity : (v.last.number + 1 + 1) % 2 ≡ v.last.number % 2 = omega arith in
            let fewer = honest_before v.shape c (v.offered ++ next_batch gathered ∷ []) v.last (record { number = v.last.number + 1 + 1; entries = [] })
            (holds.each t c from to crash).1 (Contains-append_left v.offered (next_batch gathered ∷ []) v.last has) parity honest in
            ⊎_elim (λ is. is) (λ is. is ∙ again v.last.entries (kept_of v.shape (past_of v.below).file.content))
            (either.each t c from to crash (subst (λ (l : List Batch). IsHonest l v.shape c) (sym (offers.next (good, low))) fewer));
      }

      cannot : 2 ^ 64 - 1 ≤ v.last.number → LeavesOnly (past_of v.below) (past_of w.below) Handed
      cannot most = subst (λ (b : B). LeavesOnly (past_of v.below) (past_of b) Handed) (sym (untouched (λ can. omega (arith, can.1, most))))
          (started (past_of v.below) Handed (λ c crash honest. now c crash))

  -- behind them an empty batch
  module _ (n : JournalValue B) (can_first : CanCommit gathered) (first : Offers gathered w) (last : w.last ≡ next_batch gathered) (none : w.next ≡ [])
      (offers : Offers w n) where
    pub all_handed : CanCommit w → n.offered ≡ handed_on v.offered v.last
    all_handed can = offers.next can ∙ (λ i. first.next can_first i ++ empty i ∷ [])
      where
        empty : Path Batch (next_batch w) (record { number = v.last.number + 1 + 1; entries = [] })
        empty = λ i. record { number = (last i).number + 1; entries = none i }

    pub second_handed : w.has_failed ≡ false → settled_of past_of w ≡ settled_of past_of v → w.shape ≡ v.shape
        → ((c : CrashFile) → IsCrashFile (past_of w.below).file c → recovered w.shape c ≡ settled_of past_of w) → LeavesEither past_of w n
        → (¬ CanCommit w → n.below ≡ w.below) → LeavesOnly (past_of w.below) (past_of n.below) Handed
    second_handed good settled shape now either untouched = ⊎_elim can cannot (cases_lt w.last.number (2 ^ 64 - 1))
      where
        same : (c : CrashFile) → recovered v.shape c ≡ recovered w.shape c
        same c = ap (λ (g : Shape). recovered g c) (sym shape)

        nothing : content_of past_of w ≡ settled_of past_of v
        nothing = (λ i. replayed (none i) (settled_of past_of w)) ∙ settled

        can : w.last.number < 2 ^ 64 - 1 → LeavesOnly (past_of w.below) (past_of n.below) Handed
        can low = record {
          later = either.later;
          kept = either.kept;
          each = λ t c from to crash honest.
              let all = subst (λ (g : Shape). IsHonest n.offered g c) (sym shape)
              (subst (λ (l : List Batch). IsHonest l v.shape c) (sym (all_handed (good, low))) honest) in
              ⊎_elim (λ is. same c ∙ is ∙ settled) (λ is. same c ∙ is ∙ nothing) (either.each t c from to crash all);
        }

        cannot : 2 ^ 64 - 1 ≤ w.last.number → LeavesOnly (past_of w.below) (past_of n.below) Handed
        cannot most = subst (λ (b : B). LeavesOnly (past_of w.below) (past_of b) Handed) (sym (untouched (λ can. omega (arith, can.1, most))))
            (started (past_of w.below) Handed (λ c crash honest. same c ∙ now c crash ∙ settled))

-- ---- checked blocks that were read before

module _ {B : Type 0} (past_of : B → BlocksPast) (v m : JournalValue B) (new : BlocksPast) (is : m ≡ record v { below = m.below; refused = m.refused })
    (reads : OnlyReads (past_of v.below) (past_of m.below)) where
  pub hands_read : IsHandingOn past_of m new → IsHandingOn past_of v new
  hands_read hands = record {
    stays = reads_then (past_of v.below) (past_of m.below) new (Handed past_of v v) reads
        (subst (λ (l : CrashFile). LeavesOnly (past_of m.below) new (λ c. IsHonest (handed_on v.offered v.last) v.shape c → recovered v.shape c ≡ l))
        (settled_read past_of v m is reads)
        (subst (λ (w : JournalValue B). LeavesOnly (past_of m.below) new
        (λ c. IsHonest (handed_on w.offered w.last) w.shape c → recovered w.shape c ≡ settled_of past_of m)) is hands.stays));
    before = reads_then (past_of v.below) (past_of m.below) new
        (λ c. (n : ℕ) → n < v.shape.first → block c n ≡ block (past_of v.below).file.content n) reads
        (subst (λ (f : BlockFile). LeavesOnly (past_of m.below) new (λ c. (n : ℕ) → n < v.shape.first → block c n ≡ block f.content n)) reads.file
        (subst (λ (w : JournalValue B). LeavesBefore w.shape (past_of m.below) new) is hands.before));
    holds = reads_then (past_of v.below) (past_of m.below) new (λ c. IsInside v.shape c × HasBatch v.shape c) reads
        (subst (λ (w : JournalValue B). LeavesOnly (past_of m.below) new (λ c. IsInside w.shape c × HasBatch w.shape c)) is hands.holds);
  }

-- ---- a file that is opened, whose last batch is then handed on

-- the premise by more batches
pub honest_longer : (offered more : List Batch) (g : Shape) (c : CrashFile) → IsHonest offered g c → IsHonest (offered ++ more) g c
honest_longer offered more g c honest a low = longer (found g c a) (honest a low)
  where
    longer : (o : Option Batch) → IfSome o (λ x. Contains offered x) → IfSome o (λ x. Contains (offered ++ more) x)
    longer None h = tt
    longer (Some x) h = Contains-append_left offered more x h

pub honest_handed : (offered : List Batch) (last : Batch) (g : Shape) (c : CrashFile) → IsHonest offered g c → IsHonest (handed_on offered last) g c
honest_handed offered last g c honest = honest_longer (offered ++ record { number = last.number + 1; entries = last.entries } ∷ [])
    (record { number = last.number + 1 + 1; entries = [] } ∷ []) g c
    (honest_longer offered (record { number = last.number + 1; entries = last.entries } ∷ []) g c honest)

-- the file tells its plan still
pub told_end : (p : Plan) (old new : BlocksPast) → plan_told old.file.content ≡ Some p → LeavesBefore p.shape old new → plan_told new.file.content ≡ Some p
told_end p old new told before = still_told new.file.content old.file.content p told
    (at_end old new (λ c. (n : ℕ) → n < p.shape.first → block c n ≡ block old.file.content n) before new.file.content
    (content_is_image new.file new.whole))

module _ {B : Type 0} (past_of : B → BlocksPast) (p : Plan) (old : BlocksPast) (j : JournalValue B) (new : BlocksPast) (shape : j.shape ≡ p.shape)
    (settled : settled_of past_of j ≡ recovered p.shape old.file.content) (stays : StaysRecovered p.shape old (past_of j.below))
    (before : LeavesBefore p.shape old (past_of j.below)) (hands : IsHandingOn past_of j new) where
  abbrev Stays : CrashFile → Type 0
  Stays c = IsHonest (handed_on j.offered j.last) p.shape c → recovered p.shape c ≡ recovered p.shape old.file.content

  pub stays_under : StaysUnder (handed_on j.offered j.last) p.shape old new
  stays_under = joined old (past_of j.below) new Stays
      (leaves_weaker old (past_of j.below) (λ c. recovered p.shape c ≡ recovered p.shape old.file.content) Stays (λ c is honest. is) stays)
      (leaves_weaker (past_of j.below) new (Handed past_of j j) Stays
      (λ c is honest. ap (λ (g : Shape). recovered g c) (sym shape) ∙ is (subst (λ (g : Shape). IsHonest (handed_on j.offered j.last) g c) (sym shape) honest)
      ∙ settled) hands.stays)

  pub before_under : LeavesBefore p.shape old new
  before_under = before_joined p.shape old (past_of j.below) new before
      (subst (λ (g : Shape). LeavesBefore g (past_of j.below) new) shape hands.before)

  pub opens_under : LeavesOnly old (past_of j.below) (CanBeOpened p) → CanBeOpened p old.file.content → OpensUnder (handed_on j.offered j.last) p old new
  opens_under first can = record {
    later = before_under.later;
    kept = before_under.kept;
    each = λ t c from to crash honest.
        let told = still_told c old.file.content p can.told (before_under.each t c from to crash) in
        let has = holds.each t c from to crash in
        record {
          told = told;
          inside = has.0;
          batch = has_batch p c told has.1;
          fits = subst (EachFits p.blocks) (sym (stays_under.each t c from to crash honest)) can.fits;
        };
  }
    where
      holds : LeavesOnly old new (λ c. IsInside p.shape c × HasBatch p.shape c)
      holds = joined old (past_of j.below) new (λ c. IsInside p.shape c × HasBatch p.shape c)
          (leaves_weaker old (past_of j.below) (CanBeOpened p) (λ c. IsInside p.shape c × HasBatch p.shape c)
          (λ c opens. (opens.inside, λ none. opens.batch (p, opens.told, opens.inside, none.0, none.1))) first)
          (subst (λ (g : Shape). LeavesOnly (past_of j.below) new (λ c. IsInside g c × HasBatch g c)) shape hands.holds)

-- ---- two commits, one behind the other

-- what a crash leaves in the first one can be opened by the batches of both
pub opens_then : (p : Plan) (old mid new : BlocksPast) (last : Batch) (first second : List Batch) (next : Batch) → KeepsBatch p.shape last old mid
    → Contains first last → next.number ≡ last.number + 1 + 1 → (second ≡ first) ⊎ (second ≡ first ++ next ∷ []) → OpensUnder first p old mid
    → OpensUnder second p mid new → OpensUnder second p old new
opens_then p old mid new last first second next keeps has follows offers one two =
    joined old mid new (λ c. IsHonest second p.shape c → CanBeOpened p c) (record {
      later = one.later;
      kept = one.kept;
      each = λ t c from to crash honest. one.each t c from to crash (⊎_elim
          (λ same. subst (λ (l : List Batch). IsHonest l p.shape c) same honest)
          (λ more. honest_before p.shape c first last next (keeps.each t c from to crash).1 has (omega (arith, follows))
          (subst (λ (l : List Batch). IsHonest l p.shape c) more honest)) offers);
    }) two

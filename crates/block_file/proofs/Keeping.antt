-- What was committed, and what a crash leaves, go on standing for crash states of the disk.
use Rattle.std.specs.Prelude.{is_ok}
use Rattle.std.proofs.Common.{Result, Ok, Err, OnOk, OnErr, ◌≡◌, ◌⊎◌, inl, inr, ⊎_elim, ℕ, ◌<◌, Bool, true, false, ◌||◌, ◌==◌, List}
use Rattle.std.proofs.Common.{[], ◌∷◌, ◌++◌, slice_set, refl, sym, ◌∙◌, ap, subst, arith, length-set}
use Rattle.std.proofs.Math.Path.{fun_ext}
use Rattle.std.proofs.lemmas.Bool.{cases_Bool, cases_eq, false≢true, true≢false}
use Rattle.std.proofs.lemmas.Bool.Decides.{nat_tests}
use Rattle.std.proofs.lemmas.List.{get_or-set_other, set-get_or}
use Rattle.sector_device.specs.Disk.{CrashState, Disk, IsCrashState, IsDiskWhole, IsFailedWrite, after_sync, after_write, sector}
use Rattle.sector_device.proofs.Sectors.{content_is_image, image_is_whole}
use Rattle.block_device.specs.Blocks.{CrashFile, BlockFile, IsCrashFile}
use Rattle.block_device.specs.BlocksPast.{BlocksPast, LeavesOnly}
use Rattle.block_device.proofs.Moments.{at_end, one_call}
use Rattle.block_batch.specs.Batch.{Batch, Entry, replayed}
use Rattle.block_journal.specs.declared.shape.Shape.{Shape}
use Rattle.block_journal.specs.Layout.{IsHonest, recovered}
use Rattle.block_journal.specs.Journal.{OnlyReads}
use Rattle.block_table.specs.Table.{data_of}
use Rattle.block_table.specs.Checked.{CheckedValue, data_now, kept_table, settled_data, settled_table}
use Rattle.block_file.specs.declared.plan.Plan.{Plan}
use Rattle.block_file.specs.declared.parts.Held.{Held}
use Rattle.block_file.specs.Plans.{disk_image}
use Rattle.block_file.specs.Sectors.{sectors_are_whole, sectors_of}
use Rattle.block_file.specs.Disks.{StandsForCrash, disk_of, is_one_of, journal_in}
use Rattle.block_file.specs.Moves.{IsKept, Moves}
use Rattle.block_file.proofs.Patching.{length-sectors}

-- ---- which sectors were written

or_swap : (a b c : Bool) → (a || (b || c)) ≡ (b || (a || c))
or_swap true true c = refl
or_swap true false c = refl
or_swap false true c = refl
or_swap false false c = refl

one_more : (xs : List ℕ) (n k : ℕ) → is_one_of (xs ++ n ∷ []) k ≡ ((k == n) || is_one_of xs k)
one_more [] n k = refl
one_more (x ∷ xs) n k = ap (λ (b : Bool). (k == x) || b) (one_more xs n k) ∙ or_swap (k == x) (k == n) (is_one_of xs k)

pub flags_more : (xs ys : List ℕ) (n : ℕ) → ys ≡ xs ++ n ∷ [] → Path (ℕ → Bool) (is_one_of ys) (λ k. (k == n) || is_one_of xs k)
flags_more xs ys n is = ap is_one_of is ∙ fun_ext (one_more xs n)

pub flags_none : (ys : List ℕ) → ys ≡ [] → Path (ℕ → Bool) (is_one_of ys) (λ _. false)
flags_none ys is = ap is_one_of is ∙ fun_ext (λ k. refl)

-- ---- crash states of a disk

-- what is a crash state stays one after a write
pub crash_written : (disk : Disk) (n : ℕ) (bytes : List ℕ) (c : CrashState) → IsDiskWhole disk.content → IsCrashState disk c
    → IsCrashState (after_write disk n bytes) c
crash_written disk n bytes c whole crash = record {
  sectors = crash.sectors ∙ sym (length-set disk.content n bytes);
  kept = λ k is. elim (cases_eq k n) [
    | inl same ↦ absurd (grind (arith, nat_tests, is, same))
    | inr other ↦ crash.kept k (grind (arith, nat_tests, is, other)) ∙ sym (get_or-set_other disk.content n k bytes [] other)
  ];
  torn = λ k below is. image_is_whole disk c whole crash k below;
}

-- ---- calls of the checked blocks below a disk

module _ {B A : Type 0} (past_of : B → BlocksPast) (p : Plan) (s : Held B A) where
  abbrev of_table : CrashFile → CrashState
  of_table table = sectors_of p.lead p.sectors (data_of p.blocks table)

  -- The checked blocks are these now. What they stand for, and what a crash left, are crash states of the disk as it was.
  pub record Comes (new : CheckedValue B) : Type 0 where
    pub shape : new.journal.shape ≡ p.shape
    pub blocks : new.blocks ≡ p.blocks
    pub settled : IsCrashState (disk_of past_of p s) (sectors_of p.lead p.sectors (settled_data past_of new))
    pub leaves : LeavesOnly (past_of (journal_in s).below) (past_of new.journal.below) (StandsForCrash p new.journal.offered (disk_of past_of p s))

  -- the new state keeps it, where crash states of the old disk are some of the new one
  pub comes_kept : (new : CheckedValue B) (t : Held B A) → t.checked ≡ new → Comes new
      → ((c : CrashState) → IsCrashState (disk_of past_of p s) c → IsCrashState (disk_of past_of p t) c) → IsKept past_of p t
  comes_kept new t is comes so = record {
    shape = ap (λ (c : CheckedValue B). c.journal.shape) is ∙ comes.shape;
    blocks = ap (λ (c : CheckedValue B). c.blocks) is ∙ comes.blocks;
    settled = so (sectors_of p.lead p.sectors (settled_data past_of t.checked))
        (subst (λ (c : CheckedValue B). IsCrashState (disk_of past_of p s) (sectors_of p.lead p.sectors (settled_data past_of c))) (sym is) comes.settled);
    now = λ image crash honest. so (disk_image p image)
        (at_end (past_of (journal_in s).below) (past_of new.journal.below) (StandsForCrash p new.journal.offered (disk_of past_of p s)) comes.leaves
        image (subst (λ (c : CheckedValue B). IsCrashFile (past_of c.journal.below).file image) is crash)
        (subst (λ (c : CheckedValue B). IsHonest c.journal.offered p.shape image) is honest));
  }

  module _ (kept : IsKept past_of p s) where
    settled_here : IsCrashState (disk_of past_of p s) (of_table (settled_table past_of s.checked))
    settled_here = subst (λ (b : ℕ). IsCrashState (disk_of past_of p s) (sectors_of p.lead p.sectors (data_of b (settled_table past_of s.checked)))) kept.blocks
        kept.settled

    kept_here : IsCrashState (disk_of past_of p s) (of_table (kept_table past_of s.checked))
    kept_here = subst (λ (b : ℕ). IsCrashState (disk_of past_of p s) (sectors_of p.lead p.sectors (data_of b (kept_table past_of s.checked)))) kept.blocks
        (content_is_image (disk_of past_of p s) (sectors_are_whole p.lead p.sectors (data_now past_of s.checked)))

    -- calls that only read
    read_leaves : (new : CheckedValue B) → OnlyReads (past_of (journal_in s).below) (past_of new.journal.below) → new.journal.offered ≡ (journal_in s).offered
        → LeavesOnly (past_of (journal_in s).below) (past_of new.journal.below) (StandsForCrash p new.journal.offered (disk_of past_of p s))
    read_leaves new reads offered = one_call (past_of (journal_in s).below) (past_of new.journal.below)
        (StandsForCrash p new.journal.offered (disk_of past_of p s)) reads.time here
        (λ c crash. here c (subst (λ (f : BlockFile). IsCrashFile f c) reads.file crash))
      where
        here : (c : CrashFile) → IsCrashFile (past_of (journal_in s).below).file c → StandsForCrash p new.journal.offered (disk_of past_of p s) c
        here c crash honest = kept.now c crash (subst (λ (o : List Batch). IsHonest o p.shape c) offered honest)

    -- a table that is one of the two
    one_of_two : (table : CrashFile) → (table ≡ settled_table past_of s.checked) ⊎ (table ≡ kept_table past_of s.checked)
        → IsCrashState (disk_of past_of p s) (of_table table)
    one_of_two table which = ⊎_elim
        (λ is. subst (λ (t : CrashFile). IsCrashState (disk_of past_of p s) (of_table t)) (sym is) settled_here)
        (λ is. subst (λ (t : CrashFile). IsCrashState (disk_of past_of p s) (of_table t)) (sym is) kept_here) which

    with_blocks : (new : CheckedValue B) → new.blocks ≡ p.blocks → IsCrashState (disk_of past_of p s) (of_table (settled_table past_of new))
        → IsCrashState (disk_of past_of p s) (sectors_of p.lead p.sectors (settled_data past_of new))
    with_blocks new blocks here = subst (λ (b : ℕ). IsCrashState (disk_of past_of p s) (sectors_of p.lead p.sectors (data_of b (settled_table past_of new))))
        (sym blocks) here

    pub comes_read : (new : CheckedValue B) → new.journal.shape ≡ (journal_in s).shape → new.blocks ≡ s.checked.blocks
        → settled_table past_of new ≡ settled_table past_of s.checked → new.journal.offered ≡ (journal_in s).offered
        → OnlyReads (past_of (journal_in s).below) (past_of new.journal.below) → Comes new
    comes_read new shape blocks settled offered reads = record {
      shape = shape ∙ kept.shape;
      blocks = blocks ∙ kept.blocks;
      settled = with_blocks new (blocks ∙ kept.blocks) (one_of_two (settled_table past_of new) (inl settled));
      leaves = read_leaves new reads offered;
    }

    pub comes_moved : (new : CheckedValue B) → Moves past_of s.checked new → Comes new
    comes_moved new moves = record {
      shape = moves.shape ∙ kept.shape;
      blocks = moves.blocks ∙ kept.blocks;
      settled = with_blocks new (moves.blocks ∙ kept.blocks) (one_of_two (settled_table past_of new) moves.settled);
      leaves = ⊎_elim (λ failed. read_leaves new (moves.refused failed).0 (moves.refused failed).1) good (cases_Bool (journal_in s).has_failed);
    }
      where
        good : (journal_in s).has_failed ≡ false
            → LeavesOnly (past_of (journal_in s).below) (past_of new.journal.below) (StandsForCrash p new.journal.offered (disk_of past_of p s))
        good is =
            let run = moves.any_moment is in
            record {
              later = run.later;
              kept = run.kept;
              each = λ t c from to crash honest.
                  let which = run.each t c from to crash (subst (λ (g : Shape). IsHonest new.journal.offered g c) (sym kept.shape) honest) in
                  subst (λ (g : Shape). IsCrashState (disk_of past_of p s) (of_table (recovered g c))) kept.shape
                  (one_of_two (recovered (journal_in s).shape c) which);
            }

-- ---- what a call of the checked blocks answered, and what the disk's call answers

pub through_ok : {T E F : Type 0} (P : Type 0) (done : Result T F) (r : Result Unit E) → OnOk r (is_ok done ≡ true) → OnOk done P → OnOk r P
through_ok P (Ok x) (Ok y) both h = h
through_ok P (Err e) (Ok y) both h = absurd (false≢true both)
through_ok P done (Err f) both h = tt

pub through_err : {T E F : Type 0} (P : Type 0) (done : Result T F) (r : Result Unit E) → OnErr r (is_ok done ≡ false) → OnErr done P → OnErr r P
through_err P (Ok x) (Err f) both h = absurd (true≢false both)
through_err P (Err e) (Err f) both h = h
through_err P done (Ok y) both h = tt

-- ---- the disk after a write

module _ {B A : Type 0} (past_of : B → BlocksPast) (p : Plan) (s t : Held B A) (n : ℕ) (more : t.written.items ≡ s.written.items ++ n ∷ []) where
  abbrev content : CrashState
  content = sectors_of p.lead p.sectors (data_now past_of s.checked)

  pub written_disk : (bytes : List ℕ) → sectors_of p.lead p.sectors (data_now past_of t.checked) ≡ slice_set content n bytes
      → disk_of past_of p t ≡ after_write (disk_of past_of p s) n bytes
  written_disk bytes is = λ i. record { content = is i; unsynced = flags_more s.written.items t.written.items n more i }

  -- where nothing was written, the sector holds what it held
  pub same_disk : data_now past_of t.checked ≡ data_now past_of s.checked → disk_of past_of p t ≡ after_write (disk_of past_of p s) n (sector content n)
  same_disk same = written_disk (sector content n) (ap (sectors_of p.lead p.sectors) same ∙ sym (set_same content n))
    where
      set_same : (xs : CrashState) (k : ℕ) → slice_set xs k (sector xs k) ≡ xs
      set_same xs k = set-get_or xs k []

  module _ {E : Type 0} (bytes : List ℕ) (low : n < p.sectors) (r : Result Unit E)
      (ok : OnOk r (sectors_of p.lead p.sectors (data_now past_of t.checked) ≡ slice_set content n bytes))
      (err : OnErr r (data_now past_of t.checked ≡ data_now past_of s.checked)) where
    -- whatever it answers, crash states of the disk stay crash states
    pub crash_after : (c : CrashState) → IsCrashState (disk_of past_of p s) c → IsCrashState (disk_of past_of p t) c
    crash_after c crash = from r ok err
      where
        whole : IsDiskWhole content
        whole = sectors_are_whole p.lead p.sectors (data_now past_of s.checked)

        by : (some : List ℕ) → disk_of past_of p t ≡ after_write (disk_of past_of p s) n some → IsCrashState (disk_of past_of p t) c
        by some is = subst (λ (x : Disk). IsCrashState x c) (sym is) (crash_written (disk_of past_of p s) n some c whole crash)

        from : (r : Result Unit E) → OnOk r (sectors_of p.lead p.sectors (data_now past_of t.checked) ≡ slice_set content n bytes)
            → OnErr r (data_now past_of t.checked ≡ data_now past_of s.checked) → IsCrashState (disk_of past_of p t) c
        from (Ok x) ok err = by bytes (written_disk bytes ok)
        from (Err e) ok err = by (sector content n) (same_disk err)

    pub write_failed : data_now past_of t.checked ≡ data_now past_of s.checked → IsFailedWrite (disk_of past_of p s) n (disk_of past_of p t)
    write_failed same = (
      sector content n,
      sectors_are_whole p.lead p.sectors (data_now past_of s.checked) n (omega (arith, low, length-sectors p.lead p.sectors (data_now past_of s.checked))),
      same_disk same,
    )

-- ---- the disk after a sync, and as it is opened

module _ {B A : Type 0} (past_of : B → BlocksPast) (p : Plan) where
  pub synced_disk : (s t : Held B A) → data_now past_of t.checked ≡ data_now past_of s.checked → t.written.items ≡ []
      → disk_of past_of p t ≡ after_sync (disk_of past_of p s)
  synced_disk s t same none = λ i. record { content = sectors_of p.lead p.sectors (same i); unsynced = flags_none t.written.items none i }

  -- where all was committed, and nothing was put since
  pub settled_kept : (t : Held B A) → (journal_in t).shape ≡ p.shape → t.checked.blocks ≡ p.blocks → (journal_in t).next ≡ []
      → (journal_in t).has_failed ≡ false
      → ((journal_in t).has_failed ≡ false → (image : CrashFile) → IsCrashFile (past_of (journal_in t).below).file image
      → IsHonest (journal_in t).offered (journal_in t).shape image → recovered (journal_in t).shape image ≡ settled_table past_of t.checked)
      → IsKept past_of p t
  settled_kept t shape blocks none good survives = record {
    shape = shape;
    blocks = blocks;
    settled = all;
    now = λ image crash honest.
        let is = survives good image crash (subst (λ (g : Shape). IsHonest (journal_in t).offered g image) (sym shape) honest) in
        let stands : recovered p.shape image ≡ settled_table past_of t.checked = ap (λ (g : Shape). recovered g image) (sym shape) ∙ is in
        subst (λ (l : CrashFile). IsCrashState (disk_of past_of p t) (sectors_of p.lead p.sectors (data_of p.blocks l))) (sym stands)
        (subst (λ (b : ℕ). IsCrashState (disk_of past_of p t) (sectors_of p.lead p.sectors (data_of b (settled_table past_of t.checked)))) blocks all);
  }
    where
      same : kept_table past_of t.checked ≡ settled_table past_of t.checked
      same = ap (λ (l : List Entry). replayed l (settled_table past_of t.checked)) none

      all : IsCrashState (disk_of past_of p t) (sectors_of p.lead p.sectors (settled_data past_of t.checked))
      all = subst (λ (l : CrashFile). IsCrashState (disk_of past_of p t) (sectors_of p.lead p.sectors (data_of t.checked.blocks l))) same
          (content_is_image (disk_of past_of p t) (sectors_are_whole p.lead p.sectors (data_now past_of t.checked)))

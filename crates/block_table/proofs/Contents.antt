-- What a journal's calls leave of what it keeps.
use Rattle.std.proofs.Common.{Result, Ok, Err, OnOk, OnErr, ◌≡◌, ℕ, ◌+◌, List, [], length, slice_set, sym, ◌∙◌, ap, subst, arith, length-drop}
use Rattle.sector_device.specs.DevicePast.{CountsFailure, Rises}
use Rattle.block_device.specs.Blocks.{CrashFile, BlockFile, IsCrashFile}
use Rattle.block_device.specs.BlocksPast.{BlocksPast}
use Rattle.block_device.proofs.Moments.{at_end, goes_on}
use Rattle.block_batch.specs.Batch.{Entry, replayed}
use Rattle.block_batch.proofs.Replay.{again, length-replayed}
use Rattle.block_journal.specs.declared.shape.Shape.{Shape}
use Rattle.block_journal.specs.Layout.{IsInside, kept_of, recovered}
use Rattle.block_journal.specs.Journal.{OnlyReads, StaysRecovered}
use Rattle.block_journal.specs.Value.{JournalValue, content_of, settled_of}
use Rattle.block_journal.proofs.Placing.{length-kept}
use Rattle.block_table.specs.Table.{IsFit, kept_count, table_count}
use Rattle.block_table.specs.Checked.{CheckedValue, data_now, kept_table}
use Rattle.block_table.specs.Rows.{AreNumbers, IsInStep}

module _ {B : Type 0} (past_of : B → BlocksPast) where
  -- a read leaves it
  pub content_read : (v n : JournalValue B) → n ≡ record v { below = n.below; refused = n.refused } → OnlyReads (past_of v.below) (past_of n.below)
      → content_of past_of n ≡ content_of past_of v
  content_read v n is reads =
      ap (λ (w : JournalValue B). content_of past_of w) is
      ∙ ap (λ (f : BlockFile). replayed v.next (replayed v.last.entries (kept_of v.shape f.content))) reads.file

  -- what was committed stays too
  pub settled_read : (v n : JournalValue B) → n ≡ record v { below = n.below; refused = n.refused } → OnlyReads (past_of v.below) (past_of n.below)
      → settled_of past_of n ≡ settled_of past_of v
  settled_read v n is reads =
      ap (λ (w : JournalValue B). settled_of past_of w) is
      ∙ ap (λ (f : BlockFile). replayed v.last.entries (kept_of v.shape f.content)) reads.file

  -- a block is put
  pub content_put : (v n : JournalValue B) (place : ℕ) (bytes : List ℕ) → n ≡ record v { next = n.next }
      → ((image : CrashFile) → replayed n.next image ≡ slice_set (replayed v.next image) place bytes)
      → content_of past_of n ≡ slice_set (content_of past_of v) place bytes
  content_put v n place bytes is puts =
      let same : settled_of past_of n ≡ settled_of past_of v = ap (λ (w : JournalValue B). settled_of past_of w) is in
      ap (replayed n.next) same ∙ puts (settled_of past_of v)

  -- the blocks of the last batch are gathered once more
  pub content_gathered : (v n : JournalValue B) → n ≡ record v { next = v.last.entries } → content_of past_of n ≡ settled_of past_of v
  content_gathered v n is =
      ap (λ (w : JournalValue B). content_of past_of w) is
      ∙ again v.last.entries (kept_of v.shape (past_of v.below).file.content)

  -- a commit, done or failed
  pub content_commit : {E : Type 0} (v n : JournalValue B) (r : Result Unit E) → OnOk r (settled_of past_of n ≡ content_of past_of v) → OnOk r (n.next ≡ [])
      → OnErr r (settled_of past_of n ≡ settled_of past_of v) → OnErr r (n.next ≡ v.next) → content_of past_of n ≡ content_of past_of v
  content_commit v n (Ok x) ok none err kept = ap (λ (l : List Entry). replayed l (settled_of past_of n)) none ∙ ok
  content_commit v n (Err e) ok none err kept =
      ap (λ (l : List Entry). replayed l (settled_of past_of n)) kept ∙ ap (replayed v.next) err

  pub length-content : (v : JournalValue B) → IsInside v.shape (past_of v.below).file.content → length (content_of past_of v) ≡ v.shape.kept
  length-content v inside =
      length-replayed v.next (settled_of past_of v)
      ∙ length-replayed v.last.entries (kept_of v.shape (past_of v.below).file.content)
      ∙ length-kept v.shape (past_of v.below).file.content inside

  pub length-data : (c : CheckedValue B) → IsInside c.journal.shape (past_of c.journal.below).file.content → c.journal.shape.kept ≡ kept_count c.blocks
      → length (data_now past_of c) ≡ c.blocks
  length-data c inside kept = omega (arith, length-drop (table_count c.blocks) (kept_table past_of c), length-content c.journal inside, kept)

  -- the rows stay in step with what stays
  pub step_same : (v n : JournalValue B) (rows : List (List ℕ)) (known blocks : ℕ) → IsInStep past_of v rows known blocks → n.shape ≡ v.shape
      → content_of past_of n ≡ content_of past_of v → IsInStep past_of n rows known blocks
  step_same v n rows known blocks step shape same = record {
    kept = ap (λ (g : Shape). g.kept) shape ∙ step.kept;
    small = step.small;
    count = step.count;
    numbers = subst (λ (image : CrashFile). AreNumbers image rows (table_count blocks)) (sym same) step.numbers;
    low = step.low;
    fitting = λ k below. subst (λ (image : CrashFile). IsFit blocks image k) (sym same) (step.fitting k below);
  }

-- what a crash leaves stays, behind a read
pub stays_read : (g : Shape) (old mid new : BlocksPast) → StaysRecovered g old mid → OnlyReads mid new → StaysRecovered g old new
stays_read g old mid new stays reads = goes_on old mid new (λ c. recovered g c ≡ recovered g old.file.content) stays reads.time
    (λ c crash. at_end old mid (λ c. recovered g c ≡ recovered g old.file.content) stays c (subst (λ (f : BlockFile). IsCrashFile f c) reads.file crash))

-- two puts, one behind the other
pub two_puts : {B : Type 0} (v m n : JournalValue B) → m ≡ record v { next = m.next } → n ≡ record m { next = n.next } → n ≡ record v { next = n.next }
two_puts {B} v m n first second = second ∙ ap (λ (w : JournalValue B). record w { next = n.next }) first

-- one read behind another
pub journal_then : {B : Type 0} (v m n : JournalValue B) → m ≡ record v { below = m.below } → n ≡ record m { below = n.below }
    → n ≡ record v { below = n.below }
journal_then {B} v m n first second = second ∙ ap (λ (w : JournalValue B). record w { below = n.below }) first

-- the count of failures of a read that was not refused
pub good_counts : {E : Type 0} (below refused again now : ℕ) (r : Result Unit E) → now ≡ refused → CountsFailure (below + refused) (again + now) r
    → OnErr r (Rises below again) → CountsFailure below again r
good_counts below refused again now (Ok x) same counts rises =
    record { later = omega (arith, counts.later, same); none = omega (arith, counts.none, same); failed = tt }
good_counts below refused again now (Err e) same counts rises = record { later = omega (arith, counts.later, same); none = tt; failed = rises }

-- ---- checked blocks that are read

-- a read changes nothing but the past of the file, and how many calls were refused
abbrev pub AsRead : {B : Type 0} → CheckedValue B → CheckedValue B → Type 0
AsRead c n = n ≡ record c { journal = record c.journal { below = n.journal.below; refused = n.journal.refused } }

pub table_read : {B : Type 0} (past_of : B → BlocksPast) (c n : CheckedValue B) → AsRead c n → OnlyReads (past_of c.journal.below) (past_of n.journal.below)
    → kept_table past_of n ≡ kept_table past_of c
table_read {B} past_of c n is reads = content_read past_of c.journal n.journal (ap (λ (x : CheckedValue B). x.journal) is) reads

-- one read behind another
pub read_then : {B : Type 0} (c m n : CheckedValue B) → AsRead c m → AsRead m n → AsRead c n
read_then {B} c m n first second = second ∙ ap (λ (x : CheckedValue B). record x {
  journal = record x.journal { below = n.journal.below; refused = n.journal.refused };
}) first

-- What calls of checked blocks leave, one after the other.
use Rattle.std.proofs.Common.{Result, Ok, Err, OnOk, OnErr, ◌≡◌, ◌⊎◌, inl, inr, ⊎_elim, ℕ, ◌%◌, true, false, List, [], Some, refl, sym, ◌∙◌}
use Rattle.std.proofs.Common.{ap, subst}
use Rattle.block_device.specs.Blocks.{CrashFile, BlockFile, IsCrashFile, IsSynced}
use Rattle.block_device.specs.BlocksPast.{BlocksPast, LeavesOnly}
use Rattle.block_device.proofs.Moments.{at_end, goes_on, started}
use Rattle.block_batch.specs.Batch.{Batch, Entry, replayed}
use Rattle.block_journal.specs.Layout.{IsHonest, IsInside, found, recovered}
use Rattle.block_journal.specs.Journal.{KeepsBatch, LeavesBefore, OnlyReads}
use Rattle.block_journal.specs.Value.{JournalValue, LeavesEither, Offers}
use Rattle.block_journal.proofs.Before.{before_read, none_before}
use Rattle.block_journal.proofs.Keeping.{batch_read, none_batch}
use Rattle.block_journal.proofs.OnlyReading.{reads_none, reads_then}
use Rattle.block_table.specs.Checked.{CheckedValue, CountsRead, kept_table, settled_table}
use Rattle.block_table.specs.declared.checked.ReadError.{ReadError}
use Rattle.block_file.specs.Moves.{Moves}
use Rattle.block_file.proofs.Heading.{offers_one}

module _ {B : Type 0} (past_of : B → BlocksPast) where
  abbrev file_of : CheckedValue B → BlocksPast
  file_of c = past_of c.journal.below

  -- a commit
  pub moves_commit : {E : Type 0} (old new : CheckedValue B) (r : Result Unit E) → new.journal.shape ≡ old.journal.shape → new.blocks ≡ old.blocks
      → OnOk r (settled_table past_of new ≡ kept_table past_of old) → OnErr r (settled_table past_of new ≡ settled_table past_of old)
      → (old.journal.has_failed ≡ false → LeavesEither past_of old.journal new.journal)
      → Offers old.journal new.journal → (old.journal.has_failed ≡ false → LeavesBefore old.journal.shape (file_of old) (file_of new))
      → (old.journal.has_failed ≡ false → KeepsBatch old.journal.shape old.journal.last (file_of old) (file_of new))
      → (old.journal.has_failed ≡ true → new.journal ≡ record old.journal { refused = new.journal.refused }) → Moves past_of old new
  moves_commit old new r shape blocks ok err any_moment offers before holds refused = record {
    shape = shape;
    blocks = blocks;
    settled = either r ok err;
    any_moment = any_moment;
    offers = offers_one old.journal new.journal offers;
    before = before;
    holds = holds;
    refused = λ failed. (
      subst (OnlyReads (file_of old)) (sym (ap (λ (v : JournalValue B). past_of v.below) (refused failed))) (reads_none (file_of old)),
      ap (λ (v : JournalValue B). v.offered) (refused failed),
    );
  }
    where
      either : {E : Type 0} (r : Result Unit E) → OnOk r (settled_table past_of new ≡ kept_table past_of old)
          → OnErr r (settled_table past_of new ≡ settled_table past_of old)
          → (settled_table past_of new ≡ settled_table past_of old) ⊎ (settled_table past_of new ≡ kept_table past_of old)
      either (Ok x) ok err = inr ok
      either (Err e) ok err = inl err

  -- a commit, done or failed, leaves what is kept
  pub kept_commit : {E : Type 0} (old new : CheckedValue B) (r : Result Unit E) → OnOk r (settled_table past_of new ≡ kept_table past_of old)
      → OnOk r (new.journal.next ≡ []) → OnErr r (settled_table past_of new ≡ settled_table past_of old) → OnErr r (new.journal.next ≡ old.journal.next)
      → kept_table past_of new ≡ kept_table past_of old
  kept_commit old new (Ok x) ok none err kept = ap (λ (l : List Entry). replayed l (settled_table past_of new)) none ∙ ok
  kept_commit old new (Err e) ok none err kept =
      ap (λ (l : List Entry). replayed l (settled_table past_of new)) kept ∙ ap (replayed old.journal.next) err

  -- no call
  pub moves_none : (c : CheckedValue B) → (c.journal.has_failed ≡ false → (image : CrashFile) → IsCrashFile (file_of c).file image
      → IsHonest c.journal.offered c.journal.shape image → recovered c.journal.shape image ≡ settled_table past_of c)
      → (c.journal.has_failed ≡ false → IsSynced (file_of c).file) → IsInside c.journal.shape (file_of c).file.content
      → (c.journal.has_failed ≡ false → found c.journal.shape (file_of c).file.content (c.journal.last.number % 2) ≡ Some c.journal.last)
      → Moves past_of c c
  moves_none c survives synced inside here = record {
    shape = refl;
    blocks = refl;
    settled = inl refl;
    offers = inl refl;
    before = λ good. none_before c.journal.shape (file_of c) (synced good);
    holds = λ good. none_batch c.journal.shape c.journal.last (file_of c) inside (here good) (synced good);
    any_moment = λ good. started (file_of c) (λ image. IsHonest c.journal.offered c.journal.shape image
        → (recovered c.journal.shape image ≡ settled_table past_of c) ⊎ (recovered c.journal.shape image ≡ kept_table past_of c))
        (λ image crash honest. inl (survives good image crash honest));
    refused = λ failed. (reads_none (file_of c), refl);
  }

  -- calls that only read, and a put, behind it
  pub moves_then : (old mid new : CheckedValue B) → Moves past_of old mid → new.journal.shape ≡ mid.journal.shape → new.blocks ≡ mid.blocks
      → new.journal.offered ≡ mid.journal.offered → settled_table past_of new ≡ settled_table past_of mid → OnlyReads (file_of mid) (file_of new)
      → Moves past_of old new
  moves_then old mid new first shape blocks offered settled reads = record {
    shape = shape ∙ first.shape;
    blocks = blocks ∙ first.blocks;
    settled = ⊎_elim (λ is. inl (settled ∙ is)) (λ is. inr (settled ∙ is)) first.settled;
    offers = ⊎_elim (λ is. inl (offered ∙ is)) (λ is. inr (offered ∙ is)) first.offers;
    before = λ good. before_read old.journal.shape (file_of old) (file_of mid) (file_of new) (first.before good) reads;
    holds = λ good. batch_read old.journal.shape old.journal.last (file_of old) (file_of mid) (file_of new) (first.holds good) reads;
    any_moment = λ good. subst (λ (o : List Batch). LeavesOnly (file_of old) (file_of new) (either o)) (sym offered)
        (goes_on (file_of old) (file_of mid) (file_of new) (either mid.journal.offered) (first.any_moment good) reads.time
        (λ c crash. at_end (file_of old) (file_of mid) (either mid.journal.offered) (first.any_moment good) c
        (subst (λ (f : BlockFile). IsCrashFile f c) reads.file crash)));
    refused = λ failed. (reads_then (file_of old) (file_of mid) (file_of new) (first.refused failed).0 reads, offered ∙ (first.refused failed).1);
  }
    where
      either : List Batch → CrashFile → Type 0
      either offered c = IsHonest offered old.journal.shape c
          → (recovered old.journal.shape c ≡ settled_table past_of old) ⊎ (recovered old.journal.shape c ≡ kept_table past_of old)

-- the count of failures, behind calls that succeeded
pub read_later : {T : Type 0} (a b c : ℕ) (r : Result T ReadError) → b ≡ a → CountsRead b c r → CountsRead a c r
read_later a b c r same counts = subst (λ (k : ℕ). CountsRead k c r) same counts

-- what a read, and a block that is put, leave
module _ {B T : Type 0} (old new : CheckedValue B) (f : CheckedValue B → T) where
  pub read_same : new ≡ record old { journal = record old.journal { below = new.journal.below; refused = new.journal.refused } }
      → f new ≡ f (record old { journal = record old.journal { below = new.journal.below; refused = new.journal.refused } })
  read_same is = ap f is

  pub put_same : new ≡ record old { journal = record old.journal { next = new.journal.next } }
      → f new ≡ f (record old { journal = record old.journal { next = new.journal.next } })
  put_same is = ap f is

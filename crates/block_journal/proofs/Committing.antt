-- What a journal is once a batch is committed, and what a crash leaves of one that is ready.
use Rattle.std.proofs.Common.{◌≡◌, ◌⊎◌, inl, ⊎_elim, ℕ, ◌+◌, ◌%◌, List, [], ◌∷◌, ◌++◌, refl, sym, ◌∙◌, subst, arith}
use Rattle.block_device.specs.Blocks.{CrashFile, BlockFile, IsCrashFile, IsSynced}
use Rattle.block_device.specs.BlocksPast.{BlocksPast, LeavesOnly, RunsWithin}
use Rattle.block_device.proofs.CrashFiles.{crash_outside}
use Rattle.block_device.proofs.Moments.{started}
use Rattle.block_batch.specs.Batch.{Batch, replayed}
use Rattle.block_batch.specs.Replay.{AreOffered}
use Rattle.block_batch.proofs.Replay.{again, cut_off}
use Rattle.block_journal.specs.declared.shape.Shape.{Shape}
use Rattle.block_journal.specs.Layout.{kept_of, recovered, IsHonest}
use Rattle.block_journal.specs.Journal.{AreKnown, IsWritten, MayWrite, StandsFor}
use Rattle.block_journal.specs.Value.{JournalValue, IsReady, LeavesEither, content_of, next_batch, settled_of}
use Rattle.block_journal.proofs.Crash.{crash_of_commit, kept_agrees}
use Rattle.block_journal.proofs.Honest.{honest_next}
use Rattle.block_journal.proofs.Next.{now_offered, now_known, now_committed}
use Rattle.block_journal.proofs.Placing.{synced_all}

-- a batch that follows the last one is as good as offered
not_offered : (offered : List Batch) (last next : Batch) (settled : CrashFile) → AreKnown offered last settled → next.number ≡ last.number + 1
    → AreOffered offered last next settled
not_offered offered last next settled known follows = record {
  follows = follows;
  none_later = λ x has. omega (arith, known.none_later x has, follows);
  is_next = λ x has same. absurd (omega (arith, known.none_later x has, follows, same));
  is_last = known.is_last;
  before = known.before;
}

module _ {B : Type 0} (past_of : B → BlocksPast) (old : JournalValue B) (ready : IsReady past_of old) where
  abbrev pub file : BlockFile
  file = (past_of old.below).file

  -- what was settled is replayed to itself
  pub settled_again : replayed old.last.entries (settled_of past_of old) ≡ settled_of past_of old
  settled_again = again old.last.entries (kept_of old.shape file.content)

  -- what a crash leaves now stands for the settled blocks
  pub ready_stands : (c : CrashFile) → IsCrashFile file c → IsHonest old.offered old.shape c → recovered old.shape c ≡ settled_of past_of old
  ready_stands c crash honest =
      let next : Batch = record { number = old.last.number + 1; entries = old.last.entries } in
      let S : ℕ → Type 0 = MayWrite old.shape (next.number % 2) old.last.entries in
      ⊎_elim (λ is. is) (λ is. is ∙ settled_again)
      (crash_of_commit old.shape file.content c (settled_of past_of old) old.last next old.offered ready.stands
      (not_offered old.offered old.last next (settled_of past_of old) ready.known refl)
      (crash_outside S file.content file c (synced_all S file ready.synced) crash) honest)

  -- no call was made
  pub nothing_left : (new : JournalValue B) → new.below ≡ old.below → new.offered ≡ old.offered → LeavesEither past_of old new
  nothing_left new same offered = subst
      (λ (b : B). LeavesOnly (past_of old.below) (past_of b) (λ c. IsHonest new.offered old.shape c
      → (recovered old.shape c ≡ settled_of past_of old) ⊎ (recovered old.shape c ≡ content_of past_of old)))
      (sym same)
      (started (past_of old.below) (λ c. IsHonest new.offered old.shape c
      → (recovered old.shape c ≡ settled_of past_of old) ⊎ (recovered old.shape c ≡ content_of past_of old))
      (λ c crash honest. inl (ready_stands c crash (subst (λ (o : List Batch). IsHonest o old.shape c) offered honest))))

  -- calls were made that write only what a commit may write
  module _ (new : JournalValue B) (offered : new.offered ≡ old.offered ++ next_batch old ∷ [])
      (within : RunsWithin (MayWrite old.shape ((old.last.number + 1) % 2) old.last.entries) file.content (past_of old.below) (past_of new.below)) where
    pub either_left : LeavesEither past_of old new
    either_left = record {
      later = within.run.later;
      kept = within.run.kept;
      each = λ t c from to crash honest.
          crash_of_commit old.shape file.content c (settled_of past_of old) old.last (next_batch old) (old.offered ++ next_batch old ∷ []) ready.stands
          (now_offered old.offered old.last (next_batch old) (settled_of past_of old) ready.known refl) (within.run.each t c from to crash)
          (subst (λ (o : List Batch). IsHonest o old.shape c) offered honest);
    }

    -- and what was settled stays
    pub settled_stays : new.last ≡ old.last → new.shape ≡ old.shape → settled_of past_of new ≡ settled_of past_of old
    settled_stays last shape =
        let same : settled_of past_of new ≡ replayed old.last.entries (kept_of old.shape (past_of new.below).file.content) =
        λ i. replayed (last i).entries (kept_of (shape i) (past_of new.below).file.content) in
        same
        ∙ cut_off old.last.entries (kept_of old.shape file.content) (kept_of old.shape (past_of new.below).file.content)
        (kept_agrees old.shape file.content (past_of new.below).file.content ((old.last.number + 1) % 2) old.last.entries ready.stands.inside (omega arith)
        within.now.content)

    -- the batch is committed
    module _ (written : IsWritten old.shape (past_of new.below).file.content (next_batch old) (settled_of past_of old)) (shape : new.shape ≡ old.shape)
        (last : new.last ≡ next_batch old) where
      pub settled_next : settled_of past_of new ≡ content_of past_of old
      settled_next =
          let same : settled_of past_of new ≡ replayed old.next (kept_of old.shape (past_of new.below).file.content) =
          λ i. replayed (last i).entries (kept_of (shape i) (past_of new.below).file.content) in
          same
          ∙ cut_off old.next (settled_of past_of old) (kept_of old.shape (past_of new.below).file.content) written.placed

      pub ready_next : IsSynced (past_of new.below).file → IsReady past_of new
      ready_next synced = record {
        stands = subst (λ (s : CrashFile). StandsFor new.shape (past_of new.below).file.content new.last s) (sym settled_next) stands_next;
        known = subst (λ (s : CrashFile). AreKnown new.offered new.last s) (sym settled_next) known_next;
        honest = honest_now;
        synced = synced;
      }
        where
          stands_old : StandsFor old.shape (past_of new.below).file.content (next_batch old) (content_of past_of old)
          stands_old = record {
            inside = written.inside;
            here = written.here;
            committed = now_committed (next_batch old) (settled_of past_of old) (kept_of old.shape (past_of new.below).file.content) written.placed;
          }

          stands_next : StandsFor new.shape (past_of new.below).file.content new.last (content_of past_of old)
          stands_next =
              subst (λ (b : Batch). StandsFor new.shape (past_of new.below).file.content b (content_of past_of old)) (sym last)
              (subst (λ (g : Shape). StandsFor g (past_of new.below).file.content (next_batch old) (content_of past_of old)) (sym shape) stands_old)

          honest_now : IsHonest new.offered new.shape (past_of new.below).file.content
          honest_now =
              subst (λ (g : Shape). IsHonest new.offered g (past_of new.below).file.content) (sym shape)
              (subst (λ (o : List Batch). IsHonest o old.shape (past_of new.below).file.content) (sym offered)
              (honest_next old.shape file.content (past_of new.below).file.content old.last (next_batch old) old.offered ready.stands.inside
              within.now.content written.here ready.honest))

          known_next : AreKnown new.offered new.last (content_of past_of old)
          known_next =
              subst (λ (b : Batch). AreKnown new.offered b (content_of past_of old)) (sym last)
              (subst (λ (o : List Batch). AreKnown o (next_batch old) (content_of past_of old)) (sym offered)
              (now_known old.offered old.last (next_batch old) (settled_of past_of old) ready.known refl settled_again))

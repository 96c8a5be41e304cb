-- Runs of calls that write within a set of blocks.
use Rattle.std.proofs.Common.{◌≡◌, ℕ, length, Result, Ok, Err, OnOk, OnErr, refl, sym, subst}
use Rattle.sector_device.specs.declared.device.Failed.{Failed}
use Rattle.block_device.specs.Blocks.{CrashFile, BlockFile, InRun, after_write, after_sync, IsFailedWrite, SyncedOutside, SameOutside}
use Rattle.block_device.specs.BlocksPast.{BlocksPast, Elapses, RunsWithin}
use Rattle.block_device.proofs.CrashFiles.{crash_outside, written_outside, synced_outside}
use Rattle.block_device.proofs.Moments.{started, goes_on}

-- what holds after each write of a run holds after one that was done or failed
pub holds_after_write : (Q : BlockFile → Type 0) (old : BlockFile) (first : ℕ) (run : CrashFile) (new : BlockFile) (result : Result Unit Failed)
    → OnOk result (new ≡ after_write old first run) → OnErr result (IsFailedWrite old first (length run) new)
    → ((some : CrashFile) → length some ≡ length run → Q (after_write old first some)) → Q new
holds_after_write Q old first run new (Ok x) ok err after = subst Q (sym ok) (after run refl)
holds_after_write Q old first run new (Err e) ok err after = subst Q (sym err.3) (after err.0 err.1)

-- what holds before and after a sync holds after one that was done or failed
pub holds_after_sync : (Q : BlockFile → Type 0) (old new : BlockFile) (result : Result Unit Failed) → OnOk result (new ≡ after_sync old)
    → OnErr result (new ≡ old) → Q old → Q (after_sync old) → Q new
holds_after_sync Q old new (Ok x) ok err before after = subst Q (sym ok) after
holds_after_sync Q old new (Err e) ok err before after = subst Q (sym err) before

-- before the first call
pub within_start : (S : ℕ → Type 0) (image : CrashFile) (h : BlocksPast) → SyncedOutside S image h.file → RunsWithin S image h h
within_start S image h outside = record {
  now = outside;
  run = started h (SameOutside S image) (λ c crash. crash_outside S image h.file c outside crash);
}

module _ (S : ℕ → Type 0) (image : CrashFile) (old mid new : BlocksPast) (so_far : RunsWithin S image old mid) (time : Elapses mid new) where
  pub within_now : SyncedOutside S image new.file → RunsWithin S image old new
  within_now now = record { now = now; run = goes_on old mid new (SameOutside S image) so_far.run time (λ c crash. crash_outside S image new.file c now crash) }

  -- one write more, done or failed
  pub within_write : (first : ℕ) (run : CrashFile) (result : Result Unit Failed) → ((n : ℕ) → InRun first (length run) n → S n)
      → OnOk result (new.file ≡ after_write mid.file first run) → OnErr result (IsFailedWrite mid.file first (length run) new.file) → RunsWithin S image old new
  within_write first run result inside ok err = within_now
      (holds_after_write (SyncedOutside S image) mid.file first run new.file result ok err
      (λ some size. written_outside S image mid.file first some (λ n within. inside n (subst (λ m. InRun first m n) size within)) so_far.now))

  -- one sync more, done or failed
  pub within_sync : (result : Result Unit Failed) → OnOk result (new.file ≡ after_sync mid.file) → OnErr result (new.file ≡ mid.file)
      → RunsWithin S image old new
  within_sync result ok err = within_now (holds_after_sync (SyncedOutside S image) mid.file new.file result ok err so_far.now
      (synced_outside S image mid.file so_far.now))

  -- one read more
  pub within_same : new.file ≡ mid.file → RunsWithin S image old new
  within_same same = within_now (subst (SyncedOutside S image) (sym same) so_far.now)

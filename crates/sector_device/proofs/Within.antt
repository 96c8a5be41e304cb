-- Runs of calls that write within a set of sectors, and runs that only read.
use Rattle.std.proofs.Common.{◌≡◌, ◌⊎◌, inl, inr, ⊎_elim, ℕ, true, List, Result, OnOk, OnErr, refl, sym, ◌∙◌, subst, arith}
use Rattle.std.proofs.lemmas.Bool.{cases_lt}
use Rattle.sector_device.specs.declared.device.Failed.{Failed}
use Rattle.sector_device.specs.Disk.{CrashState, after_write, after_sync, IsFailedWrite, IsSynced, IsCrashState, SameOutside, SyncedOutside}
use Rattle.sector_device.specs.DevicePast.{DevicePast, Elapses, LeavesOnly, RunsWithin, OnlyReads}
use Rattle.sector_device.proofs.Moments.{started, one_call, goes_on}
use Rattle.sector_device.proofs.Sectors.{holds_after_write, holds_after_sync, written_outside, synced_outside, crash_outside, outside_synced, outside_unsynced}

within_here : (S : ℕ → Type 0) (h : DevicePast) → SyncedOutside S h.disk.content h.disk → RunsWithin S h.disk.content h h
within_here S h outside = record {
  now = outside;
  run = started h (SameOutside S h.disk.content) (λ c crash. crash_outside S h.disk.content h.disk c outside crash);
}

-- before the first call, with whatever is unsynced
pub within_start_unsynced : (S : ℕ → Type 0) (h : DevicePast) → RunsWithin (λ n. S n ⊎ (h.disk.unsynced n ≡ true)) h.disk.content h h
within_start_unsynced S h = within_here (λ n. S n ⊎ (h.disk.unsynced n ≡ true)) h (outside_unsynced S h.disk)

module _ (S : ℕ → Type 0) (image : CrashState) (old mid new : DevicePast) (so_far : RunsWithin S image old mid) (time : Elapses mid new) where
  pub within_now : SyncedOutside S image new.disk → RunsWithin S image old new
  within_now now = record { now = now; run = goes_on old mid new (SameOutside S image) so_far.run time (λ c crash. crash_outside S image new.disk c now crash) }

  -- one write more, done or failed
  pub within_write : (n : ℕ) (bytes : List ℕ) (result : Result Unit Failed) → S n → OnOk result (new.disk ≡ after_write mid.disk n bytes)
      → OnErr result (IsFailedWrite mid.disk n new.disk) → RunsWithin S image old new
  within_write n bytes result inside ok err = within_now
      (holds_after_write (SyncedOutside S image) mid.disk n bytes new.disk result ok err (λ b. written_outside S image mid.disk n b inside so_far.now))

  -- one sync more, done or failed
  pub within_sync : (result : Result Unit Failed) → OnOk result (new.disk ≡ after_sync mid.disk) → OnErr result (new.disk ≡ mid.disk)
      → RunsWithin S image old new
  within_sync result ok err = within_now (holds_after_sync (SyncedOutside S image) mid.disk new.disk result ok err so_far.now
      (synced_outside S image mid.disk so_far.now))

  -- one read more
  pub within_same : new.disk ≡ mid.disk → RunsWithin S image old new
  within_same same = within_now (subst (SyncedOutside S image) (sym same) so_far.now)

-- no call
pub reads_none : (h : DevicePast) → OnlyReads h h
reads_none h = record {
  disk = refl;
  time = record {
    later = omega arith;
    kept = λ t le. refl;
    during = λ t from to.
        inl (let same : t ≡ h.moment = omega arith in subst (λ u. h.disk_at u ≡ h.disk) (sym same) h.now);
  };
}

-- one run of reads after another
pub reads_then : (a b c : DevicePast) → OnlyReads a b → OnlyReads b c → OnlyReads a c
reads_then a b c p q = record {
  disk = q.disk ∙ p.disk;
  time = record {
    later = omega (arith, p.time.later, q.time.later);
    kept = λ t le. q.time.kept t (omega (arith, le, p.time.later)) ∙ p.time.kept t le;
    during = λ t from to. inl (⊎_elim
        (λ early. q.time.kept t (omega (arith, early)) ∙ one (p.time.during t from (omega (arith, early))))
        (λ late. ⊎_elim (λ is. is ∙ p.disk) (λ is. is ∙ q.disk ∙ p.disk) (q.time.during t late to))
        (cases_lt t b.moment));
  };
}
  where
    one : {t : ℕ} → (b.disk_at t ≡ a.disk) ⊎ (b.disk_at t ≡ b.disk) → b.disk_at t ≡ a.disk
    one (inl is) = is
    one (inr is) = is ∙ p.disk

-- one read more
pub reads_more : (a b c : DevicePast) → OnlyReads a b → c.disk ≡ b.disk → Elapses b c → OnlyReads a c
reads_more a b c reads same time = reads_then a b c reads (record { disk = same; time = time })

-- while nothing is written, a crash leaves what it left before
pub reads_leave : (old new : DevicePast) (P : CrashState → Type 0) → OnlyReads old new → ((c : CrashState) → IsCrashState old.disk c → P c)
    → LeavesOnly old new P
reads_leave old new P reads here = one_call old new P reads.time here (λ c crash. here c (subst (λ d. IsCrashState d c) reads.disk crash))

-- The half that isn't current is written.
use Rattle.std.proofs.Common.{◌≡◌, ◌⊎◌, ⊎_elim, inl, inr, ℕ, true}
use Rattle.sector_device.specs.Disk.{CrashState, SameOutside}
use Rattle.sector_device.specs.DevicePast.{DevicePast, RunsWithin}
use Rattle.sector_device.proofs.Moments.{weaker}
use Rattle.sector_device.proofs.Sectors.{same_outside_wider, synced_outside_wider}

-- what lies within some sectors lies within more
pub within_more : (P S : ℕ → Type 0) (image : CrashState) (old new : DevicePast) → ((n : ℕ) → P n → S n)
    → RunsWithin (λ n. P n ⊎ (old.disk.unsynced n ≡ true)) image old new → RunsWithin (λ n. S n ⊎ (old.disk.unsynced n ≡ true)) image old new
within_more P S image old new inside run = record {
  now = synced_outside_wider narrow wide image new.disk more run.now;
  run = weaker old new (SameOutside narrow image) (SameOutside wide image) (λ c same. same_outside_wider narrow wide image c more same) run.run;
}
  where
    narrow : ℕ → Type 0
    narrow n = P n ⊎ (old.disk.unsynced n ≡ true)

    wide : ℕ → Type 0
    wide n = S n ⊎ (old.disk.unsynced n ≡ true)

    more : (n : ℕ) → narrow n → wide n
    more n is = ⊎_elim (λ part. inl (inside n part)) (λ old_one. inr old_one) is

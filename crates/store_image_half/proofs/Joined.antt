-- Parts of an image are written one after another.
use Rattle.std.specs.Prelude.{is_err}
use Rattle.std.proofs.Common.{◌≡◌, ◌⊎◌, inl, inr, ℕ, true, false, List, Result, Ok, Err, OnOk, OnErr, refl, sym, ◌∙◌, arith}
use Rattle.std.proofs.lemmas.Bool.{false≢true}
use Rattle.sector_device.specs.declared.device.Failed.{Failed}
use Rattle.sector_device.specs.Disk.{CrashState, after_write, IsFailedWrite, SameOutside}
use Rattle.sector_device.specs.DevicePast.{DevicePast, CountsFailure, Elapses, RunsWithin}
use Rattle.sector_device.proofs.Moments.{joined, weaker}
use Rattle.sector_device.proofs.Sectors.{content_after, same_outside_then, same_outside_wider}
use Rattle.sector_device.proofs.Within.{within_start_unsynced, within_write}
use Rattle.store_image_half.specs.Steps.{WritesIn}

pub writes_none : (S : ℕ → Type 0) (h : DevicePast) → WritesIn S h h
writes_none S h = record { outside = record { sectors = refl; same = λ k out. refl }; within = within_start_unsynced S h }

module _ (S P : ℕ → Type 0) (image : CrashState) (old mid new : DevicePast) (inside : (n : ℕ) → P n → S n) where
  run_then : RunsWithin S image old mid → RunsWithin (λ n. P n ⊎ (mid.disk.unsynced n ≡ true)) mid.disk.content mid new → RunsWithin S image old new
  run_then so_far part = record {
    now = record { content = outside_then new.disk.content part.now.content; synced = λ k out. part.now.synced k (apart k out) };
    run = joined old mid new (SameOutside S image) so_far.run
        (weaker mid new (SameOutside (λ n. P n ⊎ (mid.disk.unsynced n ≡ true)) mid.disk.content) (SameOutside S image) outside_then part.run);
  }
    where
      apart : (k : ℕ) → ¬ S k → ¬ (P k ⊎ (mid.disk.unsynced k ≡ true))
      apart k out (inl is) = out (inside k is)
      apart k out (inr is) = false≢true (sym (so_far.now.synced k out) ∙ is)

      outside_then : (c : CrashState) → SameOutside (λ n. P n ⊎ (mid.disk.unsynced n ≡ true)) mid.disk.content c → SameOutside S image c
      outside_then c same = record {
        sectors = same.sectors ∙ so_far.now.content.sectors;
        same = λ k out. same.same k (apart k out)
            ∙ so_far.now.content.same k out;
      }

-- one part more, of sectors in S
pub writes_then : (S P : ℕ → Type 0) (old mid new : DevicePast) → ((n : ℕ) → P n → S n) → WritesIn S old mid → WritesIn P mid new → WritesIn S old new
writes_then S P old mid new inside so_far part = record {
  outside = same_outside_then S old.disk.content mid.disk.content new.disk.content so_far.outside
      (same_outside_wider P S mid.disk.content new.disk.content inside part.outside);
  within = run_then (λ n. S n ⊎ (old.disk.unsynced n ≡ true)) P old.disk.content old mid new (λ n is. inl (inside n is)) so_far.within part.within;
}

-- a wider set
pub writes_wider : (S P : ℕ → Type 0) (old new : DevicePast) → ((n : ℕ) → P n → S n) → WritesIn P old new → WritesIn S old new
writes_wider S P old new inside part = writes_then S P old old new inside (writes_none S old) part

-- one sector more, written or not
pub writes_one : (S : ℕ → Type 0) (old mid new : DevicePast) (n : ℕ) (bytes : List ℕ) (result : Result Unit Failed) → S n → Elapses mid new
    → OnOk result (new.disk ≡ after_write mid.disk n bytes) → OnErr result (IsFailedWrite mid.disk n new.disk) → WritesIn S old mid → WritesIn S old new
writes_one S old mid new n bytes result inside time ok err so_far = record {
  outside = content_after S old.disk.content mid.disk n bytes new.disk result ok err inside so_far.outside;
  within = within_write (λ k. S k ⊎ (old.disk.unsynced k ≡ true)) old.disk.content old mid new so_far.within time n bytes result (inl inside) ok err;
}

-- two facts of a success
pub on_ok_both : {T E P Q R : Type 0} (r : Result T E) → (P → Q → R) → OnOk r P → OnOk r Q → OnOk r R
on_ok_both (Ok x) f p q = f p q
on_ok_both (Err e) f p q = tt

pub from_ok : {T E : Type 0} (P : Type 0) (r : Result T E) → is_err r ≡ false → OnOk r P → P
from_ok P (Ok x) is h = h
from_ok P (Err e) is h = absurd cc

pub from_err : {T E : Type 0} (P : Type 0) (r : Result T E) → is_err r ≡ true → OnErr r P → P
from_err P (Ok x) is h = absurd cc
from_err P (Err e) is h = h

-- ---- how often the device failed

-- none failed
pub counts_none : {T E : Type 0} (a b : ℕ) (x : T) → b ≡ a → CountsFailure {T = T} {E = E} a b (Ok x)
counts_none a b x same = record { later = omega (arith, same); none = same; failed = tt }

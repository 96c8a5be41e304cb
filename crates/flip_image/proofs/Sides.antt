-- The two halves of a store, and the sectors in front of them, for proofs in the crates above.
use Rattle.std.proofs.Common.{Result, OnOk, OnErr, ◌≡◌, ◌⊎◌, inl, inr, ⊎_elim, ℕ, ◌<◌, ◌≤◌, Bool, true, false, List, length, slice_index, refl, sym, ap, subst}
use Rattle.std.proofs.Common.{◌∙◌, arith}
use Rattle.std.proofs.lemmas.Bool.{cases_eq}
use Rattle.sector_device.specs.declared.device.Failed.{Failed}
use Rattle.sector_device.specs.Disk.{CrashState, Disk, sector, after_write, after_sync, IsFailedWrite, IsSynced, IsCrashState, SameOutside}
use Rattle.sector_device.specs.DevicePast.{DevicePast, Elapses, LeavesOnly}
use Rattle.sector_device.proofs.Moments.{one_call, write_goes_on, sync_goes_on}
use Rattle.sector_device.proofs.Sectors.{outside_synced, written_outside, crash_outside, crash_synced}
use Rattle.record_values.specs.GeometryValue.{GeometryValue}
use Rattle.flip_image.specs.declared.half.Half.{Half}
use Rattle.flip_image.specs.declared.half.Half.TheVariants.{A, B}
use Rattle.flip_image.specs.Layout.{other, InHalf, InHalfImage, InLog}
use Rattle.flip_image.specs.Store.{Names, IsSuperblock, IsStore, IsFlipping}

-- ---- sectors

pub other_apart : (g : GeometryValue) (half : Half) (n : ℕ) → InHalf g half n → ¬ InHalf g (other half) n
other_apart g A n one two = omega (arith, one.1, two.0)
other_apart g B n one two = omega (arith, one.0, two.1)

pub behind_front : (g : GeometryValue) (half : Half) (n : ℕ) → InHalf g half n → 2 ≤ n
behind_front g A n inside = omega (arith, inside.0)
behind_front g B n inside = omega (arith, inside.0)

pub image_inside : (g : GeometryValue) (half : Half) (n : ℕ) → InHalfImage g half n → InHalf g half n
image_inside g half n inside = (inside.0, omega (arith, inside.1))

pub log_inside : (g : GeometryValue) (half : Half) (n : ℕ) → InLog g half n → InHalf g half n
log_inside g half n inside = (omega (arith, inside.0), omega (arith, inside.1))

pub parts_apart : (g : GeometryValue) (half : Half) (n : ℕ) → InHalfImage g half n → ¬ InLog g half n
parts_apart g half n image log = omega (arith, image.1, log.0)

-- ---- stores

pub store_in_front : (g : GeometryValue) (half : Half) (image changed : CrashState) → length changed ≡ length image
    → ((n : ℕ) → n < 2 → sector changed n ≡ sector image n) → IsStore g half image → IsStore g half changed
store_in_front g half image changed long same store = record {
  limits = store.limits;
  room = omega (arith, store.room, long);
  superblock-is = subst (IsSuperblock g) (sym (same 0 (omega arith))) store.superblock-is;
  current = subst (λ (b : List ℕ). Names b half) (sym (same 1 (omega arith))) store.current;
}

-- whatever is in the flip sector, it names a half
names_one : (bytes : List ℕ) (half : Half) → Names bytes half ⊎ Names bytes (other half)
names_one bytes A = ⊎_elim (λ is. inr is) (λ no. inl no) (cases_eq (slice_index bytes 0) 165)
names_one bytes B = ⊎_elim (λ is. inl is) (λ no. inr no) (cases_eq (slice_index bytes 0) 165)

pub either_store : (g : GeometryValue) (half : Half) (image changed : CrashState) → SameOutside (λ n. n ≡ 1) image changed → IsStore g half image
    → IsStore g half changed ⊎ IsStore g (other half) changed
either_store g half image changed same store = ⊎_elim (λ named. inl (of half named)) (λ named. inr (of (other half) named)) (names_one (sector changed 1) half)
  where
    of : (h : Half) → Names (sector changed 1) h → IsStore g h changed
    of h named = record {
      limits = store.limits;
      room = omega (arith, store.room, same.sectors);
      superblock-is = subst (IsSuperblock g) (sym (same.same 0 (λ is. omega (arith, is)))) store.superblock-is;
      current = named;
    }

-- ---- the three calls of a flip

pub not_true : (b : Bool) → ¬ (b ≡ true) → b ≡ false
not_true true not = absurd (not refl)
not_true false not = refl

module _ (h0 h1 h2 h3 : DevicePast) where
  here : (c : CrashState) → IsCrashState h0.disk c → IsFlipping h0.disk c
  here c crash = inl (record { sectors = crash.sectors; same = λ k out. crash.kept k (not_true (h0.disk.unsynced k) out) })

  pub flipping_end : (r1 r2 r3 : Result Unit Failed) (bytes : List ℕ) → h1.disk ≡ after_sync h0.disk → Elapses h0 h1
      → OnOk r2 (h2.disk ≡ after_write h1.disk 1 bytes) → OnErr r2 (IsFailedWrite h1.disk 1 h2.disk) → Elapses h1 h2
      → OnOk r3 (h3.disk ≡ after_sync h2.disk) → OnErr r3 (h3.disk ≡ h2.disk) → Elapses h2 h3 → LeavesOnly h0 h3 (IsFlipping h0.disk)
  flipping_end r1 r2 r3 bytes synced time1 ok2 err2 time2 ok3 err3 time3 = sync_goes_on h0 h2 h3 (IsFlipping h0.disk) second time3 r3 ok3 err3
    where
      all : IsSynced h1.disk
      all k = ap (λ (d : Disk). d.unsynced k) synced

      same : h1.disk.content ≡ h0.disk.content
      same = ap (λ (d : Disk). d.content) synced

      first : LeavesOnly h0 h1 (IsFlipping h0.disk)
      first = one_call h0 h1 (IsFlipping h0.disk) time1 here (λ c crash.
          let is : c ≡ h0.disk.content = crash_synced h1.disk c all crash ∙ same in
          inr (record { sectors = ap length is; same = λ k out. ap (λ (i : CrashState). sector i k) is }))

      second : LeavesOnly h0 h2 (IsFlipping h0.disk)
      second = write_goes_on h0 h1 h2 (IsFlipping h0.disk) first time2 r2 1 bytes ok2 err2 (λ b c crash.
          inr (subst (λ (i : CrashState). SameOutside (λ n. n ≡ 1) i c) same
          (crash_outside (λ n. n ≡ 1) h1.disk.content (after_write h1.disk 1 b) c
          (written_outside (λ n. n ≡ 1) h1.disk.content h1.disk 1 b refl (outside_synced (λ n. n ≡ 1) h1.disk all)) crash)))

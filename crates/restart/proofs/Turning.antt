-- What a restart leaves of the device: it is read, and what it gives is then written back.
use Rattle.std.proofs.Common.{◌≡◌, ℕ, ◌≤◌, inl, inr, sym, subst, refl, arith}
use Rattle.sector_device.specs.Disk.{CrashState, IsCrashState}
use Rattle.sector_device.specs.DevicePast.{DevicePast, LeavesOnly, Rises}
use Rattle.sector_device.proofs.Moments.{joined, weaker}
use Rattle.record_values.specs.GeometryValue.{GeometryValue}
use Rattle.record_values.specs.declared.error.Error.TheVariants.{DeviceFailed}
use Rattle.flip_image.specs.declared.half.Half.{Half}
use Rattle.flip_image.specs.declared.half.Half.TheVariants.{A, B}
use Rattle.flip_image.specs.Layout.{HalvesValue, other}
use Rattle.flip_image.specs.Store.{IsStore}
use Rattle.store_opener.specs.Reopening.{IsWrittenBack, ReopeningLeaves}
use Rattle.restart.specs.Reopening.{IsNotOpened, IsTurned, IsUnwritten}

module _ {D : Type 0} (past_of : D → DevicePast) (before mid : D) (read : IsUnwritten past_of before mid) where
  -- while it is read
  pub turned_read : IsTurned past_of before mid
  turned_read = record {
    images = weaker (past_of before) (past_of mid) (IsCrashState (past_of before).disk) (ReopeningLeaves (past_of before).disk) (λ c crash. inl crash)
        read.images;
    now = inl read.content;
  }

  module _ (after : D) (images : LeavesOnly (past_of mid) (past_of after) (IsWrittenBack (past_of mid).disk.content))
      (written : IsWrittenBack (past_of mid).disk.content (past_of after).disk.content) where
    -- and once it is written back
    pub turned_back : IsTurned past_of before after
    turned_back = record {
      images = joined (past_of before) (past_of mid) (past_of after) (ReopeningLeaves (past_of before).disk)
          turned_read.images
          (weaker (past_of mid) (past_of after) (IsWrittenBack (past_of mid).disk.content) (ReopeningLeaves (past_of before).disk)
          (λ c back. inr (subst (λ (i : CrashState). IsWrittenBack i c) read.content back)) images);
      now = inr (subst (λ (i : CrashState). IsWrittenBack i (past_of after).disk.content) read.content written);
    }

    -- or the device failed meanwhile
    pub failed_back : (failures : D → ℕ) → failures mid ≡ failures before → failures mid ≤ failures after → Rises (failures mid) (failures after)
        → IsNotOpened past_of failures before after DeviceFailed
    failed_back failures same later rises = record {
      device = turned_back;
      why = inl (inr (refl, subst (λ (n : ℕ). Rises n (failures after)) same rises));
      told = λ other. absurd (other refl);
      unwritten = λ other. absurd (other refl);
      synced = λ other. absurd (other refl);
      later = omega (arith, same, later);
    }

-- the half that wasn't current is current now
pub other_again : (g : GeometryValue) (half : Half) (halves : HalvesValue) (image : CrashState)
    → halves ≡ record { geometry = g; current = other half } → IsStore g half image → IsStore halves.geometry (other halves.current) image
other_again g half halves image is store = subst (λ (h : HalvesValue). IsStore h.geometry (other h.current) image) (sym is)
    (subst (λ (x : Half). IsStore g x image) (twice half) store)
  where
    twice : (x : Half) → x ≡ other (other x)
    twice A = refl
    twice B = refl

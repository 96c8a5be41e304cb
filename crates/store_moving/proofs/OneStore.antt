-- One answer for what a disk holds.
use Rattle.std.proofs.Common.{◌≡◌, ◌⊎◌, ℕ, inl, inr, ap, refl}
use Rattle.sector_device.specs.Disk.{CrashState}
use Rattle.sector_device.specs.DevicePast.{Rises}
use Rattle.record_values.specs.GeometryValue.{GeometryValue}
use Rattle.record_values.specs.declared.error.Error.{Error}
use Rattle.record_values.specs.declared.error.Error.TheVariants.{OldVersion}
use Rattle.record_values.specs.declared.version.Version.{Version}
use Rattle.record_values.specs.declared.version.Version.TheVariants.{One, Two}
use Rattle.flip_image.specs.declared.half.Half.{Half}
use Rattle.flip_image.specs.Store.{IsRefusedIn, IsStoreIn}
use Rattle.store_moving.specs.Moved.{IsNotVersionOne, IsStoreOf}
use Rattle.store_moving.specs.declared.old.NotVersionOne.{NotVersionOne}
use Rattle.store_moving.specs.declared.old.NotVersionOne.TheVariants.{Newer, Refused}

-- no reader of a version refuses a store of it
module _ (accepted : (v : Version) (g : GeometryValue) (half : Half) (image : CrashState) (e : Error) → IsStoreIn v g half image → ¬ IsRefusedIn v image e)
    (image : CrashState) (before after : ℕ) where
  none_refuses : (v : Version) (g : GeometryValue) (e : Error) → IsStoreOf v g image → IsRefusedIn v image e → ⊥
  none_refuses v g e store refused = accepted v g store.0 image e store.1 refused

  pub store_or_refusal : (older : (g : GeometryValue) (half : Half) (image : CrashState) → IsStoreIn One g half image → IsRefusedIn Two image OldVersion)
      → (g : GeometryValue) (e : NotVersionOne) → IsStoreOf One g image → IsNotVersionOne image before after e → Rises before after
  store_or_refusal older g Newer store newer = absurd (none_refuses Two newer.0 OldVersion newer.1 (older g store.0 image store.1))
  store_or_refusal older g (Refused e) store (inl failed) = failed.1
  store_or_refusal older g (Refused e) store (inr refused) = absurd (none_refuses One g e store refused.0)

  pub one_refusal : ((v : Version) (image : CrashState) (d e : Error) → IsRefusedIn v image d → IsRefusedIn v image e → d ≡ e)
      → (d e : NotVersionOne) → IsNotVersionOne image before after d → IsNotVersionOne image before after e → (d ≡ e) ⊎ Rises before after
  one_refusal same Newer Newer p q = inl refl
  one_refusal same Newer (Refused e) p (inl failed) = inr failed.1
  one_refusal same Newer (Refused e) p (inr refused) = absurd (none_refuses Two p.0 refused.1.0 p.1 refused.1.1)
  one_refusal same (Refused d) Newer (inl failed) q = inr failed.1
  one_refusal same (Refused d) Newer (inr refused) q = absurd (none_refuses Two q.0 refused.1.0 q.1 refused.1.1)
  one_refusal same (Refused d) (Refused e) (inl failed) q = inr failed.1
  one_refusal same (Refused d) (Refused e) (inr p) (inl failed) = inr failed.1
  one_refusal same (Refused d) (Refused e) (inr p) (inr q) = inl (ap Refused (same One image d e p.0 q.0))

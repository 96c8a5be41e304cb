-- What is known of a device that is synced and then read.
use Rattle.std.proofs.Common.{Result, Ok, Err, OnOk, OnErr, IfOk, IfErr, ◌≡◌, ◌∙◌, ap, sym, subst, refl}
use Rattle.sector_device.specs.declared.device.Failed.{Failed}
use Rattle.sector_device.specs.Disk.{CrashState, Disk, IsCrashState, IsSynced, after_sync}
use Rattle.sector_device.specs.DevicePast.{DevicePast, Elapses, LeavesOnly, OnlyReads}
use Rattle.sector_device.proofs.Moments.{started, joined, at_end, sync_goes_on}
use Rattle.sector_device.proofs.Within.{reads_leave}
use Rattle.record_values.specs.GeometryValue.{GeometryValue}
use Rattle.record_values.specs.declared.version.Version.TheVariants.{Two}
use Rattle.model.specs.Given.{Given}
use Rattle.gate_log.specs.Area.{Log}
use Rattle.flip_image.specs.Layout.{HalvesValue}
use Rattle.flip_image.specs.Store.{IsStore}
use Rattle.flip_image.proofs.Stores.{one_geometry}
use Rattle.store_reader.specs.Contents.{Gives, IsFound}

-- ---- what a crash leaves

module _ (old mid : DevicePast) (result : Result Unit Failed) (time : Elapses old mid) (ok : OnOk result (mid.disk ≡ after_sync old.disk))
    (err : OnErr result (mid.disk ≡ old.disk)) where
  -- of a device that is synced
  pub synced_first : LeavesOnly old mid (IsCrashState old.disk)
  synced_first = sync_goes_on old old mid (IsCrashState old.disk) (started old (IsCrashState old.disk) (λ c crash. crash)) time result ok err

  -- and then only read
  pub only_read : (new : DevicePast) → OnlyReads mid new → LeavesOnly old new (IsCrashState old.disk)
  only_read new reads = joined old mid new (IsCrashState old.disk) synced_first
      (reads_leave mid new (IsCrashState old.disk) reads (at_end old mid (IsCrashState old.disk) synced_first))

-- ---- what it holds

module _ (old mid new : DevicePast) (ok : mid.disk ≡ after_sync old.disk) (reads : OnlyReads mid new) where
  pub content_kept : new.disk.content ≡ old.disk.content
  content_kept = ap (λ (d : Disk). d.content) (reads.disk ∙ ok)

  pub stays_synced : IsSynced new.disk
  stays_synced = subst IsSynced (sym (reads.disk ∙ ok)) (λ k. refl)

module _ (image : CrashState) (size : GeometryValue) (log : Log) (given : Given) (halves : HalvesValue) (is : IsFound image size log given)
    (store : IsStore halves.geometry halves.current image) where
  -- what was found is of the geometry of the halves
  pub found_size : size ≡ halves.geometry
  found_size = one_geometry Two size halves.geometry is.gives.half halves.current image is.gives.holds.store store

  pub found_gives : Gives image halves.geometry given
  found_gives = subst (λ (g : GeometryValue). Gives image g given) found_size is.gives

-- ---- results

pub if_ok_both : {T E : Type 0} (P Q R : T → Type 0) (r : Result T E) → ((x : T) → P x → Q x → R x) → IfOk r P → IfOk r Q → IfOk r R
if_ok_both P Q R (Ok x) both p q = both x p q
if_ok_both P Q R (Err e) both p q = tt

pub on_ok_always : {T E : Type 0} (P : Type 0) (r : Result T E) → P → OnOk r P
on_ok_always P (Ok x) is = is
on_ok_always P (Err e) is = tt

pub if_err_always : {T E : Type 0} (P : E → Type 0) (r : Result T E) → ((e : E) → P e) → IfErr r P
if_err_always P (Ok x) is = tt
if_err_always P (Err e) is = is e

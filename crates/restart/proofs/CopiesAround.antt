-- Which sectors a copy writes.
use Rattle.std.proofs.Common.{◌≡◌, inl, inr, ⊎_elim, ℕ, None, false, true, sym, subst}
use Rattle.record_values.specs.GeometryValue.{GeometryValue}
use Rattle.sector_device.specs.DevicePast.{DevicePast}
use Rattle.flip_image.specs.Layout.{HalvesValue, InHalf, other}
use Rattle.flip_image.specs.declared.half.TheConstants.{FLIP_SECTOR}
use Rattle.flip_image.proofs.Sides.{image_inside, log_inside}
use Rattle.store_writer.proofs.Alone.{alone_then, alone_wider, none_alone}
use Rattle.store_writer.specs.Parts as writer
use Rattle.store_writer.specs.Writer.{InLogs, WritesLogsAlone, WritesOnly}
use Rattle.store_writer.specs.declared.copying.Copying.{Copying}
use Rattle.store_writer.specs.declared.copying.Copying.TheVariants.{Steps}
use Rattle.store_writer.specs.declared.writer.Writer.{Writer}
use Rattle.restart.specs.declared.parts.EngineParts.{EngineParts}
use Rattle.restart.specs.Handing.{HandsOver}
use Rattle.restart.specs.Parts.{copying_of, device_of, has_failed, writer_of}
use Rattle.restart.specs.Store.{CanRun, CopiesAround, InCopy, StandsAt}

-- ---- the writer's calls

module _ {D : Type 0} (past_of : D → DevicePast) where
  -- one that writes the other half
  pub half_copied : (copying : Copying) (halves : HalvesValue) (old new : D) → WritesOnly past_of (InHalf halves.geometry (other halves.current)) old new
      → WritesOnly past_of (InCopy copying halves) old new
  half_copied copying halves old new wrote = alone_wider past_of (InHalf halves.geometry (other halves.current)) (InCopy copying halves) (λ n inside.
      inr (inl inside)) old new wrote

  -- a flip
  pub flip_copied : (copying : Copying) (halves : HalvesValue) (old new : D) → WritesOnly past_of (λ n. n ≡ FLIP_SECTOR) old new
      → WritesOnly past_of (InCopy copying halves) old new
  flip_copied copying halves old new wrote = alone_wider past_of (λ n. n ≡ FLIP_SECTOR) (InCopy copying halves) (λ n is. inr (inr is)) old new wrote

module _ {D M : Type 0} (past_of : D → DevicePast) where
  -- one that writes the logs alone, while a whole image waits
  pub logs_copied : (old new : Writer D M) → writer.copying_of old ≡ Steps None → WritesLogsAlone past_of old new
      → WritesOnly past_of (InCopy (writer.copying_of old) (writer.halves_of old)) (writer.device_of old) (writer.device_of new)
  logs_copied old new whole wrote = alone_wider past_of (InLogs old) (InCopy (writer.copying_of old) (writer.halves_of old)) in_copy
      (writer.device_of old) (writer.device_of new)
      (record { now = wrote.now; images = wrote.images })
    where
      in_copy : (n : ℕ) → InLogs old n → InCopy (writer.copying_of old) (writer.halves_of old) n
      in_copy n logs = ⊎_elim (λ here. inl (whole, here)) (λ there.
          inr (inl (log_inside (writer.halves_of old).geometry (other (writer.halves_of old).current) n there.1))) logs

  -- none
  pub none_copied_around : (engine : EngineParts D M) → CopiesAround past_of engine engine
  none_copied_around engine = none_alone past_of (InCopy (copying_of engine) (writer.halves_of (writer_of engine))) (device_of engine)

  pub device_copied : (old new : EngineParts D M) → device_of new ≡ device_of old → CopiesAround past_of old new
  device_copied old new same =
      subst (λ d. WritesOnly past_of (InCopy (copying_of old) (writer.halves_of (writer_of old))) (device_of old) d) (sym same) (none_copied_around old)

-- ---- of an engine

module _ {D M : Type 0} (past_of : D → DevicePast) (old mid new : EngineParts D M) (can : CanRun past_of mid) (sound : has_failed mid ≡ false)
    (same : writer.halves_of (writer_of mid) ≡ writer.halves_of (writer_of old)) where
  stands : StandsAt past_of can.0 can.1 can.2 can.3 mid
  stands = can.4

  -- what is unsynced between two calls lies in the half that isn't current
  loose : (n : ℕ) → (past_of (device_of mid)).disk.unsynced n ≡ true → InCopy (copying_of old) (writer.halves_of (writer_of old)) n
  loose n unsynced = subst (λ (h : HalvesValue). InCopy (copying_of old) h n) same (inr (inl
      (subst (λ (g : GeometryValue). InHalf g (other (writer.halves_of (writer_of mid)).current) n) (sym stands.writer.geometry-is)
      (image_inside can.0.geometry (other (writer.halves_of (writer_of mid)).current) n ((stands.writer.holds sound).loose n unsynced)))))

  pub copies_then : CopiesAround past_of old mid
      → WritesOnly past_of (InCopy (copying_of old) (writer.halves_of (writer_of mid))) (device_of mid) (device_of new) → CopiesAround past_of old new
  copies_then first second = alone_then past_of (InCopy (copying_of old) (writer.halves_of (writer_of old))) (device_of old) (device_of mid)
      (device_of new) loose first
      (subst (λ (h : HalvesValue). WritesOnly past_of (InCopy (copying_of old) h) (device_of mid) (device_of new)) same second)

-- where the copying is where it was
pub as_before : {D M : Type 0} (past_of : D → DevicePast) (old mid new : EngineParts D M) → copying_of mid ≡ copying_of old
    → CopiesAround past_of mid new
    → WritesOnly past_of (InCopy (copying_of old) (writer.halves_of (writer_of mid))) (device_of mid) (device_of new)
as_before past_of old mid new same wrote =
    subst (λ (c : Copying). WritesOnly past_of (InCopy c (writer.halves_of (writer_of mid))) (device_of mid) (device_of new)) same wrote

-- behind a handing over
pub copied_over : {D M : Type 0} (past_of : D → DevicePast) (old mid new : EngineParts D M) → HandsOver past_of old mid → CopiesAround past_of mid new
    → CopiesAround past_of old new
copied_over past_of old mid new over wrote =
    subst (λ (c : Copying). WritesOnly past_of (InCopy c (writer.halves_of (writer_of old))) (device_of old) (device_of new)) over.copying
    (subst (λ (h : HalvesValue). WritesOnly past_of (InCopy (copying_of mid) h) (device_of old) (device_of new)) over.halves
    (subst (λ d. WritesOnly past_of (InCopy (copying_of mid) (writer.halves_of (writer_of mid))) d (device_of new)) over.device wrote))

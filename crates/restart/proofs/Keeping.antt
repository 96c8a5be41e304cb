-- What leaves the store as it is.
use Rattle.std.proofs.Common.{◌≡◌, ap, ◌∙◌}
use Rattle.sector_device.specs.DevicePast.{DevicePast}
use Rattle.store_writer.specs.Parts as writer
use Rattle.restart.specs.declared.parts.EngineParts.{EngineParts}
use Rattle.restart.specs.Handing.{HandsOver}
use Rattle.restart.specs.Parts.{KeepsStore, writer_of}

module _ {D M : Type 0} where
  -- the writer is as it was
  pub keeps_same : (old new : EngineParts D M) → writer_of new ≡ writer_of old → KeepsStore old new
  keeps_same old new same = record {
    device = ap (λ w. writer.device_of w) same;
    halves = ap (λ w. writer.halves_of w) same;
    log = ap (λ w. writer.log_of w) same;
    image = ap (λ w. writer.image_of w) same;
    horizon = ap (λ w. writer.synced_of w) same;
  }

  -- it took records
  pub keeps_over : (past_of : D → DevicePast) (old new : EngineParts D M) → HandsOver past_of old new → KeepsStore old new
  keeps_over past_of old new over = record { device = over.device; halves = over.halves; log = over.log; image = over.image; horizon = over.horizon }

  -- one after another
  pub keeps_both : (old mid new : EngineParts D M) → KeepsStore old mid → KeepsStore mid new → KeepsStore old new
  keeps_both old mid new first second = record {
    device = second.device ∙ first.device;
    halves = second.halves ∙ first.halves;
    log = second.log ∙ first.log;
    image = second.image ∙ first.image;
    horizon = second.horizon ∙ first.horizon;
  }

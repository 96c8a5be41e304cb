-- Pages that are passed over, one behind another.
use Rattle.std.proofs.Common.{ℕ, ◌∙◌}
use Rattle.core_model.specs.Histories.{Opened}
use Rattle.sector_device.specs.DevicePast.{DevicePast}
use Rattle.threads_flusher.specs.Part.{FlushValue}
use Rattle.threads_loops.specs.Through.{HasPassedPages}
use Rattle.threads_loops.proofs.Through.{through_then}

module _ {D A : Type 0} {marks : ℕ → ℕ → Type 0} (past_of : D → DevicePast) (failures : D → ℕ) (o : Opened) (old mid new : FlushValue D A) where
  pub passed_then : HasPassedPages past_of marks failures o old mid → HasPassedPages past_of marks failures o mid new
      → HasPassedPages past_of marks failures o old new
  passed_then first second = record {
    through = through_then past_of failures o old mid new first.through second.through;
    late = second.late;
    copied = (second.copied.0, second.copied.1 ∙ first.copied.1);
    device = second.device ∙ first.device;
  }

-- What a desk keeps of the flusher's part that lies on it.
use Rattle.std.specs.Prelude.{◌≡◌, ℕ, Option, Some}
use Rattle.core_model.specs.Histories.{Opened}
use Rattle.sector_device.specs.DevicePast.{DevicePast}
use Rattle.threads_loops.specs.Part.{FlushValue}
use Rattle.threads_loops.specs.Copying.{StandsBy}
use Rattle.threads_loops.specs.Through.{RunsThrough}

-- It has gone on as a loop does, from the part that the run began with; and an image that it copies began as half the
-- log's slots were open. (No public clause cites this.)
pub record IsLed {D A : Type 0} (past_of : D → DevicePast) (marks : ℕ → ℕ → Type 0) (failures : D → ℕ) (o : Opened)
    (begun : Option (FlushValue D A)) (now : FlushValue D A) : Type 0 where
  pub first : FlushValue D A
  pub begins : begun ≡ Some first
  pub through : RunsThrough past_of marks failures o first now
  pub copying : StandsBy now

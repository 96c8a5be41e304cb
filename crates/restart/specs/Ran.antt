-- What requests in a row leave of a run, whatever came before them.
use Rattle.std.specs.Prelude.{List}
use Rattle.sector_device.specs.Disk.{CrashState, IsCrashState}
use Rattle.sector_device.specs.DevicePast.{DevicePast}
use Rattle.restart.specs.declared.event.Event.{Event}
use Rattle.restart.specs.declared.event.Reply.{Reply}
use Rattle.restart.specs.declared.parts.EngineParts.{EngineParts}
use Rattle.restart.specs.Parts.{device_of, horizon_of}
use Rattle.restart.specs.Store.{Past, and_then, Survives, IsAt}

-- These requests were answered so, whatever was answered before. A crash once the call has ended leaves a prefix of the
-- whole run, with every record up to the horizon then, and so with all that a reply has told to be safe, those of this
-- call too (`safe` of `IsAt`).
abbrev pub KeepsWholeRun : {D M : Type 0} → (D → DevicePast) → List Event → List (Reply M) → EngineParts D M
    → EngineParts D M
    → Type 0
KeepsWholeRun {D} {M} past_of events replies old new = (past : Past M) → IsAt past_of past old → (image : CrashState)
    → IsCrashState (past_of (device_of new)).disk image
    → Survives (and_then past events replies) (horizon_of new) image

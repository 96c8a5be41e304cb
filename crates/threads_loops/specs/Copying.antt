-- When an image of the flush loop begins. (A public clause cites `StandsBy` alone.)
use Rattle.std.specs.Prelude.{◌≡◌, ◌≢◌, ◌⊎◌, false}
use Rattle.flip_image.specs.Layout.{other}
use Rattle.threads_flusher.specs.Images.{IsHalfFull}
use Rattle.threads_flusher.specs.Part.{FlushValue}
use Rattle.store_writer.specs.Parts.{copying_of, halves_of, has_failed}
use Rattle.store_writer.specs.declared.copying.Copying.TheVariants.{Idle}

-- an image began as half the log's slots were open, and they are still, unless the device failed
abbrev pub StandsBy : {D A : Type 0} → FlushValue D A → Type 0
StandsBy f = has_failed f.writer ≡ false → copying_of f.writer ≢ Idle → IsHalfFull f.writer

-- a chunk of an image may be taken into it, for half the log's slots are open, unless the device failed
abbrev pub IsDue : {D A : Type 0} → FlushValue D A → Type 0
IsDue f = has_failed f.writer ≡ false → IsHalfFull f.writer

-- an image is wanted: one is copied, or half the log's slots are open
abbrev pub IsWanted : {D A : Type 0} → FlushValue D A → Type 0
IsWanted f = copying_of f.writer ≡ Idle → IsHalfFull f.writer

-- one is copied, and the same half is current
abbrev pub IsCopied : {D A : Type 0} → FlushValue D A → FlushValue D A → Type 0
IsCopied old new = (copying_of new.writer ≢ Idle) × (halves_of new.writer ≡ halves_of old.writer)

-- one is copied; or it was made current, and none is
abbrev pub HasImage : {D A : Type 0} → FlushValue D A → FlushValue D A → Type 0
HasImage old new = IsCopied old new
    ⊎ ((copying_of new.writer ≡ Idle) × ((halves_of new.writer).current ≡ other (halves_of old.writer).current))

-- no group was written, and the writer is as it was
abbrev pub WritesNone : {D A : Type 0} → FlushValue D A → FlushValue D A → Type 0
WritesNone old new = (new.writer ≡ old.writer) × (new.handed ≡ old.handed)

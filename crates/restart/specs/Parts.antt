-- The parts of an engine.
use Rattle.std.specs.Prelude.{ℕ, Bool, List, ◌++◌, ◌≡◌}
use Rattle.records.specs.RecordValue.{RecordValue}
use Rattle.gate_log.specs.Area.{Log}
use Rattle.nsf_core.specs.Value.{value_of}
use Rattle.core_parts.specs.View.{CoreValue}
use Rattle.store_writer.specs.Parts as writer
use Rattle.store_writer.specs.declared.copying.Copying.{Copying}
use Rattle.store_writer.specs.declared.writer.Writer.{Writer}
use Rattle.restart.specs.declared.parts.EngineParts.{EngineParts}

-- its core
abbrev pub core_of : {D M : Type 0} → EngineParts D M → CoreValue
core_of engine = value_of engine.core

-- its writer
abbrev pub writer_of : {D M : Type 0} → EngineParts D M → Writer D M
writer_of engine = engine.writer

-- its device
abbrev pub device_of : {D M : Type 0} → EngineParts D M → D
device_of engine = writer.device_of engine.writer

-- the log of the current half
abbrev pub log_of : {D M : Type 0} → EngineParts D M → Log
log_of engine = writer.log_of engine.writer

-- the records that were taken from the core, and that the writer doesn't have yet, in order
abbrev pub outgoing_of : {D M : Type 0} → EngineParts D M → List RecordValue
outgoing_of engine = engine.outgoing.items

-- the records that the writer doesn't have yet, in order
abbrev pub unhanded : {D M : Type 0} → EngineParts D M → List RecordValue
unhanded engine = outgoing_of engine ++ (core_of engine).outbox

-- the records that are not synced yet, in order
abbrev pub unwritten : {D M : Type 0} → EngineParts D M → List RecordValue
unwritten engine = writer.waiting_of engine.writer ++ unhanded engine

-- the number of the last record that is synced
abbrev pub horizon_of : {D M : Type 0} → EngineParts D M → ℕ
horizon_of engine = writer.synced_of engine.writer

-- how far the copying of an image has come
abbrev pub copying_of : {D M : Type 0} → EngineParts D M → Copying
copying_of engine = writer.copying_of engine.writer

-- whether the device has failed
abbrev pub has_failed : {D M : Type 0} → EngineParts D M → Bool
has_failed engine = writer.has_failed engine.writer

-- Nothing was written: the device is as it was, and so are the halves, the log, the image under way, and how far all is
-- synced.
pub record KeepsStore {D M : Type 0} (old new : EngineParts D M) : Type 0 where
  pub device : device_of new ≡ device_of old
  pub halves : writer.halves_of (writer_of new) ≡ writer.halves_of (writer_of old)
  pub log : log_of new ≡ log_of old
  pub image : writer.image_of (writer_of new) ≡ writer.image_of (writer_of old)
  pub horizon : horizon_of new ≡ horizon_of old

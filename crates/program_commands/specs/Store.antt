-- A store that is open, whatever device it is on, and what it serves.
use Rattle.std.specs.Prelude.{ℕ}
use Rattle.std.specs.declared.alloc.Global.{Global}
use Rattle.record_values.specs.declared.error.Error.{Error}
use Rattle.sector_device.specs.DevicePast.{DevicePast}
use Rattle.model.specs.Table.{Table}
use Rattle.record_values.specs.Entries.{Index}
use Rattle.model.specs.declared.life.Life.{Life}
use Rattle.restart.specs.Parts.{core_of}
use Rattle.restart.specs.Parts as engine
use Rattle.restart.specs.Reopening.{IsOpened, IsNotOpened, RecoversAnyRun, RefusesNoRun}
use Rattle.restart.specs.Repeated as repeated
use Rattle.restart.specs.Store.{KeepsRun}
use Rattle.restart.specs.declared.event.Event.{Event}
use Rattle.restart.specs.declared.event.Reply.{Reply}
use Rattle.restart.specs.declared.parts.EngineParts.{EngineParts}
use Rattle.program_commands.specs.declared.store.Store.{Store}

module _ {D : Type 0} where
  -- the engine that serves it
  abbrev pub engine_of : Store D → EngineParts D Global
  engine_of s = s.engine

  -- the device below
  abbrev pub device_of : Store D → D
  device_of s = engine.device_of (engine_of s)

  -- its rows
  abbrev pub rows_of : Store D → Table
  rows_of s = (core_of (engine_of s)).heap.rows

  -- how many pages these lie in
  abbrev pub pages_of : Store D → ℕ
  pages_of s = (core_of (engine_of s)).heap.pages

  -- the entries of its index
  abbrev pub entries_of : Store D → Index
  entries_of s = (core_of (engine_of s)).index.entries

  -- how far its index is
  abbrev pub life_of : Store D → Life
  life_of s = (core_of (engine_of s)).life

  -- every record up to this number is synced
  abbrev pub horizon_of : Store D → ℕ
  horizon_of s = engine.horizon_of (engine_of s)

  -- the number of the last record made
  abbrev pub last_made : Store D → ℕ
  last_made s = (core_of (engine_of s)).last

module _ {D : Type 0} (past_of : D → DevicePast) where
  -- The store was opened on this device. Whatever run of an engine left the device so, it holds a prefix of that run,
  -- with all that the run had to keep.
  pub record OpensOn (device : D) (opened_store : Store D) : Type 0 where
    pub opened : IsOpened past_of device (engine_of opened_store)
    pub recovers : RecoversAnyRun past_of device (engine_of opened_store)

  -- Whatever run left the engine where it is: a crash of this device leaves that run, with every record up to the
  -- horizon, and so with all that a reply has told to be safe.
  abbrev pub LeavesItsRun : Store D → D → Type 0
  LeavesItsRun s device = KeepsRun past_of (engine_of s) device

module _ {D : Type 0} (past_of : D → DevicePast) (failures : D → ℕ) where
  -- No store was opened on this device, and it came back so. What a run of an engine left is refused only for want of
  -- memory, or where the device failed in the call.
  pub record IsRefusedOn (device after : D) (e : Error) : Type 0 where
    pub not_opened : IsNotOpened past_of failures device after e
    pub readable : RefusesNoRun Global past_of failures device after e

  -- the event had this lawful reply, and its engine serves it so
  abbrev pub Serves : Event → Reply Global → Store D → Store D → Type 0
  Serves event reply old new = repeated.Serves past_of failures event reply (engine_of old) (engine_of new)

  -- an image was taken and made current, or the final copy had this reply
  abbrev pub TakesImage : Reply Global → Store D → Store D → Type 0
  TakesImage final old new = repeated.TakesImage past_of failures final (engine_of old) (engine_of new)

  -- all records up to the last were flushed, or the final flush or copy had this reply
  abbrev pub Flushes : (last : ℕ) → Reply Global → Store D → Store D → Type 0
  Flushes last final old new = repeated.FlushesAll past_of failures last final (engine_of old) (engine_of new)

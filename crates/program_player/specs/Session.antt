-- A store under a script, whose disk may have a write or sync cut short.
use Rattle.std.specs.Prelude.{◌≡◌, ◌-◌, ℕ, nat_lt, Bool, true, false, Result, Ok, Err, if◌then◌else◌}
use Rattle.std.specs.declared.alloc.Global.{Global}
use Rattle.record_values.specs.declared.error.Error.{Error}
use Rattle.record_values.specs.declared.error.Error.TheVariants.{DeviceFailed}
use Rattle.sector_device.specs.FaultDisk.{made_of}
use Rattle.sector_device.specs.declared.fault.FaultDisk.{FaultDisk}
use Rattle.sector_device.specs.declared.memory.MemDisk.{MemDisk}
use Rattle.model.specs.declared.life.Life.{Life}
use Rattle.restart.specs.declared.event.Event.{Event}
use Rattle.restart.specs.declared.event.Reply.{Reply}
use Rattle.restart.specs.declared.event.Reply.TheVariants.{Refused}
use Rattle.program_commands.specs.Answers.{answer_of}
use Rattle.program_commands.specs.Store as store
use Rattle.program_player.specs.Disk.{disk_past, disk_failures}
use Rattle.program_values.specs.declared.answer.Answer.{Answer}
use Rattle.program_player.specs.declared.session.Session.{Session}
use Rattle.program_player.specs.declared.session.Stopped.{Stopped}
use Rattle.program_player.specs.declared.session.End.{End}
use Rattle.program_player.specs.declared.session.End.TheVariants as end

-- the disk below the store
abbrev pub disk_of : Session → FaultDisk (MemDisk Global)
disk_of session = store.device_of session.store

-- The session is that of a store that was opened on this disk, whose write or sync of this number is cut short, or none
-- at 0.
pub record OpensOn (disk : FaultDisk (MemDisk Global)) (fails_at : ℕ) (session : Session) : Type 0 where
  pub store_is : store.OpensOn disk_past disk session.store
  pub fails_at_is : session.fails_at ≡ fails_at

-- no store was opened on this disk, and it came back so
abbrev pub IsRefusedOn : (disk after : FaultDisk (MemDisk Global)) → Error → Type 0
IsRefusedOn disk after e = store.IsRefusedOn disk_past disk_failures disk after e

-- Whatever run left the store where it is: a crash of its disk leaves that run, with every record up to the horizon,
-- and so with all that a reply has told to be safe.
abbrev pub LeavesItsRun : Session → Type 0
LeavesItsRun session = store.LeavesItsRun disk_past session.store (disk_of session)

-- how many writes and syncs more are made with the one that is cut short, or 0
abbrev pub calls_to_stop : Session → ℕ
calls_to_stop session = session.fails_at - made_of (disk_of session)

-- whether the error tells that the write or sync of this number was made, which was to be cut short
abbrev pub tells_stop : ℕ → Error → Bool
tells_stop fails_at DeviceFailed = nat_lt 0 fails_at
tells_stop fails_at _ = false

-- The store was opened on this disk after a crash, or it was not: then the session was stopped, where the error tells
-- so, and else refused.
abbrev pub Reopens : FaultDisk (MemDisk Global) → ℕ → Result Session End → Type 0
Reopens disk fails_at (Ok session) = OpensOn disk fails_at session
Reopens disk fails_at (Err (end.Stopped after)) =
    (e : Error) × IsRefusedOn disk after e × (tells_stop fails_at e ≡ true)
Reopens disk fails_at (Err (end.Refused e)) =
    (after : FaultDisk (MemDisk Global)) × IsRefusedOn disk after e × (tells_stop fails_at e ≡ false)

-- how far its index is
abbrev pub life_of : Session → Life
life_of session = store.life_of session.store

-- the number of the last record made
abbrev pub last_made : Session → ℕ
last_made session = store.last_made session.store

-- whether the reply tells that the write or sync that was to be cut short was made
abbrev pub is_stop : Session → Reply Global → Bool
is_stop session (Refused error) = tells_stop session.fails_at error
is_stop session _ = false

-- what is answered for the reply
abbrev pub outcome_of : Session → Reply Global → Result Answer Stopped
outcome_of session reply = if is_stop session reply then Err (record {}) else Ok
    (answer_of (store.horizon_of session.store) reply)

-- The event had this reply, and nothing but the store has changed.
pub record ServesEvent (event : Event) (reply : Reply Global) (old new : Session) : Type 0 where
  pub serves : store.Serves disk_past disk_failures event reply old.store new.store
  pub rest : new ≡ record old { store = new.store }

-- An image was taken and made current, or the final copy had this reply, and nothing but the store has changed.
pub record TakesImage (reply : Reply Global) (old new : Session) : Type 0 where
  pub takes : store.TakesImage disk_past disk_failures reply old.store new.store
  pub rest : new ≡ record old { store = new.store }

-- All records up to the last were flushed, or the final flush had this reply, and nothing but the store has changed.
pub record Flushes (last : ℕ) (reply : Reply Global) (old new : Session) : Type 0 where
  pub flushes : store.Flushes disk_past disk_failures last reply old.store new.store
  pub rest : new ≡ record old { store = new.store }

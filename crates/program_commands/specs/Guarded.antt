-- A store whose commits are refused once its device is known to have failed.
use Rattle.std.specs.Prelude.{◌≡◌, ◌⊎◌, ◌&&◌, ◌||◌, ℕ, Bool, true, false}
use Rattle.std.specs.declared.alloc.Global.{Global}
use Rattle.record_values.specs.declared.error.Error.TheVariants.{DeviceFailed}
use Rattle.sector_device.specs.DevicePast.{DevicePast}
use Rattle.restart.specs.declared.event.Event.{Event}
use Rattle.restart.specs.declared.event.Event.TheVariants.{Commit}
use Rattle.restart.specs.declared.event.Reply.{Reply}
use Rattle.restart.specs.declared.event.Reply.TheVariants.{Refused}
use Rattle.program_commands.specs.Store.{Serves, TakesImage, Flushes, last_made}
use Rattle.program_commands.specs.declared.guarded.GuardedStore.{GuardedStore}
use Rattle.program_commands.specs.declared.store.Store.{Store}

-- whether this event is a commit
abbrev pub is_commit : Event → Bool
is_commit (Commit txn) = true
is_commit other = false

-- whether this reply tells that the device has failed
abbrev pub tells_failure : Reply Global → Bool
tells_failure (Refused DeviceFailed) = true
tells_failure other = false

module _ {D : Type 0} where
  -- the store that is guarded
  abbrev pub store_of : GuardedStore D → Store D
  store_of s = s.store

  -- whether a reply told that its device has failed
  abbrev pub knows_failure : GuardedStore D → Bool
  knows_failure s = s.has_failed

  -- whether the event is a commit that comes behind a known failure
  abbrev pub is_too_late : Event → GuardedStore D → Bool
  is_too_late event s = is_commit event && knows_failure s

  -- a failure is known from the reply on that tells it
  abbrev pub Notes : Reply Global → GuardedStore D → GuardedStore D → Type 0
  Notes reply old new = knows_failure new ≡ knows_failure old || tells_failure reply

module _ {D : Type 0} (past_of : D → DevicePast) (failures : D → ℕ) where
  -- The event was served. Or it is a commit behind a known failure: then it is refused, and nothing was done.
  abbrev pub ServesGuarded : Event → Reply Global → GuardedStore D → GuardedStore D → Type 0
  ServesGuarded event reply old new =
      ((is_too_late event old ≡ false) × Serves past_of failures event reply (store_of old) (store_of new)
      × Notes reply old new)
      ⊎ ((is_too_late event old ≡ true) × (reply ≡ Refused DeviceFailed) × (new ≡ old))

  -- all records were flushed, or the final flush or copy had this reply
  abbrev pub FlushesGuarded : Reply Global → GuardedStore D → GuardedStore D → Type 0
  FlushesGuarded reply old new = Flushes past_of failures (last_made (store_of old)) reply (store_of old) (store_of new)
      × Notes reply old new

  -- an image was taken and made current, or the final copy had this reply
  abbrev pub TakesImageGuarded : Reply Global → GuardedStore D → GuardedStore D → Type 0
  TakesImageGuarded reply old new = TakesImage past_of failures reply (store_of old) (store_of new)
      × Notes reply old new

-- What a caller can ask of a transaction, and of a call before it is made.
use Rattle.std.specs.Prelude.{None, Option, Some, option_map, ℕ, ◌≢◌}
use Rattle.record_values.specs.declared.error.Error.{Error}
use Rattle.record_values.specs.declared.error.Error.TheVariants.{NoMemory}
use Rattle.core_model.specs.Events.{Event, Refused}
use Rattle.txn_table.specs.declared.progress.Progress.{Progress}
use Rattle.txn_table.specs.declared.progress.Progress.TheVariants.{OwesEntry, OwesRow, Ready, Rolling, UndoesEntry}
use Rattle.txn_table.specs.declared.progress.Progress.TheVariants.{UndoesRow}
use Rattle.core_parts.specs.View.{CoreValue, Serves}
use Rattle.core_parts.specs.Moves.{txn_shown}
use Rattle.core_parts.specs.declared.reply.Owed.{Owed}
use Rattle.core_parts.specs.declared.reply.Owed.TheVariants.{KeyPut, RowSet}

-- how far a transaction is, if it is active
abbrev pub progress_of : CoreValue → ℕ → Option Progress
progress_of v t = option_map (λ x. x.progress) (txn_shown v t)

-- the step of its newest change that is to come next, unless it is rolling back
abbrev pub owed : Progress → Option Owed
owed Ready = None
owed OwesRow = Some RowSet
owed OwesEntry = Some KeyPut
owed Rolling = None
owed UndoesRow = None
owed UndoesEntry = None

-- the core as it is refuses the event with this error, whatever memory is left
abbrev pub IsRefused : CoreValue → Event → Error → Type 0
IsRefused v e error = (error ≢ NoMemory) × Serves v e (Refused error) v

-- nothing but want of memory refuses the event
abbrev pub IsFine : CoreValue → Event → Type 0
IsFine v e = Serves v e (Refused NoMemory) v

-- How many further steps of its change a transaction owes.
use Rattle.std.specs.Prelude.{None, Option, Some, ℕ}
use Rattle.txn_table.specs.Table.{TxnState}
use Rattle.txn_table.specs.declared.progress.Progress.{Progress}
use Rattle.txn_table.specs.declared.progress.Progress.TheVariants.{OwesEntry, OwesRow, Ready, Rolling, UndoesEntry}
use Rattle.txn_table.specs.declared.progress.Progress.TheVariants.{UndoesRow}

-- at the most, by how far it is: its row and a pair, or a pair alone
abbrev pub steps_in : Progress → ℕ
steps_in Ready = 0
steps_in OwesRow = 2
steps_in OwesEntry = 1
steps_in Rolling = 0
steps_in UndoesRow = 0
steps_in UndoesEntry = 0

-- none where it isn't active
abbrev pub steps_owed : Option TxnState → ℕ
steps_owed None = 0
steps_owed (Some x) = steps_in x.progress

use Rattle.std.proofs.Common.{rules}
use Rattle.model.proofs.row_map.RowMap.redo_txn.Goals as goal

pub returns-in-Undo-Slot-default-default-clause-ok :
    goal.returns-in-Undo-Slot-default-default-clause-ok
returns-in-Undo-Slot-default-default-clause-ok g c = search rules

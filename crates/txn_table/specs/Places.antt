-- The place of a transaction among the active ones.
use Rattle.std.specs.Prelude.{ℕ, suc, List, [], ◌∷◌, ◌==◌, if◌then◌else◌}
use Rattle.txn_table.specs.Table.{TxnState}

-- from 0; where it isn't active, it is the one behind all
abbrev pub place_of : ℕ → List (ℕ × TxnState) → ℕ
place_of txn [] = 0
place_of txn (e ∷ es) = if txn == e.0 then 0 else suc (place_of txn es)

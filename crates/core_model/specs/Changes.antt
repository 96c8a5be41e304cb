-- The changes of a transaction, the oldest first, what they make of a row, and the pairs of the index that a change
-- moves.
use Rattle.std.specs.Ordering.{eq_by_cmp}
use Rattle.std.specs.Prelude.{List, Option, [], cond, ◌++◌, ◌∷◌}
use Rattle.records.specs.ChangeValue.{ChangeValue}
use Rattle.record_values.specs.Orders.{rid_cmp}
use Rattle.records.specs.Spelling.{new_row}
use Rattle.record_values.specs.Values.{Place}
use Rattle.record_values.specs.declared.row.Row.{Row}
pub use Rattle.model.specs.Pairs.{gone, new_pair, old_pair, pair_at, pair_of, same_key}

-- the changes of a transaction, the oldest first: none, or the older ones and the newest behind them
pub data Changes : Type 0 where
  Unchanged : Changes
  ◌▹◌ : Changes → ChangeValue → Changes

infixl 70 ◌▹◌
-- as a list, the oldest first
abbrev pub as_list : Changes → List ChangeValue
as_list Unchanged = []
as_list (older ▹ c) = as_list older ++ c ∷ []

-- what these changes, one after the other, make of the row at this place
abbrev pub latest : Changes → Place → Option Row → Option Row
latest Unchanged rid row = row
latest (older ▹ c) rid row = cond (eq_by_cmp rid_cmp rid c.rid) (new_row c.rows) (latest older rid row)

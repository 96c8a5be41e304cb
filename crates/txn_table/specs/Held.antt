-- The order of places, and the places that somebody holds.
use Rattle.std.specs.Prelude.{◌≡◌, ℕ, ◌+◌, ◌*◌, ◌<◌, ◌≤◌, List, true, IsSome}
use Rattle.record_values.specs.Values.{Place, is_among}
use Rattle.record_values.specs.declared.rid.TheConstants.{SLOTS_PER_PAGE}
use Rattle.txn_table.specs.Table.{TxnState, holder_of}

-- how many places of a table are before this one
abbrev pub place_number : Place → ℕ
place_number r = r.page * SLOTS_PER_PAGE + r.slot

-- each place that somebody holds comes before this one
abbrev pub AreHeldBefore : Place → List (ℕ × TxnState) → Type 0
AreHeldBefore r active = (q : Place) → IsSome (holder_of q active) → place_number q < place_number r

-- each of these places has a smaller number
abbrev pub AreBelow : ℕ → List Place → Type 0
AreBelow n rows = (r : Place) → is_among r rows ≡ true → place_number r < n

-- it is the least number that they are all below
pub record IsBoundOf (rows : List Place) (n : ℕ) : Type 0 where
  pub above : AreBelow n rows
  pub least : (m : ℕ) → AreBelow m rows → n ≤ m

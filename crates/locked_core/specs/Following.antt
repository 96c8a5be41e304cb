-- Records over what was opened.
use Rattle.std.specs.FinMap.{len}
use Rattle.std.specs.Prelude.{List, length, take, ℕ, ◌+◌, ◌≤◌}
use Rattle.records.specs.RecordValue.{RecordValue}
use Rattle.record_values.specs.declared.number.TheConstants.{LAST_NUMBER}
use Rattle.model.specs.Following.{AreFollowing}
use Rattle.model.specs.Given.{given_after, opening_cells}
use Rattle.core_model.specs.Histories.{Opened}

-- The records can follow what was opened: each can follow the one before it, and their numbers are numbers of records.
pub record FollowOpening (o : Opened) (records : List RecordValue) : Type 0 where
  pub in_order : AreFollowing o.pages o.given.last (opening_cells o.given) records
  pub small : o.given.last + length records ≤ LAST_NUMBER

-- What is given after a prefix of the records has no more entries than the opening has places.
abbrev pub FitPlaces : Opened → List RecordValue → Type 0
FitPlaces o records = (n : ℕ) → n ≤ length records → len (given_after o.given (take n records)).entries ≤ o.places

-- The records that a run makes, and its history with the numbers of its records.
use Rattle.std.specs.Prelude.{List, None, Option, Some, [], map, take, ℕ, ◌++◌, ◌+◌, ◌∷◌, ◌≡◌}
use Rattle.records.specs.RecordValue.{RecordValue}
use Rattle.records.specs.declared.record.Action.{Action}
use Rattle.model.specs.Cells.{Cells, cells_after}
use Rattle.model.specs.Following.{AreFollowing}
use Rattle.model.specs.Given.{IsBeginning, given_after, opening_cells}
use Rattle.model.specs.History.{Deed, Item}
use Rattle.model.specs.declared.write.Write.{Write}
use Rattle.core_model.specs.Histories.{CanOpen, Opened, deeds_of, no_writes, opened, writes_after, writes_over}
use Rattle.core_model.specs.Invariants.{Runs}
use Rattle.core_model.specs.Records.{HasCells, action_of}
use Rattle.core_model.specs.States.{State}
use Rattle.core_model.specs.Steps.{MachineStep, after}

-- the number of the last record after this action, where it was `last` before
abbrev pub next_number : ℕ → Option Action → ℕ
next_number last None = last
next_number last (Some action) = last + 1

-- the record of this action, after the record `last`; none where there is no action
abbrev pub one_record : ℕ → Option Action → List RecordValue
one_record last None = []
one_record last (Some action) = record { number = last + 1; action = action } ∷ []

-- the records of these steps
abbrev pub records_from : State → ℕ → List MachineStep → List RecordValue
records_from s last [] = []
records_from s last (e ∷ es) = one_record last (action_of s e)
    ++ records_from (after s e) (next_number last (action_of s e)) es

-- a deed as an item, with the number of the next record
abbrev pub item_at : ℕ → Deed → Item
item_at last deed = record { number = last + 1; deed = deed }

-- the history of these steps, each item with the number of its record
abbrev pub items_from : (ℕ → List Write) → State → ℕ → List MachineStep → List Item
items_from writes s last [] = []
items_from writes s last (e ∷ es) = map (item_at last) (deeds_of writes e)
    ++ items_from (writes_after writes e) (after s e) (next_number last (action_of s e)) es

-- of a run over what was opened
abbrev pub records_over : Opened → List MachineStep → List RecordValue
records_over o steps = records_from (opened o) o.given.last steps

-- the history of these steps over what was opened
abbrev pub items_over : Opened → List MachineStep → List Item
items_over o steps = items_from no_writes (opened o) o.given.last steps

-- the store after the first n of these records
abbrev pub reopened : Opened → List RecordValue → ℕ → Opened
reopened o records n = record o { given = given_after o.given (take n records) }

-- What is recovered of the first n of the records is the history's prefix up to the last of them, and a core may begin
-- with it.
pub record RecoversPrefix (o : Opened) (steps : List MachineStep) (n : ℕ) : Type 0 where
  pub beginning : IsBeginning o.given (items_over o steps) (o.given.last + n)
      (given_after o.given (take n (records_over o steps)))
  pub opens : CanOpen (reopened o (records_over o steps) n)

-- The core has made these records since it was opened, each of which could follow the one before; they tell these
-- items; and this was asked of its transactions.
pub record HasMade (o : Opened) (made : List RecordValue) (items : List Item) (writes : ℕ
    → List Write) (s : State) : Type 0 where
  pub steps : List MachineStep
  pub run : Runs (opened o) steps s
  pub records : made ≡ records_over o steps
  pub history : items ≡ items_over o steps
  pub asked : writes ≡ writes_over no_writes steps
  pub in_order : AreFollowing o.pages o.given.last (opening_cells o.given) made

-- The records after the record `base`, made over these cells, each of which could follow the one before, set what the
-- state has.
pub record IsLogOf (pages base : ℕ) (cells : Cells) (log : List RecordValue) (s : State) : Type 0 where
  pub set : HasCells s (cells_after cells log)
  pub in_order : AreFollowing pages base cells log

-- What the core consists of, as a value.
use Rattle.std.specs.FinMap.{FinMap}
use Rattle.std.specs.Ordering.{nat_cmp}
use Rattle.std.specs.Prelude.{Bool, Option, ℕ}
use Rattle.record_values.specs.Values.{Place}
use Rattle.record_values.specs.declared.pair.Pair.{Pair}
use Rattle.model.specs.Table.{Table}
use Rattle.record_values.specs.Entries.{Index}
use Rattle.model.specs.declared.life.Life.{Life}
use Rattle.core_model.specs.Changes.{Changes}

-- how far a transaction is with its newest change
pub data Phase : Type 0 where
  OldMarked : Phase  -- the old pair is marked, and the row is owed
  RowSet : Phase  -- the row is set, and the new pair is owed
  Made : Phase  -- nothing is owed, or there is no change
  -- being undone: the new pair is marked, and the row is still as the forward steps left it
  NewMarked : (applied : Bool) → Phase
  OldSet : Phase  -- being undone: the old row is back, and the old pair is owed

-- an active transaction
pub record Active : Type 0 where
  pub changes : Changes  -- those that may still be taken back, the oldest first
  pub phase : Phase
  pub rolling : Bool  -- whether it is rolling back

-- how many entry places each active transaction has reserved and not used
abbrev pub Pledges : Type 0
Pledges = FinMap nat_cmp ℕ

-- the machine: rows, entries, transactions, the builder and the cleaner, as plain data
pub record State : Type 0 where
  pub rows : Table
  pub entries : Index
  pub txns : ℕ → Option Active
  pub holder : Place → Option ℕ  -- the active transaction that touched a row
  pub pledges : Pledges
  pub life : Life
  pub pages : ℕ  -- the geometry's pages
  pub places : ℕ  -- the geometry's entries
  pub bound : Option Pair  -- the pair attempted last in this run and build, else the one that was checkpointed
  pub given : Pair → Bool  -- the pairs that some taking of a page gave to the scan
  pub missed : Pair → Bool  -- the pairs that some taking of their page did not give
  pub taken : ℕ → Bool  -- the pages taken
  pub cleaned : Option Pair  -- the cleaner's place
  pub committed : Table  -- the table of the commits

-- What lies in the pages of a store.
use Rattle.std.specs.Prelude.{◌≡◌, ◌≢◌, ℕ, ◌<◌, List, All, Some, None}
use Rattle.std.specs.FinMap as map
use Rattle.records.specs.ChangeValue.{ChangeValue}
use Rattle.record_values.specs.declared.pair.Pair.{Pair}
use Rattle.model.specs.declared.life.Life.{Life}
use Rattle.model.specs.declared.life.Life.TheVariants.{Building}
use Rattle.record_values.specs.Entries.{Index}
use Rattle.model.specs.Cells.{Cells, list_of}
use Rattle.model.specs.Following.{IsWithin}
use Rattle.model.specs.Given.{Given}

-- each entry is of a row's place in one of so many pages
abbrev pub AreEntriesWithin : ℕ → Index → Type 0
AreEntriesWithin pages entries = (p : Pair) → map.get entries p ≢ None → p.rid.page < pages

-- each of these changes is of a row in one of so many pages
abbrev pub AreChangesWithin : ℕ → List ChangeValue → Type 0
AreChangesWithin pages changes = All (λ c. c.rid.page < pages) changes

-- so is the pair that was checkpointed last
abbrev pub IsLifeWithin : ℕ → Life → Type 0
IsLifeWithin pages life = (p : Pair) → life ≡ Building (Some p) → p.rid.page < pages

-- the cells are those of a store of so many pages
pub record AreInside (pages : ℕ) (cells : Cells) : Type 0 where
  pub rows : IsWithin pages cells.rows
  pub entries : AreEntriesWithin pages cells.entries
  pub changes : (txn : ℕ) → AreChangesWithin pages (list_of cells.pending txn)
  pub life : IsLifeWithin pages cells.life

-- what is given is of a store of so many pages
pub record IsGivenInside (pages : ℕ) (given : Given) : Type 0 where
  pub rows : IsWithin pages given.table
  pub entries : AreEntriesWithin pages given.entries
  pub life : IsLifeWithin pages given.life

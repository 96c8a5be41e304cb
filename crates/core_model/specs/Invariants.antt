-- What every step keeps.
use Rattle.std.specs.FinMap.{entries, get, len}
use Rattle.std.specs.Prelude.{Bool, List, None, Option, Some, [], cond, false, is_some, length, true, ℕ, ◌+◌, ◌<◌, ◌∷◌}
use Rattle.std.specs.Prelude.{◌≡◌, ◌≢◌, ◌≤◌, ◌⊎◌}
use Rattle.records.specs.ChangeValue.{ChangeValue}
use Rattle.records.specs.Spelling.{old_row}
use Rattle.record_values.specs.Values.{Place}
use Rattle.record_values.specs.declared.pair.Mark.TheVariants.{Live, Marked}
use Rattle.record_values.specs.declared.pair.Pair.{Pair}
use Rattle.record_values.specs.declared.row.Row.{Row}
use Rattle.model.specs.Table.{IsPairOf, Table, applied}
use Rattle.record_values.specs.Entries.{Index}
use Rattle.model.specs.declared.life.Life.{Life}
use Rattle.model.specs.declared.life.Life.TheVariants.{Absent, Building, Complete}
use Rattle.core_model.specs.Changes.{Changes, Unchanged, latest, as_list, new_pair, old_pair, pair_of, ◌▹◌}
use Rattle.core_model.specs.States.{Active, Made, NewMarked, OldMarked, OldSet, Phase, RowSet, State}
use Rattle.core_model.specs.Steps.{Drop, IsEnabled, MachineStep, after, all_reserved, is_applied, is_indexed}
use Rattle.record_values.specs.Orders.{is_above}
use Rattle.core_model.specs.Steps.{reserved}

-- ---- rows, entries, builder

-- the newest change names this row, and is neither made nor taken back whole
abbrev pub IsBusyWith : Changes → Phase → Place → Type 0
IsBusyWith Unchanged phase r = ⊥
IsBusyWith (older ▹ c) phase r = (c.rid ≡ r) × (phase ≢ Made)

-- a row with an unfinished change
pub record IsUnfinished (s : State) (r : Place) : Type 0 where
  pub transaction : ℕ
  pub txn : Active
  pub active : s.txns transaction ≡ Some txn
  pub busy : IsBusyWith txn.changes txn.phase r

-- the changes that the rows show
abbrev pub applied_of : Changes → Bool → Changes
applied_of Unchanged applied = Unchanged
applied_of (older ▹ c) true = older ▹ c
applied_of (older ▹ c) false = older

-- the changes that the rows show: all, but for a newest one that has not set its row, or whose row is back
abbrev pub made_of : Active → Changes
made_of x = applied_of x.changes (is_applied x.phase)

-- each change names a row that this transaction holds
abbrev pub IsHolderOf : (Place → Option ℕ) → ℕ → Changes → Type 0
IsHolderOf holder t Unchanged = Unit {0}
IsHolderOf holder t (older ▹ c) = (holder c.rid ≡ Some t) × IsHolderOf holder t older

-- each change began from what the older ones made of the committed table
abbrev pub IsChained : Table → Changes → Type 0
IsChained committed Unchanged = Unit {0}
IsChained committed (older ▹ c) = (old_row c.rows ≡ latest older c.rid (get committed c.rid))
    × IsChained committed older

-- there is this pair, and it is so
pub record HasPair (pair : Option Pair) (P : Pair → Type 0) : Type 0 where
  pub it : Pair
  pub is : pair ≡ Some it
  pub holds : P it

-- the newest change has the pair that its phase speaks of; a pair that its steps or its undo have marked, with the row
-- owed, is marked
abbrev pub IsInPhase : Bool → Index → ChangeValue → Phase → Bool → Type 0
IsInPhase indexed entries c OldMarked rolling = HasPair (old_pair indexed c) (λ p. rolling ≡ false
    → get entries p ≡ Some Marked)
IsInPhase indexed entries c RowSet rolling = HasPair (new_pair indexed c) (λ p. Unit {0})
IsInPhase indexed entries c Made rolling = Unit {0}
IsInPhase indexed entries c (NewMarked applied) rolling =
    HasPair (new_pair indexed c) (λ p. get entries p ≡ Some Marked)
IsInPhase indexed entries c OldSet rolling = HasPair (old_pair indexed c) (λ p. Unit {0})

-- so is the newest change of the transaction; with none, nothing is owed
abbrev pub IsPhaseOf : Bool → Index → Changes → Phase → Bool → Type 0
IsPhaseOf indexed entries Unchanged phase rolling = phase ≡ Made
IsPhaseOf indexed entries (older ▹ c) phase rolling = IsInPhase indexed entries c phase rolling

-- the transaction holds the rows that it changed, each change began from what the older ones made, and its phase is so
pub record TxnHolds (s : State) (t : ℕ) (x : Active) : Type 0 where
  pub names : IsHolderOf s.holder t x.changes
  pub chained : IsChained s.committed x.changes
  pub phase : IsPhaseOf (is_indexed s.life) s.entries x.changes x.phase x.rolling

-- the row at a held place is what its holder's changes made of the committed row
pub record IsHeld (s : State) (r : Place) (t : ℕ) : Type 0 where
  pub txn : Active
  pub active : s.txns t ≡ Some txn
  pub row : get s.rows r ≡ latest (made_of txn) r (get s.committed r)
  pub inside : r.page < s.pages

-- the builder is still to come to this pair
abbrev pub IsAhead : Life → Option Pair → (Pair → Bool) → Pair → Type 0
IsAhead Absent bound missed p = Unit {0}
IsAhead (Building highest) bound missed p = (is_above bound p ≡ true) × (missed p ≡ false)
IsAhead Complete bound missed p = ⊥

-- the pair is live, or has no entry and the builder is still to come to it
abbrev pub IsVisibleOrAhead : State → Pair → Type 0
IsVisibleOrAhead s p = (get s.entries p ≡ Some Live) ⊎ (get s.entries p ≡ None) × IsAhead s.life s.bound s.missed p

-- a pair that a page gave still is that of a row, or has an entry
abbrev pub IsBacked : State → Pair → Type 0
IsBacked s p = IsPairOf s.rows p ⊎ (get s.entries p ≢ None)

-- rows, entries and transactions fit each other, and the builder passes over no row
pub record IsCoherent (s : State) : Type 0 where
  pub free : (r : Place) → s.holder r ≡ None → get s.rows r ≡ get s.committed r
  pub held : (r : Place) (t : ℕ) → s.holder r ≡ Some t → IsHeld s r t
  pub inside : (r : Place) (row : Row) → get s.rows r ≡ Some row → r.page < s.pages
  pub txns : (t : ℕ) (x : Active) → s.txns t ≡ Some x → TxnHolds s t x
  pub sound : (p : Pair) → get s.entries p ≡ Some Live → IsPairOf s.rows p
  pub visible : (r : Place) (row : Row) → get s.rows r ≡ Some row → (IsUnfinished s r → ⊥)
      → IsVisibleOrAhead s (pair_of r row)
  pub empty : s.life ≡ Absent → (p : Pair) → get s.entries p ≡ None
  pub backed : (highest : Option Pair) → s.life ≡ Building highest → (p : Pair) → s.given p ≡ true
      → is_above s.bound p ≡ true → IsBacked s p
  pub behind : (highest : Option Pair) → s.life ≡ Building highest → (p : Pair) → is_above s.bound p ≡ true
      → is_above highest p ≡ true

-- ---- places of entries

-- one where this pair has no entry, else none
abbrev pub lacks : Index → Option Pair → ℕ
lacks entries None = 0
lacks entries (Some p) = cond (is_some (get entries p)) 0 1

-- how many of the pairs of these changes have no entry
abbrev pub lacking : Bool → Index → Changes → ℕ
lacking indexed entries Unchanged = 0
lacking indexed entries (older ▹ c) = lacks entries (old_pair indexed c) + lacks entries
    (new_pair indexed c) + lacking indexed entries older

-- entries and reserved places fit the geometry, and each transaction has reserved a place for each entry that its steps
-- and their undo may add
pub record HasPlaces (s : State) : Type 0 where
  pub fits : len s.entries + all_reserved s.pledges ≤ s.places
  pub enough : (t : ℕ) (x : Active) → s.txns t ≡ Some x
      → lacking (is_indexed s.life) s.entries x.changes ≤ reserved s.pledges t

-- the transactions that have a number of reserved places, be it none, are the active ones
abbrev pub IsPledged : State → Type 0
IsPledged s = (t : ℕ) → is_some (get s.pledges t) ≡ is_some (s.txns t)

-- ---- positions of changes

-- the positions count from the oldest change
abbrev pub IsNumbered : Changes → Type 0
IsNumbered Unchanged = Unit {0}
IsNumbered (older ▹ c) = (c.position ≡ length (as_list older)) × IsNumbered older

-- ---- the store's pages

-- entries, the builder's places and the pairs that pages gave are of the store's pages
pub record IsStateInside (s : State) : Type 0 where
  pub entries : (p : Pair) → get s.entries p ≢ None → p.rid.page < s.pages
  pub bound : (p : Pair) → s.bound ≡ Some p → p.rid.page < s.pages
  pub highest : (p : Pair) → s.life ≡ Building (Some p) → p.rid.page < s.pages
  pub given : (p : Pair) → s.given p ≡ true → p.rid.page < s.pages

-- ---- what a core needs to be safe, whatever rows and entries it began with

-- the change has the pair that its phase speaks of
abbrev pub HasShape : Bool → ChangeValue → Phase → Type 0
HasShape indexed c OldMarked = HasPair (old_pair indexed c) (λ p. Unit {0})
HasShape indexed c RowSet = HasPair (new_pair indexed c) (λ p. Unit {0})
HasShape indexed c Made = Unit {0}
HasShape indexed c (NewMarked applied) = HasPair (new_pair indexed c) (λ p. Unit {0})
HasShape indexed c OldSet = HasPair (old_pair indexed c) (λ p. Unit {0})

-- the newest change has the pair that its phase speaks of; with none, nothing is owed
abbrev pub IsShaped : Bool → Changes → Phase → Type 0
IsShaped indexed Unchanged phase = phase ≡ Made
IsShaped indexed (older ▹ c) phase = HasShape indexed c phase

-- the transaction holds the rows that it changed, its phase fits, and its changes count from 0
pub record IsFit (holder : Place → Option ℕ) (indexed : Bool) (t : ℕ) (x : Active) : Type 0 where
  pub names : IsHolderOf holder t x.changes
  pub shaped : IsShaped indexed x.changes x.phase
  pub numbered : IsNumbered x.changes

-- what safety needs, whatever rows and entries the core began with
pub record IsWellFormed (s : State) : Type 0 where
  pub rows : (r : Place) (row : Row) → get s.rows r ≡ Some row → r.page < s.pages
  pub held : (r : Place) (t : ℕ) → s.holder r ≡ Some t → r.page < s.pages
  pub txns : (t : ℕ) (x : Active) → s.txns t ≡ Some x → IsFit s.holder (is_indexed s.life) t x
  pub places : HasPlaces s
  pub inside : IsStateInside s
  pub pledged : IsPledged s

-- ---- all of it

-- what every step keeps: what safety needs, and what the theorem needs
pub record Invariant (s : State) : Type 0 where
  pub fit : IsWellFormed s
  pub coherent : IsCoherent s

-- the index is not dropped by these steps
abbrev pub IsOneBuild : List MachineStep → Type 0
IsOneBuild [] = Unit {0}
IsOneBuild (e ∷ es) = (e ≢ Drop) × IsOneBuild es

-- a run of the core
pub data Runs : State → List MachineStep → State → Type 0 where
  no_step : {s : State} → Runs s [] s
  one_step : {s s' : State} (e : MachineStep) (es : List MachineStep) → IsEnabled s e → Runs (after s e) es s'
      → Runs s (e ∷ es) s'

-- Which records can follow one another on a log: a reader refuses any other.
use Rattle.std.specs.Prelude.{◌≡◌, ◌≢◌, ◌⊎◌, ℕ, ◌+◌, ◌<◌, List, [], ◌∷◌, ◌++◌, length, Option, Some, None}
use Rattle.std.specs.FinMap as finite
use Rattle.record_values.specs.Values.{Place}
use Rattle.records.specs.ChangeValue.{ChangeValue}
use Rattle.records.specs.RecordValue.{RecordValue}
use Rattle.record_values.specs.declared.txn.TheConstants.{TXNS_MAX}
use Rattle.record_values.specs.declared.pair.Pair.{Pair}
use Rattle.records.specs.declared.record.Part.{Part}
use Rattle.records.specs.declared.record.Part.TheVariants.{Slot, OldEntry, NewEntry}
use Rattle.records.specs.declared.record.TxnAction.{TxnAction}
use Rattle.records.specs.declared.record.TxnAction.TheVariants.{Forward, Undo, Commit, End}
use Rattle.records.specs.declared.record.IndexAction.{IndexAction}
use Rattle.records.specs.declared.record.IndexAction.TheVariants.{Create, BuildPlace, BuildCheckpoint, BuildDone, Clean}
use Rattle.records.specs.declared.record.IndexAction.TheVariants.{Drop}
use Rattle.records.specs.declared.record.Action.{Action}
use Rattle.records.specs.declared.record.Action.TheVariants.{OfTxn, OfIndex}
use Rattle.model.specs.declared.life.Life.{Life}
use Rattle.model.specs.declared.life.Life.TheVariants.{Absent, Building}
use Rattle.record_values.specs.declared.row.Row.{Row}
use Rattle.model.specs.Table.{Table}
use Rattle.model.specs.Cells.{Cells, Pending, list_of, set_by, cells_after}

-- the change is the last one of the list
abbrev pub IsLastOf : List ChangeValue → ChangeValue → Type 0
IsLastOf changes c = (earlier : List ChangeValue) × (changes ≡ earlier ++ c ∷ []) × (c.position ≡ length earlier)

-- the change comes next on the list, or is its last one again
abbrev pub IsNextOn : List ChangeValue → ChangeValue → Type 0
IsNextOn changes c = (c.position ≡ length changes) ⊎ IsLastOf changes c

-- the transaction has made a record already, or fewer than `TXNS_MAX` have that neither committed nor ended
abbrev pub IsAdmitted : Pending → ℕ → Type 0
IsAdmitted pending txn = (finite.get pending txn ≢ None) ⊎ (length (finite.entries pending) < TXNS_MAX)

-- a step on a row needs nothing more, a step on an entry an index
abbrev pub AllowsPart : Life → Part → Type 0
AllowsPart life Slot = Unit {0}
AllowsPart life OldEntry = life ≢ Absent
AllowsPart life NewEntry = life ≢ Absent

-- a transaction's record that may come: of a page of the store, a part that there is, and the next or the last change
-- of its list
abbrev pub CanFollowTxn : ℕ → Cells → ℕ → TxnAction → Type 0
CanFollowTxn pages cells txn (Forward part c) = (c.rid.page < pages) × AllowsPart cells.life part
    × IsNextOn (list_of cells.pending txn) c × IsAdmitted cells.pending txn
CanFollowTxn pages cells txn (Undo part c last) = (c.rid.page < pages) × AllowsPart cells.life part
    × IsLastOf (list_of cells.pending txn) c
CanFollowTxn pages cells txn Commit = Unit {0}
CanFollowTxn pages cells txn End = Unit {0}

-- the index is being built
abbrev pub IsBuilding : Life → Type 0
IsBuilding life = (highest : Option Pair) × (life ≡ Building highest)

-- a record of the index that may come in this life of it
abbrev pub CanFollowIndex : ℕ → Life → IndexAction → Type 0
CanFollowIndex pages life Create = life ≡ Absent
CanFollowIndex pages life (BuildPlace pair) = (pair.rid.page < pages) × IsBuilding life
CanFollowIndex pages life (BuildCheckpoint pair) = (pair.rid.page < pages) × IsBuilding life
CanFollowIndex pages life BuildDone = IsBuilding life
CanFollowIndex pages life (Clean pair) = (pair.rid.page < pages) × (life ≢ Absent)
CanFollowIndex pages life Drop = life ≢ Absent

-- a record's action that may come over these cells
abbrev pub CanFollowBy : ℕ → Cells → Action → Type 0
CanFollowBy pages cells (OfTxn txn action) = CanFollowTxn pages cells txn action
CanFollowBy pages cells (OfIndex action) = CanFollowIndex pages cells.life action

-- in a store of so many pages, the record can follow the record `last`, which left these cells
pub record CanFollow (pages last : ℕ) (cells : Cells) (r : RecordValue) : Type 0 where
  pub number : r.number ≡ last + 1
  pub allowed : CanFollowBy pages cells r.action

-- each record can follow the one before, the first of them the record `last`, which left these cells
abbrev pub AreFollowing : ℕ → ℕ → Cells → List RecordValue → Type 0
AreFollowing pages last cells [] = Unit {0}
AreFollowing pages last cells (r ∷ records) = CanFollow pages last cells r
    × AreFollowing pages (last + 1) (set_by cells r.action) records

-- the record at index n, from 0, is the first that can't follow the ones before it
pub record IsFirstUnfit (pages last : ℕ) (cells : Cells) (records : List RecordValue) (n : ℕ) : Type 0 where
  pub earlier : List RecordValue
  pub unfit : RecordValue
  pub later : List RecordValue
  pub all : records ≡ earlier ++ unfit ∷ later
  pub index : n ≡ length earlier
  pub following : AreFollowing pages last cells earlier
  pub refused : ¬ CanFollow pages (last + n) (cells_after cells earlier) unfit

-- each row is in one of so many pages
abbrev pub IsWithin : ℕ → Table → Type 0
IsWithin pages rows = (q : Place) (row : Row) → finite.get rows q ≡ Some row → q.page < pages

-- each of these changes has its place on the list as its position, the first of them n, and is of a row on one of so
-- many pages
abbrev pub ArePlaced : ℕ → ℕ → List ChangeValue → Type 0
ArePlaced pages n [] = Unit {0}
ArePlaced pages n (c ∷ changes) = (c.position ≡ n) × (c.rid.page < pages) × ArePlaced pages (n + 1) changes

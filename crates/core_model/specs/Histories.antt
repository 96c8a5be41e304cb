-- What a run is to show: the table of its commits, and an index that fits the rows.
use Rattle.std.specs.FinMap.{empty, get, len}
use Rattle.std.specs.Ordering.{nat_cmp}
use Rattle.std.specs.Prelude.{List, None, Option, Some, [], false, map, ℕ, ◌++◌, ◌+◌, ◌<◌, ◌↔◌, ◌∷◌, ◌≡◌, ◌≢◌, ◌≤◌}
use Rattle.records.specs.ChangeValue.{ChangeValue}
use Rattle.records.specs.Spelling.{new_row}
use Rattle.record_values.specs.Values.{Place}
use Rattle.record_values.specs.declared.pair.Mark.TheVariants.{Live, Marked}
use Rattle.record_values.specs.declared.pair.Pair.{Pair}
use Rattle.record_values.specs.declared.row.Row.{Row}
use Rattle.model.specs.Cells.{Cells}
use Rattle.model.specs.Given.{Given}
use Rattle.model.specs.History.{Checkpointed, Committed, Completed, Created, Deed, Dropped, Item}
use Rattle.model.specs.Recovery.{recovered_rows}
use Rattle.model.specs.Table.{IsPairOf, Table}
use Rattle.model.specs.declared.life.Life.{Life}
use Rattle.model.specs.declared.life.Life.TheVariants.{Absent, Building, Complete}
use Rattle.model.specs.declared.write.Write.{Write}
use Rattle.core_model.specs.Changes.{pair_of}
use Rattle.core_model.specs.Invariants.{IsUnfinished}
use Rattle.core_model.specs.Records.{HasCells}
use Rattle.core_model.specs.States.{State}
use Rattle.core_model.specs.Steps.{Attempt, Begin, Checkpoint, Clean, Commit, Create, Drop, End, Finish, Keep, Next}
use Rattle.core_model.specs.Steps.{Start, MachineStep, Take, Undo, Wrap, all_reserved, update}
use Rattle.record_values.specs.Orders.{is_above}

-- ---- the history of a run, read off the changes that were asked for, the commits, and what became of the index

-- before the first step no transaction was asked for anything
abbrev pub no_writes : ℕ → List Write
no_writes t = []

-- what a change sets: its place, with the row after it
abbrev pub write_of : ChangeValue → Write
write_of c = record { rid = c.rid; row = new_row c.rows }

-- what each transaction was asked to set, in order
abbrev pub writes_after : (ℕ → List Write) → MachineStep → ℕ → List Write
writes_after writes (Begin t) = writes
writes_after writes (Start t c) = update nat_cmp writes t (writes t ++ write_of c ∷ [])
writes_after writes (Next t) = writes
writes_after writes (Undo t) = writes
writes_after writes (End t) = update nat_cmp writes t []
writes_after writes (Commit t) = update nat_cmp writes t []
writes_after writes Create = writes
writes_after writes (Take page) = writes
writes_after writes (Attempt p) = writes
writes_after writes (Checkpoint p) = writes
writes_after writes Finish = writes
writes_after writes (Clean p) = writes
writes_after writes (Keep p) = writes
writes_after writes Wrap = writes
writes_after writes Drop = writes

-- what a step adds to the history: a commit, or what becomes of the index
abbrev pub deeds_of : (ℕ → List Write) → MachineStep → List Deed
deeds_of writes (Begin t) = []
deeds_of writes (Start t c) = []
deeds_of writes (Next t) = []
deeds_of writes (Undo t) = []
deeds_of writes (End t) = []
deeds_of writes (Commit t) = Committed (writes t) ∷ []
deeds_of writes Create = Created ∷ []
deeds_of writes (Take page) = []
deeds_of writes (Attempt p) = []
deeds_of writes (Checkpoint p) = Checkpointed p ∷ []
deeds_of writes Finish = Completed ∷ []
deeds_of writes (Clean p) = []
deeds_of writes (Keep p) = []
deeds_of writes Wrap = []
deeds_of writes Drop = Dropped ∷ []

-- what these steps tell, one after another
abbrev pub history : (ℕ → List Write) → List MachineStep → List Deed
history writes [] = []
history writes (e ∷ es) = deeds_of writes e ++ history (writes_after writes e) es

-- these items have the deeds of the history
abbrev pub AreItemsOf : List Item → List MachineStep → Type 0
AreItemsOf items steps = map (λ (item : Item). item.deed) items ≡ history no_writes steps

-- ---- a core over loaded cells

-- the pair that was checkpointed last, where the index is being built and one was
abbrev pub highest_of : Life → Option Pair
highest_of Absent = None
highest_of (Building highest) = highest
highest_of Complete = None

-- what a core begins with, in a store of so many pages and entries
pub record Opened : Type 0 where
  pub given : Given
  pub pages : ℕ
  pub places : ℕ

-- the core over these cells, with no transaction
abbrev pub opened : Opened → State
opened o =
    record {
      rows = o.given.table;
      entries = o.given.entries;
      txns = λ t. None;
      holder = λ r. None;
      pledges = empty;
      life = o.given.life;
      pages = o.pages;
      places = o.places;
      bound = highest_of o.given.life;
      given = λ p. false;
      missed = λ p. false;
      taken = λ n. false;
      cleaned = None;
      committed = o.given.table;
    }

-- where the index must have each row's pair
abbrev pub IsCovered : Life → Option Pair → Pair → Type 0
IsCovered Absent bound p = ⊥
IsCovered (Building highest) bound p = is_above bound p ≡ false
IsCovered Complete bound p = Unit {0}

-- what fits the store: with that a core is safe
pub record FitsStore (o : Opened) : Type 0 where
  pub rows : (r : Place) (row : Row) → get o.given.table r ≡ Some row → r.page < o.pages
  pub entries : (p : Pair) → get o.given.entries p ≢ None → p.rid.page < o.pages
  pub highest : (p : Pair) → o.given.life ≡ Building (Some p) → p.rid.page < o.pages
  pub room : len o.given.entries ≤ o.places

-- what a core may begin with
pub record CanOpen (o : Opened) : Type 0 where
  pub fits : FitsStore o
  pub sound : (p : Pair) → get o.given.entries p ≡ Some Live → IsPairOf o.given.table p
  pub complete : (r : Place) (row : Row) → get o.given.table r ≡ Some row
      → IsCovered o.given.life (highest_of o.given.life) (pair_of r row)
      → get o.given.entries (pair_of r row) ≡ Some Live
  pub unmarked : (r : Place) (row : Row) → get o.given.table r ≡ Some row
      → get o.given.entries (pair_of r row) ≢ Some Marked
  pub empty : o.given.life ≡ Absent → (p : Pair) → get o.given.entries p ≡ None

-- ---- what holds after any steps

-- the rows with the changes of every active transaction taken back are the committed table, each live entry names a
-- live row with its key, each live row without an unfinished change has its entry live as far as the index is built,
-- without an index there is no entry, and the entries with the reserved places fit the geometry
pub record IsFaithful (s : State) (committed : Table) : Type 0 where
  pub back : (cells : Cells) → HasCells s cells → recovered_rows cells ≡ committed
  pub sound : (p : Pair) → get s.entries p ≡ Some Live → IsPairOf s.rows p
  pub complete : (r : Place) (row : Row) → get s.rows r ≡ Some row → (IsUnfinished s r → ⊥)
      → IsCovered s.life s.bound (pair_of r row) → get s.entries (pair_of r row) ≡ Some Live
  pub empty : s.life ≡ Absent → (p : Pair) → get s.entries p ≡ None
  pub fits : len s.entries + all_reserved s.pledges ≤ s.places

-- with a complete index and no active transaction, the live entries are just the pairs of the rows
abbrev pub ShowsJustTheRows : State → Type 0
ShowsJustTheRows s = (p : Pair) → (get s.entries p ≡ Some Live) ↔ IsPairOf s.rows p

-- the writes after these steps
abbrev pub writes_over : (ℕ → List Write) → List MachineStep → ℕ → List Write
writes_over writes [] = writes
writes_over writes (e ∷ es) = writes_over (writes_after writes e) es

-- The steps of the core: what each does, and when it is enabled.
use Rattle.std.specs.Cmp.Lexicographic.{slice_cmp}
use Rattle.std.specs.FinMap.{empty, entries, get, insert, len, remove, values}
use Rattle.std.specs.Ordering.{eq_by_cmp, nat_cmp}
use Rattle.std.specs.Prelude.{Bool, None, Option, Some, cond, false, length, nat_eq, not, sum, true, unwrap_or, ℕ, ◌&&◌}
use Rattle.std.specs.Prelude.{◌+◌, ◌-◌, ◌<◌, ◌||◌, ◌≡◌, ◌≢◌, ◌≤◌, ◌⊎◌}
use Rattle.std.specs.declared.cmp.Ordering.{Ordering}
use Rattle.records.specs.ChangeValue.{ChangeValue}
use Rattle.record_values.specs.Maps.{set_at}
use Rattle.record_values.specs.Orders.{is_above, rid_cmp}
use Rattle.records.specs.Spelling.{new_row, old_row}
use Rattle.record_values.specs.declared.pair.Mark.TheVariants.{Live, Marked}
use Rattle.record_values.specs.declared.pair.Pair.{Pair}
use Rattle.record_values.specs.declared.row.Row.{Row}
use Rattle.model.specs.Committed.{writes_of}
use Rattle.record_values.specs.KeyActions.{after_action}
use Rattle.model.specs.Table.{Table, applied}
use Rattle.record_values.specs.Entries.{Index}
use Rattle.record_values.specs.declared.key_action.KeyAction.TheVariants.{BuildPut}
use Rattle.model.specs.declared.life.Life.{Life}
use Rattle.model.specs.declared.life.Life.TheVariants.{Absent, Building, Complete}
pub use Rattle.model.specs.Following.{IsBuilding}
pub use Rattle.model.specs.Pairs.{is_indexed, with_entry}
use Rattle.core_model.specs.Changes.{Changes, Unchanged, as_list, new_pair, old_pair, ◌▹◌}
use Rattle.record_values.specs.declared.limits.TheConstants.{PLACES_PER_CHANGE}
use Rattle.core_model.specs.States.{Active, Made, NewMarked, OldMarked, OldSet, Phase, Pledges, RowSet, State}

-- the function with this value at this argument
unfoldable pub update : {K X : Type 0} → (K → K → Ordering) → (K → X) → K → X → K → X
update R f k v q = cond (eq_by_cmp R q k) v (f q)

-- whether a pair is that of a row
abbrev pub is_pair_of : Option Row → Pair → Bool
is_pair_of None p = false
is_pair_of (Some row) p = eq_by_cmp (slice_cmp nat_cmp) row.key p.key

-- ---- transactions

-- a transaction that has done nothing
abbrev pub new_txn : Active
new_txn = record { changes = Unchanged; phase = Made; rolling = false }

-- the active transaction of this number, or a new one
abbrev pub txn_at : State → ℕ → Active
txn_at s t = unwrap_or (s.txns t) new_txn

-- the active transactions with this one changed
abbrev pub with_txn : State → ℕ → Active → ℕ → Option Active
with_txn s t x = update nat_cmp s.txns t (Some x)

-- the phase after the row is set
abbrev pub row_made : Option Pair → Phase
row_made None = Made
row_made (Some p) = RowSet

-- whether the row is as the change makes it
abbrev pub is_applied : Phase → Bool
is_applied OldMarked = false
is_applied RowSet = true
is_applied Made = true
is_applied (NewMarked applied) = applied
is_applied OldSet = false

-- the transaction in another phase
abbrev pub with_phase : Active → Phase → Active
with_phase x phase = record x { phase = phase }

-- the transaction with one change more, in this phase
abbrev pub with_change : Active → ChangeValue → Phase → Active
with_change x c phase = record x { changes = x.changes ▹ c; phase = phase }

-- the newest change is taken off
abbrev pub without_newest : Changes → Active
without_newest older = record { changes = older; phase = Made; rolling = true }

-- the transaction rolling back, in this phase
abbrev pub undoing : Active → Phase → Active
undoing x phase = record { changes = x.changes; phase = phase; rolling = true }

-- the first step of a change, which marks this pair where there is one, and else sets the row
abbrev pub started : State → ℕ → Active → ChangeValue → Option Pair → State
started s t x c (Some p) = record s {
  entries = set_at s.entries p (Some Marked);
  txns = with_txn s t (with_change x c OldMarked);
  holder = update rid_cmp s.holder c.rid (Some t);
}
started s t x c None = record s {
  rows = set_at s.rows c.rid (new_row c.rows);
  txns = with_txn s t (with_change x c (row_made (new_pair (is_indexed s.life) c)));
  holder = update rid_cmp s.holder c.rid (Some t);
}

-- the step that a transaction owes
abbrev pub carried_on : State → ℕ → Active → Changes → Phase → State
carried_on s t x (older ▹ c) OldMarked = record s {
  rows = set_at s.rows c.rid (new_row c.rows);
  txns = with_txn s t (with_phase x (row_made (new_pair (is_indexed s.life) c)));
}
carried_on s t x (older ▹ c) RowSet = record s {
  entries = with_entry s.entries (new_pair (is_indexed s.life) c) Live;
  txns = with_txn s t (with_phase x Made);
}
carried_on s t x _ _ = s

-- the old row is set again, and this old pair is then owed, or the undo is at its end
abbrev pub row_undone : Active → Changes → Option Pair → Active
row_undone x older None = without_newest older
row_undone x older (Some p) = undoing x OldSet

-- the old row is back, and the old pair is owed, or the change is off
abbrev pub undone_row : State → ℕ → Active → ChangeValue → Changes → State
undone_row s t x c older = record s {
  rows = set_at s.rows c.rid (old_row c.rows);
  txns = with_txn s t (row_undone x older (old_pair (is_indexed s.life) c));
}

-- the first undo step, which marks this pair where there is one, and else sets the row
abbrev pub undone_first : State → ℕ → Active → ChangeValue → Changes → Bool → Option Pair → State
undone_first s t x c older applied (Some p) = record s {
  entries = set_at s.entries p (Some Marked);
  txns = with_txn s t (undoing x (NewMarked applied));
}
undone_first s t x c older applied None = undone_row s t x c older

-- the next step of an undo, by the phase of the newest change; with no change the transaction is only rolling back
abbrev pub undone : State → ℕ → Active → Changes → Phase → State
undone s t x Unchanged phase = record s { txns = with_txn s t (undoing x phase) }
undone s t x (older ▹ c) OldMarked = undone_first s t x c older false (new_pair (is_indexed s.life) c)
undone s t x (older ▹ c) RowSet = undone_first s t x c older true (new_pair (is_indexed s.life) c)
undone s t x (older ▹ c) Made = undone_first s t x c older true (new_pair (is_indexed s.life) c)
undone s t x (older ▹ c) (NewMarked applied) = undone_row s t x c older
undone s t x (older ▹ c) OldSet = record s {
  entries = with_entry s.entries (old_pair (is_indexed s.life) c) Live;
  txns = with_txn s t (without_newest older);
}

-- a place's holder once the transaction is over
abbrev pub freed : ℕ → Option ℕ → Option ℕ
freed t None = None
freed t (Some u) = cond (eq_by_cmp nat_cmp u t) None (Some u)

-- a transaction leaves: its rows are free, and this is the committed table
abbrev pub left : State → ℕ → Table → State
left s t committed = record s {
  txns = update nat_cmp s.txns t None;
  holder = λ r. freed t (s.holder r);
  committed = committed;
}

-- ---- the builder and the cleaner

-- the index is being built, and the builder has done nothing
abbrev pub created : State → State
created s = record s { life = Building None; bound = None; given = λ p. false; missed = λ p. false; taken = λ n. false }

-- no entry is left, and nothing of the builder and the cleaner
abbrev pub dropped : State → State
dropped s = record s {
  entries = empty;
  life = Absent;
  bound = None;
  given = λ p. false;
  missed = λ p. false;
  taken = λ n. false;
  cleaned = None;
}

-- the builder has taken this page: each pair counts as given or as missed by it
abbrev pub page_taken : State → ℕ → State
page_taken s n = record s {
  given = λ p. s.given p || (nat_eq p.rid.page n && is_pair_of (get s.rows p.rid) p);
  missed = λ p. s.missed p || (nat_eq p.rid.page n && not (is_pair_of (get s.rows p.rid) p));
  taken = λ m. s.taken m || nat_eq m n;
}

-- the builder's action on this pair, which is the bound from then on
abbrev pub attempted : State → Pair → State
attempted s p = record s { entries = set_at s.entries p (after_action BuildPut (get s.entries p)); bound = Some p }

-- ---- all steps

-- the steps of the machine, of transactions, builder and cleaner
pub data MachineStep : Type 0 where
  Begin : (t : ℕ) → MachineStep
  Start : (t : ℕ) → ChangeValue → MachineStep
  Next : (t : ℕ) → MachineStep
  Undo : (t : ℕ) → MachineStep
  End : (t : ℕ) → MachineStep
  Commit : (t : ℕ) → MachineStep
  Create : MachineStep
  Take : (page : ℕ) → MachineStep
  Attempt : Pair → MachineStep
  Checkpoint : Pair → MachineStep
  Finish : MachineStep
  Clean : Pair → MachineStep
  Keep : Pair → MachineStep
  Wrap : MachineStep
  Drop : MachineStep

-- what a step makes of the cells, the transactions, the builder and the cleaner
abbrev pub moved_by : State → MachineStep → State
moved_by s (Begin t) = record s { txns = with_txn s t new_txn }
moved_by s (Start t c) = started s t (txn_at s t) c (old_pair (is_indexed s.life) c)
moved_by s (Next t) = carried_on s t (txn_at s t) (txn_at s t).changes (txn_at s t).phase
moved_by s (Undo t) = undone s t (txn_at s t) (txn_at s t).changes (txn_at s t).phase
moved_by s (End t) = left s t s.committed
moved_by s (Commit t) = left s t (applied s.committed (writes_of (as_list (txn_at s t).changes)))
moved_by s Create = created s
moved_by s (Take page) = page_taken s page
moved_by s (Attempt p) = attempted s p
moved_by s (Checkpoint p) = record s { life = Building (Some p) }
moved_by s Finish = record s { life = Complete }
moved_by s (Clean p) = record s { entries = set_at s.entries p None; cleaned = Some p }
moved_by s (Keep p) = record s { cleaned = Some p }
moved_by s Wrap = record s { cleaned = None }
moved_by s Drop = dropped s

-- ---- reserved entry places

-- how many entry places a change reserves
abbrev pub places_of : Bool → ℕ
places_of false = 0
places_of true = PLACES_PER_CHANGE

-- how many places the transaction has reserved and not used
abbrev pub reserved : Pledges → ℕ → ℕ
reserved pledges t = unwrap_or (get pledges t) 0

-- how many places are reserved in all
abbrev pub all_reserved : Pledges → ℕ
all_reserved pledges = sum (values pledges)

-- a transaction reserves so many more places, and uses one for each entry that it adds
abbrev pub places_used : Pledges → ℕ → (more used : ℕ) → Pledges
places_used pledges t more used = insert pledges t (reserved pledges t + more - used)

-- the transaction reserves so many more, and has used one for each entry that was added
abbrev pub with_places : State → ℕ → ℕ → Index → Pledges
with_places s t more entries = places_used s.pledges t more (len entries - len s.entries)

-- the reserved places after a step that left these entries
abbrev pub pledges_after : State → MachineStep → Index → Pledges
pledges_after s (Begin t) entries = insert s.pledges t 0
pledges_after s (Start t c) entries = with_places s t (places_of (is_indexed s.life)) entries
pledges_after s (Next t) entries = with_places s t 0 entries
pledges_after s (Undo t) entries = with_places s t 0 entries
pledges_after s (End t) entries = remove s.pledges t
pledges_after s (Commit t) entries = remove s.pledges t
pledges_after s _ entries = s.pledges

-- the state after a step
abbrev pub after : State → MachineStep → State
after s e = record (moved_by s e) { pledges = pledges_after s e (moved_by s e).entries }

-- ---- when a step is enabled

-- the transaction is active
abbrev pub IsActive : State → ℕ → Type 0
IsActive s t = s.txns t ≡ Some (txn_at s t)

-- nothing is owed, and nothing is being undone
abbrev pub IsReady : Active → Type 0
IsReady x = (x.phase ≡ Made) × (x.rolling ≡ false)

-- there is room for the places that a change reserves
abbrev pub HasFreePlaces : State → Type 0
HasFreePlaces s = is_indexed s.life ≡ true → len s.entries + all_reserved s.pledges + places_of true ≤ s.places

-- when a change may begin: nothing is owed, the row is as the change found it, nobody else holds it, and there is room
pub record CanStart (s : State) (t : ℕ) (c : ChangeValue) : Type 0 where
  pub active : IsActive s t
  pub ready : IsReady (txn_at s t)
  pub position : c.position ≡ length (as_list (txn_at s t).changes)
  pub before : get s.rows c.rid ≡ old_row c.rows
  pub mine : (s.holder c.rid ≡ None) ⊎ (s.holder c.rid ≡ Some t)
  pub inside : c.rid.page < s.pages
  pub room : HasFreePlaces s

-- every page was taken, and of the pairs that every taking of their page gave, none above the last one attempted is
-- left below this one
pub record CanAttempt (s : State) (p : Pair) : Type 0 where
  pub building : IsBuilding s.life
  pub given : s.given p ≡ true
  pub rising : is_above s.bound p ≡ true
  pub all_taken : (n : ℕ) → n < s.pages → s.taken n ≡ true
  pub none_left : (q : Pair) → is_above s.bound q ≡ true → is_above (Some q) p ≡ true → s.taken q.rid.page ≡ true
      → s.missed q ≡ true
  pub room : get s.entries p ≡ None → len s.entries + all_reserved s.pledges < s.places

-- when a build may end: every page was taken, and no pair above the bound is left that each taking gave
pub record CanFinish (s : State) : Type 0 where
  pub building : IsBuilding s.life
  pub all_taken : (n : ℕ) → n < s.pages → s.taken n ≡ true
  pub none_left : (q : Pair) → is_above s.bound q ≡ true → s.taken q.rid.page ≡ true → s.missed q ≡ true

-- where the cleaner may take out an entry
abbrev pub IsPassed : Life → Pair → Type 0
IsPassed Absent p = ⊥
IsPassed (Building highest) p = is_above highest p ≡ false
IsPassed Complete p = Unit {0}

-- when the cleaner may take an entry out: it is marked, nobody holds its row, and the build has passed it
pub record CanClean (s : State) (p : Pair) : Type 0 where
  pub marked : get s.entries p ≡ Some Marked
  pub free : s.holder p.rid ≡ None
  pub passed : IsPassed s.life p

-- when a step may be made
abbrev pub IsEnabled : State → MachineStep → Type 0
IsEnabled s (Begin t) = s.txns t ≡ None
IsEnabled s (Start t c) = CanStart s t c
IsEnabled s (Next t) = IsActive s t × (txn_at s t).rolling ≡ false
IsEnabled s (Undo t) = IsActive s t
IsEnabled s (End t) = IsActive s t × (txn_at s t).changes ≡ Unchanged
IsEnabled s (Commit t) = IsActive s t × IsReady (txn_at s t)
IsEnabled s Create = (s.life ≡ Absent) × ((t : ℕ) → s.txns t ≡ None)
IsEnabled s (Take page) = IsBuilding s.life
IsEnabled s (Attempt p) = CanAttempt s p
IsEnabled s (Checkpoint p) = IsBuilding s.life × (s.bound ≡ Some p)
IsEnabled s Finish = CanFinish s
IsEnabled s (Clean p) = CanClean s p
IsEnabled s (Keep p) = Unit {0}
IsEnabled s Wrap = Unit {0}
IsEnabled s Drop = (s.life ≢ Absent) × ((t : ℕ) → s.txns t ≡ None)

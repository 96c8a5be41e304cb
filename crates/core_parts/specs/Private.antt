-- Words for the steps of a core's parts. No clause of the core itself cites them.
use Rattle.std.specs.FinMap as map
use Rattle.std.specs.FinMap.{get, len}
use Rattle.std.specs.Prelude.{◌≤◌, ◌-◌, List, None, Option, Some, [], length, true, ℕ, ◌++◌, ◌+◌, ◌<◌, ◌∷◌, ◌≡◌, ◌≢◌}
use Rattle.std.specs.Prelude.{◌⊎◌, false, Contains, min, ◌^◌, ◌↔◌}
use Rattle.std.specs.declared.cmp.Ordering.TheVariants.{Less}
use Rattle.records.specs.ChangeValue.{ChangeValue}
use Rattle.record_values.specs.Maps.{set_at}
use Rattle.record_values.specs.Orders.{rid_cmp}
use Rattle.records.specs.Spelling.{new_row, old_row}
use Rattle.record_values.specs.Values.{Place}
use Rattle.records.specs.declared.change.Rows.{Rows}
use Rattle.records.specs.declared.change.TheConstants.{CHANGES_MAX}
use Rattle.record_values.specs.declared.error.Error.{Error}
use Rattle.record_values.specs.declared.error.Error.TheVariants.{Exhausted, IndexFull, NoIndex, NoSuchRow, NoSuchTxn}
use Rattle.record_values.specs.declared.error.Error.TheVariants.{RowBusy}
use Rattle.record_values.specs.declared.error.Error.TheVariants.{TooManyChanges, IndexExists, TxnsActive, NoMemory}
use Rattle.record_values.specs.declared.row.Row.{Row}
use Rattle.record_values.specs.declared.number.TheConstants.{LAST_NUMBER}
use Rattle.record_values.specs.declared.limits.TheConstants.{PLACES_PER_CHANGE}
use Rattle.record_values.specs.declared.pair.Pair.{Pair}
use Rattle.records.specs.declared.record.Action.{Action}
use Rattle.records.specs.declared.record.Action.TheVariants.{OfTxn, OfIndex}
use Rattle.records.specs.declared.record.Part.{Part}
use Rattle.records.specs.declared.record.Part.TheVariants.{NewEntry, OldEntry, Slot}
use Rattle.record_values.specs.declared.pair.Mark.{Mark}
use Rattle.record_values.specs.declared.pair.Mark.TheVariants.{Live, Marked}
use Rattle.records.specs.declared.record.TxnAction.TheVariants.{Forward, Undo}
use Rattle.records.specs.declared.record.TxnAction.{TxnAction}
use Rattle.records.specs.declared.record.IndexAction.TheVariants as index_action
use Rattle.heap_pages.specs.Pages.{IsPlaceInside, IsPairOnPage}
use Rattle.txn_table.specs.Table.{TxnState, change_noted, holder_of, put_at}
use Rattle.txn_table.specs.declared.progress.Progress.{Progress}
use Rattle.txn_table.specs.declared.progress.Progress.TheVariants.{OwesEntry, OwesRow, Ready, Rolling, UndoesEntry}
use Rattle.txn_table.specs.declared.progress.Progress.TheVariants.{UndoesRow}
use Rattle.txn_table.specs.Table as table
use Rattle.core_steps.specs.declared.step.Cell.{Cell}
use Rattle.core_steps.specs.declared.step.Step.{Step}
use Rattle.core_steps.specs.declared.step.Cell.TheVariants as cell
use Rattle.model.specs.declared.life.Life.TheVariants.{Absent, Building, Complete}
use Rattle.model.specs.Pairs.{is_indexed, new_pair}
use Rattle.record_values.specs.declared.key_action.KeyAction.{KeyAction}
use Rattle.sorted_scan.specs.Scans.{begun, HasRun}
use Rattle.sorted_scan.specs.Runs.{HandedOut, ScanRun, Took, with_step}
use Rattle.marked_index.specs.Index.{pledges_used, IsAbsent, IsFull, entries_after}
use Rattle.marked_index.specs.declared.index.Built.{Built}
use Rattle.marked_index.specs.declared.index.Built.TheVariants as built
use Rattle.core_model.specs.Steps.{places_of, IsPassed}
use Rattle.core_parts.specs.View.{CoreValue}
use Rattle.core_parts.specs.declared.reply.BuildReply.{BuildReply}
use Rattle.core_parts.specs.declared.reply.BuildReply.TheVariants as reply
use Rattle.core_parts.specs.Moves.{txn_shown}

-- how many changes the transaction has
abbrev pub changes_of : Option TxnState → ℕ
changes_of None = 0
changes_of (Some x) = length x.changes

-- how many places it has reserved and not used
abbrev pub reserved_of : Option TxnState → ℕ
reserved_of None = 0
reserved_of (Some x) = x.reserved

-- a place of the heap without a row, which no transaction holds
pub record IsFreePlace (v : CoreValue) (r : Place) : Type 0 where
  pub inside : IsPlaceInside v.heap r
  pub empty : get v.heap.rows r ≡ None
  pub unheld : holder_of r v.txns.active ≡ None

-- there is room for the places of one more change
abbrev pub HasPlacesLeft : CoreValue → Type 0
HasPlacesLeft v = is_indexed v.life ≡ true
    → len v.index.entries + v.index.pledged + PLACES_PER_CHANGE ≤ v.index.capacity

-- with an index, there is no room for the places of one more change
abbrev pub LacksPlaces : CoreValue → Type 0
LacksPlaces v = (is_indexed v.life ≡ true)
    × (v.index.capacity < len v.index.entries + v.index.pledged + PLACES_PER_CHANGE)

-- why a change that nothing else refuses has no room
abbrev pub IsUnroomy : CoreValue → Error → Type 0
IsUnroomy v e = ((e ≡ IndexFull) × LacksPlaces v) ⊎ ((e ≡ Exhausted) × HasPlacesLeft v × (LAST_NUMBER ≤ v.last))

-- a transaction that may make one more change
pub record IsAble (v : CoreValue) (t : ℕ) : Type 0 where
  pub txn : TxnState
  pub here : txn_shown v t ≡ Some txn
  pub room : length txn.changes < CHANGES_MAX

-- an insertion goes to this place
pub record IsPlaceFor (v : CoreValue) (r : Place) : Type 0 where
  pub free : IsFreePlace v r
  pub least : (q : Place) → IsFreePlace v q → rid_cmp q r ≢ Less

-- nothing but want of memory refuses the first step of a change of this row
pub record MayStart (v : CoreValue) (t : ℕ) (r : Place) : Type 0 where
  pub able : IsAble v t
  pub free : table.touch_refusal t r v.txns.active ≡ None
  pub inside : r.page < v.heap.pages
  pub fits : HasPlacesLeft v
  pub numbered : v.last < LAST_NUMBER

-- why a transaction may change no row any more
pub data IsUnable (v : CoreValue) (t : ℕ) (e : Error) : Type 0 where
  is_unknown : txn_shown v t ≡ None → e ≡ NoSuchTxn → IsUnable v t e
  is_full : (x : TxnState) → txn_shown v t ≡ Some x → CHANGES_MAX ≤ length x.changes → e ≡ TooManyChanges
      → IsUnable v t e

-- no other transaction holds the row
abbrev pub IsMine : CoreValue → ℕ → Place → Type 0
IsMine v t r = (u : ℕ) → holder_of r v.txns.active ≡ Some u → u ≡ t

-- why a transaction may not change the row at this place
pub data IsUnchangeable (v : CoreValue) (t : ℕ) (r : Place) (e : Error) : Type 0 where
  is_unable : IsUnable v t e → IsUnchangeable v t r e
  is_busy : IsAble v t → (u : ℕ) → holder_of r v.txns.active ≡ Some u → u ≢ t → e ≡ RowBusy → IsUnchangeable v t r e
  is_missing : IsAble v t → IsMine v t r → get v.heap.rows r ≡ None → e ≡ NoSuchRow → IsUnchangeable v t r e
  is_unroomy : IsAble v t → IsMine v t r → (old : Row) → get v.heap.rows r ≡ Some old → IsUnroomy v e
      → IsUnchangeable v t r e

-- the change that a transaction makes next
abbrev pub next_change : CoreValue → ℕ → Place → Rows → ChangeValue
next_change v t r rows = record { position = changes_of (txn_shown v t); rid = r; rows = rows }

-- the core with one record more that waits
abbrev pub with_record : CoreValue → Action → CoreValue
with_record v action = record v {
  last = v.last + 1;
  outbox = v.outbox ++ record { number = v.last + 1; action = action } ∷ [];
}

-- how far a transaction is once its row is set
abbrev pub row_progress : Option Pair → Progress
row_progress None = Ready
row_progress (Some p) = OwesEntry

-- the transactions after one has noted a change, is so far, and has so many places
abbrev pub change_begun : List (ℕ × TxnState) → ℕ → ChangeValue → Progress → ℕ → List (ℕ × TxnState)
change_begun active t c progress reserved = table.with_state (put_at progress reserved) t
    (table.with_state (change_noted c) t active)

-- the core after the first step of a change that sets the row
abbrev pub row_first : CoreValue → ℕ → ChangeValue → CoreValue
row_first v t c = record v {
  heap = record v.heap { rows = set_at v.heap.rows c.rid (new_row c.rows) };
  txns = record v.txns {
    active = change_begun v.txns.active t c (row_progress (new_pair (is_indexed v.life) c))
        (reserved_of (txn_shown v t) + places_of (is_indexed v.life));
  };
  index = record v.index { pledged = v.index.pledged + places_of (is_indexed v.life) };
  last = v.last + 1;
  outbox = v.outbox ++ record { number = v.last + 1; action = OfTxn t (Forward Slot c) } ∷ [];
}

-- why a transaction's next step, which nothing else refuses, has no record
abbrev pub HasNoRecord : CoreValue → ℕ → Error → Type 0
HasNoRecord v t e = ((e ≡ NoSuchTxn) × (txn_shown v t ≡ None))
    ⊎ ((e ≡ Exhausted) × (txn_shown v t ≢ None) × (LAST_NUMBER ≤ v.last))

-- the transaction is active, and there is a number for its next record
pub record HasRecord (v : CoreValue) (t : ℕ) : Type 0 where
  pub active : txn_shown v t ≢ None
  pub numbered : v.last < LAST_NUMBER

-- the core after a transaction's end: what it had reserved is given back
abbrev pub ended : CoreValue → ℕ → TxnAction → CoreValue
ended v t action = record v {
  txns = record v.txns { active = table.without t v.txns.active };
  index = record v.index { pledged = v.index.pledged - reserved_of (txn_shown v t) };
  last = v.last + 1;
  outbox = v.outbox ++ record { number = v.last + 1; action = OfTxn t action } ∷ [];
}

-- the core after the first step of a change that marks this entry
abbrev pub mark_first : CoreValue → ℕ → ChangeValue → Pair → CoreValue
mark_first v t c p = record v {
  txns = record v.txns {
    active = change_begun v.txns.active t c OwesRow
        (reserved_of (txn_shown v t) + (PLACES_PER_CHANGE - pledges_used (get v.index.entries p)));
  };
  index = record v.index {
    entries = set_at v.index.entries p (Some Marked);
    pledged = v.index.pledged + (PLACES_PER_CHANGE - pledges_used (get v.index.entries p));
  };
  last = v.last + 1;
  outbox = v.outbox ++ record { number = v.last + 1; action = OfTxn t (Forward OldEntry c) } ∷ [];
}

-- the core after the first step of a change, which marks this entry where there is one, and else sets the row
abbrev pub first_made : CoreValue → ℕ → ChangeValue → Option Pair → CoreValue
first_made v t c None = row_first v t c
first_made v t c (Some p) = mark_first v t c p

-- the entry that a step sets, if it sets one
abbrev pub entry_of : TxnAction → Cell → Option (Pair × TxnAction)
entry_of action (cell.Slot rid row) = None
entry_of action (cell.Entry pair mark) = Some (pair, action)

-- the entry that a step sets, with what its record says; none where it sets a row
abbrev pub entry_in : Step → Option (Pair × TxnAction)
entry_in step = entry_of step.action step.cell

-- the core after a step of a transaction that sets a row
abbrev pub row_stepped : CoreValue → ℕ → Progress → Place → Option Row → TxnAction → CoreValue
row_stepped v t progress r row action = record v {
  heap = record v.heap { rows = set_at v.heap.rows r row };
  txns = record v.txns { active = table.with_state (put_at progress (reserved_of (txn_shown v t))) t v.txns.active };
  last = v.last + 1;
  outbox = v.outbox ++ record { number = v.last + 1; action = OfTxn t action } ∷ [];
}

-- the core after a step of a transaction that gives an entry this mark, in a reserved place where there was none
abbrev pub entry_stepped : CoreValue → ℕ → Progress → Pair → Mark → TxnAction → CoreValue
entry_stepped v t progress p mark action = record v {
  txns = record v.txns {
    active = table.with_state (put_at progress
        (reserved_of (txn_shown v t) - pledges_used (get v.index.entries p))) t v.txns.active;
  };
  index = record v.index {
    entries = set_at v.index.entries p (Some mark);
    pledged = v.index.pledged - pledges_used (get v.index.entries p);
  };
  last = v.last + 1;
  outbox = v.outbox ++ record { number = v.last + 1; action = OfTxn t action } ∷ [];
}

-- why no index can be created, but for want of a number or of memory
abbrev pub IsUncreatable : CoreValue → Error → Type 0
IsUncreatable v e = ((e ≡ IndexExists) × (is_indexed v.life ≡ true))
    ⊎ ((e ≡ TxnsActive) × (is_indexed v.life ≡ false) × (v.txns.active ≢ []))

-- the index is being built, and nothing of it is there yet
abbrev pub index_created : CoreValue → CoreValue
index_created v = with_record (record v { life = Building None; scan = begun None v.heap.pages; tried = 0 })
    (OfIndex index_action.Create)

-- why the index can't be dropped, but for want of a number or of memory
abbrev pub IsUndroppable : CoreValue → Error → Type 0
IsUndroppable v e = ((e ≡ NoIndex) × (v.life ≡ Absent)) ⊎ ((e ≡ TxnsActive) × (v.life ≢ Absent) × (v.txns.active ≢ []))

-- there is no index any more, and nothing of it is left
abbrev pub index_dropped : CoreValue → CoreValue
index_dropped v = with_record (record v {
  index = record v.index { entries = map.empty };
  life = Absent;
  scan = begun None v.heap.pages;
  cleaned = None;
  tried = 0;
}) (OfIndex index_action.Drop)

-- a number is left for a record
abbrev pub HasNextNumber : CoreValue → Type 0
HasNextNumber v = v.last < LAST_NUMBER

-- why a step that makes a record, and that nothing else refuses, is refused
abbrev pub IsUnrecorded : CoreValue → Error → Type 0
IsUnrecorded v e = ((e ≡ Exhausted) × (LAST_NUMBER ≤ v.last)) ⊎ ((e ≡ NoMemory) × HasNextNumber v)

-- the scan took this page, with the pairs of its rows
pub record HasTaken (v : CoreValue) (page : ℕ) (v' : CoreValue) : Type 0 where
  pub pairs : List Pair
  pub each : (p : Pair) → Contains pairs p ↔ IsPairOnPage v.heap.rows page p
  pub run : (r : ScanRun) → HasRun v.scan r → HasRun v'.scan (with_step r (Took page pairs))
  pub last_pair : v'.scan.last ≡ v.scan.last
  pub pages : v'.scan.pages ≡ v.scan.pages
  pub others : v' ≡ record v { scan = v'.scan }

-- the scan handed out this pair, which was attempted
pub record HasPassed (v : CoreValue) (p : Pair) (v' : CoreValue) : Type 0 where
  pub run : (r : ScanRun) → HasRun v.scan r → HasRun v'.scan (with_step r (HandedOut p))
  pub last_pair : v'.scan.last ≡ Some p
  pub pages : v'.scan.pages ≡ v.scan.pages
  pub wanted : v'.scan.wanted ≡ v.scan.wanted
  pub counted : v'.attempts ≡ min (v.attempts + 1) (2 ^ 64 - 1)
  pub others : v' ≡ record v { scan = v'.scan; tried = v.tried + 1; attempts = v'.attempts }

-- the builder's entry is there, with its record
abbrev pub placed : CoreValue → Pair → CoreValue
placed v p = with_record (record v {
  index = record v.index
      { entries = entries_after v.index.entries KeyAction.BuildPut p };
}) (OfIndex (index_action.BuildPlace p))

-- the core without the entry of this pair
abbrev pub without_entry : CoreValue → Pair → CoreValue
without_entry v p = record v { index = record v.index { entries = set_at v.index.entries p None } }

-- the pair was given an entry, with its record, or it had one and all is as before
abbrev pub HasPut : CoreValue → Pair → Built → CoreValue → Type 0
HasPut v p built.Rejected v' = (get v.index.entries p ≢ None) × (v' ≡ v)
HasPut v p built.Placed v' = IsAbsent v.index.entries p × (IsFull v.index → ⊥) × HasNextNumber v × (v' ≡ placed v p)

-- the pair was placed, or it had an entry and was rejected
abbrev pub HasAttempted : CoreValue → Pair → BuildReply → CoreValue → Type 0
HasAttempted v p answer v' =
    ((answer ≡ reply.Rejected p) × (get v.index.entries p ≢ None) × HasPassed v p v')
    ⊎ ((answer ≡ reply.Placed p) × IsAbsent v.index.entries p × (IsFull v.index → ⊥) × HasNextNumber v
    × HasPassed (placed v p) p v')

-- why an attempt is refused: there is no place for the entry, or else no record can be made
abbrev pub IsUnplaced : CoreValue → Pair → Error → Type 0
IsUnplaced v p e = IsAbsent v.index.entries p × (((e ≡ IndexFull) × IsFull v.index)
    ⊎ ((IsFull v.index → ⊥) × IsUnrecorded v e))

-- the pair attempted last is a checkpoint
abbrev pub checkpointed : CoreValue → Pair → CoreValue
checkpointed v p = with_record (record v { life = Building (Some p); tried = 0 })
    (OfIndex (index_action.BuildCheckpoint p))

-- the core behind the end of the build
abbrev pub completed : CoreValue → CoreValue
completed v = with_record (record v { life = Complete }) (OfIndex index_action.BuildDone)

-- the marked entry of this pair may be taken out: nobody holds its row, and no builder is before it
pub record MayClean (v : CoreValue) (p : Pair) : Type 0 where
  pub marked : get v.index.entries p ≡ Some Marked
  pub free : holder_of p.rid v.txns.active ≡ None
  pub passed : IsPassed v.life p

-- the entry of this pair is out of the index, and the cleaner is there
abbrev pub taken_out : CoreValue → Pair → CoreValue
taken_out v p = with_record (record v {
  index = record v.index
      { entries = entries_after v.index.entries (KeyAction.Clean true) p };
  cleaned = Some p;
})
    (OfIndex (index_action.Clean p))

-- the part of its newest change that a transaction so far takes back next
abbrev pub part_to_undo : Progress → Part
part_to_undo Ready = NewEntry
part_to_undo OwesRow = NewEntry
part_to_undo OwesEntry = NewEntry
part_to_undo Rolling = NewEntry
part_to_undo UndoesRow = Slot
part_to_undo UndoesEntry = OldEntry

-- the newest change, where there is one, is off the list of the transaction, which is rolling back
abbrev pub newest_taken_off : CoreValue → ℕ → CoreValue
newest_taken_off v t = record v {
  txns = record v.txns
      { active = table.with_state table.without_last t v.txns.active };
}

-- the row is as before the change; this old entry is then owed, and without one the undo is at its end
abbrev pub row_restored : CoreValue → ℕ → ChangeValue → (old : Option Pair) → CoreValue
row_restored v t c None = newest_taken_off (row_stepped v t Rolling c.rid (old_row c.rows) (Undo Slot c true)) t
row_restored v t c (Some p) = row_stepped v t UndoesEntry c.rid (old_row c.rows) (Undo Slot c false)

-- the first step of an undo marks this new entry, and without one restores the row
abbrev pub undo_begun : CoreValue → ℕ → ChangeValue → (old new : Option Pair) → CoreValue
undo_begun v t c old None = row_restored v t c old
undo_begun v t c old (Some p) = entry_stepped v t UndoesRow p Marked (Undo NewEntry c false)

-- the old entry is live again, and the undo at its end
abbrev pub entry_restored : CoreValue → ℕ → ChangeValue → Pair → CoreValue
entry_restored v t c p = newest_taken_off (entry_stepped v t Rolling p Live (Undo OldEntry c true)) t

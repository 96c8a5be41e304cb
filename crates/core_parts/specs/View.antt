-- What the core holds, and the states of the machine that it may stand for.
use Rattle.core_model.specs.Changes.{as_list}
use Rattle.std.specs.FinMap.{get}
use Rattle.std.specs.Option.{option_map}
use Rattle.std.specs.Prelude.{◌≤◌, Bool, List, None, Option, Some, false, length, min, ℕ, ◌++◌, ◌-◌, ◌^◌, ◌≡◌}
use Rattle.records.specs.RecordValue.{RecordValue}
use Rattle.record_values.specs.Values.{Place}
use Rattle.record_values.specs.declared.pair.Pair.{Pair}
use Rattle.model.specs.declared.life.Life.{Life}
use Rattle.heap_pages.specs.Pages.{HeapValue}
use Rattle.txn_table.specs.Table as table
use Rattle.txn_table.specs.Table.{TableValue, TxnState, change_noted, holder_of, put_at, rolls}
use Rattle.txn_table.specs.declared.progress.Progress.{Progress}
use Rattle.txn_table.specs.declared.progress.Progress.TheVariants.{OwesEntry, OwesRow, Ready, Rolling, UndoesEntry}
use Rattle.txn_table.specs.declared.progress.Progress.TheVariants.{UndoesRow}
use Rattle.marked_index.specs.Index.{IndexValue}
use Rattle.sorted_scan.specs.Runs.{ScanRun, is_given, is_missed, is_taken, taken_in_a_row}
use Rattle.sorted_scan.specs.Scans.{HasRun, ScanValue}
use Rattle.core_model.specs.Invariants.{IsWellFormed}
use Rattle.core_model.specs.States.{Active, Made, NewMarked, OldMarked, OldSet, Phase, RowSet, State}
use Rattle.core_model.specs.Steps.{MachineStep, all_reserved}
use Rattle.core_model.specs.Events.{Event, Reply, Standing, standing_after}
use Rattle.core_model.specs.Replies.{IsAllowed, after_any}
use Rattle.core_model.specs.Served.{HasStanding, records_by}

-- what contracts see of a core
pub record CoreValue : Type 0 where
  pub heap : HeapValue
  pub txns : TableValue
  pub index : IndexValue
  pub life : Life
  pub scan : ScanValue
  pub cleaned : Option Pair  -- the cleaner's place
  pub last : ℕ  -- the number of the last record made
  pub tried : ℕ  -- the attempts since the last checkpoint, the creation or the restart
  pub attempts : ℕ  -- the attempts since the restart, as far as the code counts
  pub commits : ℕ  -- the commits since the restart
  pub outbox : List RecordValue

-- ---- transactions

-- the machine also knows which forward steps a change under undo had made
abbrev pub IsProgressOf : Progress → Phase → Type 0
IsProgressOf Ready phase = phase ≡ Made
IsProgressOf OwesRow phase = phase ≡ OldMarked
IsProgressOf OwesEntry phase = phase ≡ RowSet
IsProgressOf Rolling phase = phase ≡ Made
IsProgressOf UndoesRow phase = (applied : Bool) × (phase ≡ NewMarked applied)
IsProgressOf UndoesEntry phase = phase ≡ OldSet

-- a transaction of the code stands for this one of the machine
pub record ShowsTxn (x : TxnState) (a : Active) : Type 0 where
  pub changes : as_list a.changes ≡ x.changes
  pub phase : IsProgressOf x.progress a.phase
  pub rolling : a.rolling ≡ rolls x.progress

-- both have the transaction, and so, or neither has it
abbrev pub AreOne : Option TxnState → Option Active → Type 0
AreOne None o = o ≡ None
AreOne (Some x) o = (a : Active) × (o ≡ Some a) × ShowsTxn x a

-- ---- the scan

-- the scan stands for what the machine's builder has taken
pub record IsScan (v : ScanValue) (s : State) (k : Standing) : Type 0 where
  pub run : ScanRun
  pub made : HasRun v run
  pub given : (p : Pair) → s.given p ≡ is_given run p
  pub missed : (p : Pair) → s.missed p ≡ is_missed run p
  pub taken : (n : ℕ) → s.taken n ≡ is_taken run n
  pub in_a_row : k.scanned ≡ taken_in_a_row run.steps
  -- from the page that is wanted on, none was taken
  pub untaken : (page n : ℕ) → v.wanted ≡ Some page → page ≤ n → s.taken n ≡ false

-- ---- all of it

-- the core stands for this state of the machine, with these counts
pub record Shows (v : CoreValue) (s : State) (k : Standing) : Type 0 where
  pub rows : s.rows ≡ v.heap.rows
  pub entries : s.entries ≡ v.index.entries
  pub txns : (t : ℕ) → AreOne (table.state_of t v.txns.active) (s.txns t)
  pub holder : (r : Place) → s.holder r ≡ holder_of r v.txns.active
  pub pledges : (t : ℕ) → get s.pledges t ≡ option_map (λ x. x.reserved) (table.state_of t v.txns.active)
  pub pledged : all_reserved s.pledges ≡ v.index.pledged
  pub life : s.life ≡ v.life
  pub pages : s.pages ≡ v.heap.pages
  pub scan_pages : v.scan.pages ≡ v.heap.pages
  pub places : s.places ≡ v.index.capacity
  pub cleaned : s.cleaned ≡ v.cleaned
  pub bound : s.bound ≡ v.scan.last
  pub scan : IsScan v.scan s k
  pub made : k.made ≡ v.last
  pub begun : k.begun ≡ v.txns.begun
  pub active : k.active ≡ length v.txns.active
  pub attempts : k.attempts ≡ v.tried
  pub all_attempts : v.attempts ≡ min k.all_attempts (2 ^ 64 - 1)
  pub commits : k.commits ≡ v.commits

-- a state that the core stands for, whatever its loaded cells were
pub record IsState (v : CoreValue) (s : State) (k : Standing) : Type 0 where
  pub shown : Shows v s k
  pub fit : IsWellFormed s
  pub standing : HasStanding s k
  pub counted : k.commits ≤ k.made

-- what a core keeps: it stands for some state
pub record IsSafe (v : CoreValue) : Type 0 where
  pub state : State
  pub standing : Standing
  pub is : IsState v state standing

-- ---- what a call does

-- the reply is allowed, by this step, and its record, if it makes one, waits behind the others
pub record Answers (old : CoreValue) (s : State) (k : Standing) (e : Event) (reply : Reply)
    (new : CoreValue) : Type 0 where
  pub step : Option MachineStep
  pub allowed : IsAllowed s k e reply step
  pub shown : Shows new (after_any s step) (standing_after k reply)
  pub outbox : new.outbox ≡ old.outbox ++ records_by s k.made step
  -- what is refused or skipped, or only reads, makes no step
  pub unchanged : step ≡ None → new ≡ old

-- whatever state the core stands for
abbrev pub Serves : CoreValue → Event → Reply → CoreValue → Type 0
Serves old e reply new = (s : State) (k : Standing) → IsState old s k → Answers old s k e reply new

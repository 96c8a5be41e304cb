-- Which reply an event may get, and what it does.
use Rattle.std.specs.FinMap.{get, len}
use Rattle.std.specs.List.{Contains}
use Rattle.std.specs.List.Sorted.{IsStrictlySortedBy}
use Rattle.std.specs.Ordering.{is_lt}
use Rattle.std.specs.Prelude.{List, None, Option, Some, [], false, length, true, ℕ, ◌+◌, ◌<◌, ◌↔◌, ◌∷◌, ◌≡◌, ◌≢◌, ◌≤◌}
use Rattle.std.specs.Prelude.{◌⊎◌}
use Rattle.records.specs.ChangeValue.{ChangeValue}
use Rattle.record_values.specs.Orders.{rid_cmp, is_above}
use Rattle.record_values.specs.Values.{Place}
use Rattle.records.specs.declared.change.Rows.{Rows}
use Rattle.records.specs.declared.change.Rows.TheVariants.{Deleted, Inserted, Updated}
use Rattle.records.specs.declared.change.TheConstants.{CHANGES_MAX}
use Rattle.record_values.specs.declared.error.Error.{Error}
use Rattle.record_values.specs.declared.pair.Mark.TheVariants.{Live}
use Rattle.record_values.specs.declared.pair.Pair.{Pair}
use Rattle.record_values.specs.declared.number.TheConstants.{LAST_NUMBER}
use Rattle.record_values.specs.declared.rid.TheConstants.{SLOTS_PER_PAGE}
use Rattle.record_values.specs.declared.row.Row.{Row}
use Rattle.model.specs.declared.life.Life.TheVariants.{Absent, Complete}
use Rattle.core_model.specs.Events.{BuildReply, Built, CleanReply, Cleaned, Cleaner, Done, Empty, Ended, Event}
use Rattle.core_model.specs.Events.{Found, Idle, Kept, LifeIs, Placed, Refused, Rejected, Reply, Rid, RowIs}
use Rattle.core_model.specs.Events.{Scanned, Skipped, Standing, Stepped, Txn, Undone, Wrapped}
use Rattle.core_model.specs.Records.{action_of}
use Rattle.record_values.specs.declared.limits.TheConstants.{ATTEMPTS_PER_CHECKPOINT}
use Rattle.record_values.specs.declared.txn.TheConstants.{TXNS_MAX}
use Rattle.core_model.specs.States.{Active, OldMarked, RowSet, State}
use Rattle.core_model.specs.Steps.{Attempt, CanClean, CanFinish, Checkpoint, Finish, IsBuilding, IsReady, Keep, Next}
use Rattle.core_model.specs.Steps.{Start, MachineStep, Take, Wrap, after, all_reserved, is_indexed, places_of}
use Rattle.core_model.specs.Steps.{txn_at}
use Rattle.core_model.specs.Changes.{Unchanged, as_list}

-- ---- what an event asks for first

-- the event is of a transaction that is not active
abbrev pub IsOfNone : State → Event → Type 0
IsOfNone s (Event.Insert t row) = s.txns t ≡ None
IsOfNone s (Event.Delete t rid) = s.txns t ≡ None
IsOfNone s (Event.Update t rid row) = s.txns t ≡ None
IsOfNone s (Event.Step t) = s.txns t ≡ None
IsOfNone s (Event.Undo t) = s.txns t ≡ None
IsOfNone s (Event.End t) = s.txns t ≡ None
IsOfNone s (Event.Commit t) = s.txns t ≡ None
IsOfNone s _ = ⊥

-- a step of the newest change is owed, and the transaction is not rolling back
abbrev pub Owes : Active → Type 0
Owes x = ((x.phase ≡ OldMarked) ⊎ (x.phase ≡ RowSet)) × (x.rolling ≡ false)

-- what the caller is to see to; an event that does not meet it is skipped
abbrev pub IsProper : State → Event → Type 0
IsProper s (Event.Insert t row) = IsReady (txn_at s t)
IsProper s (Event.Delete t rid) = IsReady (txn_at s t)
IsProper s (Event.Update t rid row) = IsReady (txn_at s t)
IsProper s (Event.Step t) = Owes (txn_at s t)
IsProper s (Event.Commit t) = IsReady (txn_at s t)
IsProper s (Event.End t) = (txn_at s t).changes ≡ Unchanged
IsProper s _ = Unit {0}

-- ---- refusals

-- each with the state in which it comes, in order
abbrev pub Refusals : Type 1
Refusals = List (Type 0 × Error)

-- the first whose state holds, or none
abbrev pub IsFirst : Refusals → Option Error → Type 0
IsFirst [] answer = answer ≡ None
IsFirst (r ∷ rs) answer = (r.0 × (answer ≡ Some r.1)) ⊎ ((r.0 → ⊥) × IsFirst rs answer)

-- a place of the heap without a row, which no transaction holds
pub record IsFree (s : State) (r : Place) : Type 0 where
  pub inside : r.page < s.pages
  pub slot : r.slot < SLOTS_PER_PAGE
  pub empty : get s.rows r ≡ None
  pub unheld : s.holder r ≡ None

-- another transaction holds the place
abbrev pub IsHeldByOther : State → ℕ → Place → Type 0
IsHeldByOther s t r = (u : ℕ) × (s.holder r ≡ Some u) × (u ≢ t)

-- the transaction's list of changes is full
abbrev pub HasNoMoreChanges : State → ℕ → Type 0
HasNoMoreChanges s t = CHANGES_MAX ≤ length (as_list (txn_at s t).changes)

-- some transaction is active
abbrev pub IsAnyActive : State → Type 0
IsAnyActive s = (t : ℕ) × (x : Active) × (s.txns t ≡ Some x)

-- the refusals that the state alone decides
abbrev pub refusals : State → Standing → Event → Refusals
refusals s k Event.Begin = (TXNS_MAX ≤ k.active, Error.TooManyTxns) ∷ []
refusals s k (Event.Insert t row) = (HasNoMoreChanges s t, Error.TooManyChanges)
    ∷ (((r : Place) → IsFree s r → ⊥), Error.HeapFull) ∷ []
refusals s k (Event.Delete t rid) = (HasNoMoreChanges s t, Error.TooManyChanges)
    ∷ (IsHeldByOther s t rid, Error.RowBusy) ∷ (get s.rows rid ≡ None, Error.NoSuchRow) ∷ []
refusals s k (Event.Update t rid row) = (HasNoMoreChanges s t, Error.TooManyChanges)
    ∷ (IsHeldByOther s t rid, Error.RowBusy) ∷ (get s.rows rid ≡ None, Error.NoSuchRow) ∷ []
refusals s k Event.Create = (is_indexed s.life ≡ true, Error.IndexExists) ∷ (IsAnyActive s, Error.TxnsActive) ∷ []
refusals s k Event.Drop = (s.life ≡ Absent, Error.NoIndex) ∷ (IsAnyActive s, Error.TxnsActive) ∷ []
refusals s k Event.Build = (s.life ≡ Absent, Error.NoIndex) ∷ []
refusals s k Event.Clean = (s.life ≡ Absent, Error.NoIndex) ∷ []
refusals s k (Event.Find key) = (s.life ≡ Absent, Error.NoIndex) ∷ (IsBuilding s.life, Error.NotBuilt) ∷ []
refusals s k _ = []

-- the step has no entry place to reserve or to use
abbrev pub HasNoPlace : State → MachineStep → Type 0
HasNoPlace s (Start t c) = (is_indexed s.life ≡ true)
    × (s.places < len s.entries + all_reserved s.pledges + places_of true)
HasNoPlace s (Attempt p) = (get s.entries p ≡ None) × (s.places ≤ len s.entries + all_reserved s.pledges)
HasNoPlace s _ = ⊥

-- and those that come last, of the step that is due
abbrev pub last_refusals : State → Standing → MachineStep → Refusals
last_refusals s k e = (HasNoPlace s e, Error.IndexFull) ∷ (
  (LAST_NUMBER ≤ k.made)
      × (action_of s e ≢ None),
  Error.Exhausted,
) ∷ []

-- the refusals that only the step itself can meet; none where no step is due
abbrev pub refusals_of : State → Standing → Option MachineStep → Refusals
refusals_of s k None = []
refusals_of s k (Some e) = last_refusals s k e

-- ---- the reply and the step that are due

-- a place that is free, with no free one below it
pub record IsLeastFree (s : State) (r : Place) : Type 0 where
  pub free : IsFree s r
  pub least : (q : Place) → IsFree s q → is_lt (rid_cmp q r) ≡ false

-- the change that the transaction makes next, of this place
abbrev pub change_of : State → ℕ → Place → Rows → ChangeValue
change_of s t rid rows = record { position = length (as_list (txn_at s t).changes); rid = rid; rows = rows }

-- the builder is not to make a checkpoint
abbrev pub IsBetween : State → Standing → Type 0
IsBetween s k = IsBuilding s.life × (k.attempts < ATTEMPTS_PER_CHECKPOINT)

-- a pair that the scan has next
pub record IsNextPair (s : State) (p : Pair) : Type 0 where
  pub given : s.given p ≡ true
  pub rising : is_above s.bound p ≡ true
  pub all_taken : (n : ℕ) → n < s.pages → s.taken n ≡ true
  pub none_left : (q : Pair) → is_above s.bound q ≡ true → is_above (Some q) p ≡ true → s.taken q.rid.page ≡ true
      → s.missed q ≡ true

-- when each answer of the builder is due
abbrev pub IsBuildDue : State → Standing → BuildReply → Type 0
IsBuildDue s k Idle = s.life ≡ Complete
IsBuildDue s k (BuildReply.Marked p n) = IsBuilding s.life × (ATTEMPTS_PER_CHECKPOINT ≤ k.attempts) × (s.bound ≡ Some p)
    × (n ≡ k.made + 1)
IsBuildDue s k (Scanned page) = IsBetween s k × (page ≡ k.scanned) × (page < s.pages) × (s.taken page ≡ false)
IsBuildDue s k (Placed p) = IsBetween s k × IsNextPair s p × (get s.entries p ≡ None)
IsBuildDue s k (Rejected p) = IsBetween s k × IsNextPair s p × (get s.entries p ≢ None)
IsBuildDue s k (Done n) = IsBetween s k × CanFinish s × (n ≡ k.made + 1)

-- the step that the machine makes with it, if any
abbrev pub build_step : BuildReply → Option MachineStep
build_step (Scanned page) = Some (Take page)
build_step (Placed p) = Some (Attempt p)
build_step (Rejected p) = Some (Attempt p)
build_step (BuildReply.Marked p n) = Some (Checkpoint p)
build_step (Done n) = Some Finish
build_step Idle = None

-- the least entry is_above the cleaner's place
pub record IsNextEntry (s : State) (p : Pair) : Type 0 where
  pub there : get s.entries p ≢ None
  pub above_place : is_above s.cleaned p ≡ true
  pub least : (q : Pair) → get s.entries q ≢ None → is_above s.cleaned q ≡ true → is_above (Some q) p ≡ false

-- when each answer of the cleaner is due: the least entry is_above its place goes or stays, or there is none
abbrev pub IsCleanDue : State → CleanReply → Type 0
IsCleanDue s (Cleaned p) = IsNextEntry s p × CanClean s p
IsCleanDue s (Kept p) = IsNextEntry s p × (CanClean s p → ⊥)
IsCleanDue s Wrapped = (p : Pair) → is_above s.cleaned p ≡ true → get s.entries p ≡ None

-- the step that the machine makes with it
abbrev pub clean_step : CleanReply → MachineStep
clean_step (Cleaned p) = MachineStep.Clean p
clean_step (Kept p) = Keep p
clean_step Wrapped = Wrap

-- the places of the live entries of this key, in order
pub record AreFound (s : State) (key : List ℕ) (rids : List Place) : Type 0 where
  pub live : (r : Place) → Contains rids r ↔ (get s.entries (record { key = key; rid = r }) ≡ Some Live)
  pub in_order : IsStrictlySortedBy rid_cmp rids

-- the reply of an event that succeeds, and its step, if it makes one
abbrev pub IsStepDue : State → Standing → Event → Reply → Option MachineStep → Type 0
IsStepDue s k Event.Begin reply step = (reply ≡ Txn (k.begun + 1)) × (step ≡ Some (MachineStep.Begin (k.begun + 1)))
IsStepDue s k (Event.Insert t row) reply step = (r : Place) × IsLeastFree s r × (reply ≡ Rid r)
    × (step ≡ Some (Start t (change_of s t r (Inserted row))))
IsStepDue s k (Event.Delete t r) reply step = (old : Row) × (get s.rows r ≡ Some old) × (reply ≡ Stepped)
    × (step ≡ Some (Start t (change_of s t r (Deleted old))))
IsStepDue s k (Event.Update t r row) reply step = (old : Row) × (get s.rows r ≡ Some old) × (reply ≡ Stepped)
    × (step ≡ Some (Start t (change_of s t r (Updated old row))))
IsStepDue s k (Event.Step t) reply step = (reply ≡ Stepped) × (step ≡ Some (Next t))
IsStepDue s k (Event.Undo t) reply step = ((((txn_at s t).changes ≡ Unchanged) × (reply ≡ Empty))
    ⊎ (((txn_at s t).changes ≢ Unchanged) × (reply ≡ Undone))) × (step ≡ Some (MachineStep.Undo t))
IsStepDue s k (Event.End t) reply step = (reply ≡ Ended) × (step ≡ Some (MachineStep.End t))
IsStepDue s k (Event.Commit t) reply step = (reply ≡ Reply.Committed (k.made + 1) (k.commits + 1))
    × (step ≡ Some (MachineStep.Commit t))
IsStepDue s k Event.Create reply step = (reply ≡ Reply.Ticketed (k.made + 1)) × (step ≡ Some MachineStep.Create)
IsStepDue s k Event.Build reply step = (b : BuildReply) × IsBuildDue s k b × (reply ≡ Built b) × (step ≡ build_step b)
IsStepDue s k Event.Clean reply step = (c : CleanReply) × IsCleanDue s c × (reply ≡ Cleaner c)
    × (step ≡ Some (clean_step c))
IsStepDue s k (Event.Get r) reply step = (reply ≡ RowIs (get s.rows r)) × (step ≡ None)
IsStepDue s k (Event.Find key) reply step = (rids : List Place) × AreFound s key rids × (reply ≡ Found rids)
    × (step ≡ None)
IsStepDue s k Event.Life reply step = (reply ≡ LifeIs s.life) × (step ≡ None)
IsStepDue s k Event.Drop reply step = (reply ≡ Reply.Ticketed (k.made + 1)) × (step ≡ Some MachineStep.Drop)

-- ---- all of it

-- a step that takes memory beside its record: for one transaction more, or for the pairs of a page
abbrev pub NeedsRoom : MachineStep → Type 0
NeedsRoom (MachineStep.Begin t) = Unit {0}
NeedsRoom (Take page) = Unit {0}
NeedsRoom _ = ⊥

-- an event whose answer is a list
abbrev pub IsLookUp : Event → Type 0
IsLookUp (Event.Find key) = Unit {0}
IsLookUp _ = ⊥

-- whether the step that is due, or the answer where none is, takes memory
abbrev pub WantsMemory : State → Event → Option MachineStep → Type 0
WantsMemory s e None = IsLookUp e
WantsMemory s e (Some step) = (action_of s step ≢ None) ⊎ NeedsRoom step

-- the state after a step, if one is made
abbrev pub after_any : State → Option MachineStep → State
after_any s None = s
after_any s (Some e) = after s e

-- an event may get this reply, by this step or by none
pub data IsAllowed (s : State) (k : Standing) (e : Event) : Reply → Option MachineStep → Type 0 where
  unknown : IsOfNone s e → IsAllowed s k e (Refused Error.NoSuchTxn) None
  skipped : (IsOfNone s e → ⊥) → (IsProper s e → ⊥) → IsAllowed s k e Skipped None
  refused : (IsOfNone s e → ⊥) → IsProper s e → (error : Error) → IsFirst (refusals s k e) (Some error)
      → IsAllowed s k e (Refused error) None
  refused_last : (IsOfNone s e → ⊥) → IsProper s e → IsFirst (refusals s k e) None
      → (reply : Reply) (step : Option MachineStep) → IsStepDue s k e reply step
      → (error : Error) → IsFirst (refusals_of s k step) (Some error) → IsAllowed s k e (Refused error) None
  no_memory : (IsOfNone s e → ⊥) → IsProper s e → IsFirst (refusals s k e) None
      → (reply : Reply) (step : Option MachineStep) → IsStepDue s k e reply step
      → IsFirst (refusals_of s k step) None → WantsMemory s e step → IsAllowed s k e (Refused Error.NoMemory) None
  accepted : (IsOfNone s e → ⊥) → IsProper s e → IsFirst (refusals s k e) None
      → (reply : Reply) (step : Option MachineStep) → IsStepDue s k e reply step
      → IsFirst (refusals_of s k step) None → IsAllowed s k e reply step

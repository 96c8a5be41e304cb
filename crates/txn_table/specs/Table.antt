-- What clauses see of the table: the active transactions in the order in which they began.
use Rattle.std.specs.Prelude.{ℕ, ◌+◌, ◌-◌, List, [], ◌∷◌, ◌++◌, length, take, Option, Some, None, Bool, true, false}
use Rattle.std.specs.Prelude.{not, nat_eq, nat_le, ◌==◌, if◌then◌else◌, slice_get}
use Rattle.std.specs.Option.{option_or}
use Rattle.std.specs.Map.{lookup, remove_entry}
use Rattle.record_values.specs.Values.{Place, is_among}
use Rattle.records.specs.ChangeValue.{ChangeValue}
use Rattle.records.specs.declared.change.TheConstants.{CHANGES_MAX}
use Rattle.record_values.specs.declared.error.Error.{Error}
use Rattle.record_values.specs.declared.error.Error.TheVariants.{NoSuchTxn, TooManyChanges, RowBusy}
use Rattle.txn_table.specs.declared.progress.Progress.{Progress}
use Rattle.txn_table.specs.declared.progress.Progress.TheVariants.{OwesEntry, OwesRow, Ready, Rolling, UndoesEntry}
use Rattle.txn_table.specs.declared.progress.Progress.TheVariants.{UndoesRow}

-- whether a transaction that is so far is rolling back
abbrev pub rolls : Progress → Bool
rolls Ready = false
rolls OwesRow = false
rolls OwesEntry = false
rolls Rolling = true
rolls UndoesRow = true
rolls UndoesEntry = true

-- the changes that a transaction may still take back, oldest first, the rows that it holds, in the order of its first
-- touch, how far it is, and how many entry places it has reserved and not used
pub record TxnState : Type 0 where
  pub changes : List ChangeValue
  pub rows : List Place
  pub progress : Progress
  pub reserved : ℕ

-- a transaction as it begins
abbrev pub fresh_txn : TxnState
fresh_txn = record { changes = []; rows = []; progress = Ready; reserved = 0 }

-- the active transactions by their numbers, oldest first, and how many were begun at all
pub record TableValue : Type 0 where
  pub active : List (ℕ × TxnState)
  pub begun : ℕ

-- these places, with this one last where it is new
abbrev pub with_rid : Place → List Place → List Place
with_rid r rs = if is_among r rs then rs else rs ++ r ∷ []

-- a transaction with one more change, whose row it holds from now on
abbrev pub change_noted : ChangeValue → TxnState → TxnState
change_noted c s = record {
  changes = s.changes ++ c ∷ [];
  rows = with_rid c.rid s.rows;
  progress = s.progress;
  reserved = s.reserved;
}

-- a transaction without its last change, where it had one. It still holds the row, and is rolling back from now on
abbrev pub without_last : TxnState → TxnState
without_last s = record {
  changes = take (length s.changes - 1) s.changes;
  rows = s.rows;
  progress = Rolling;
  reserved = s.reserved;
}

-- a transaction that is so far, with so many places
abbrev pub put_at : Progress → ℕ → TxnState → TxnState
put_at progress reserved s = record s { progress = progress; reserved = reserved }

-- the change that is taken back first
abbrev pub last_change : TxnState → Option ChangeValue
last_change s = slice_get s.changes (length s.changes - 1)

-- the state of an active transaction
abbrev pub state_of : ℕ → List (ℕ × TxnState) → Option TxnState
state_of txn active = lookup (nat_eq txn) active

-- whether there is a place among these
abbrev pub has_any : List Place → Bool
has_any [] = false
has_any (r ∷ rs) = true

-- whether a transaction in this state holds a row
abbrev pub holds_rows : Option TxnState → Bool
holds_rows None = false
holds_rows (Some s) = has_any s.rows

-- the transactions, with the state of one changed
abbrev pub with_state : (TxnState → TxnState) → ℕ → List (ℕ × TxnState) → List (ℕ × TxnState)
with_state f txn [] = []
with_state f txn (e ∷ es) = if txn == e.0 then (e.0, f e.1) ∷ es else e ∷ with_state f txn es

-- the transactions without one
abbrev pub without : ℕ → List (ℕ × TxnState) → List (ℕ × TxnState)
without txn active = remove_entry (nat_eq txn) active

-- the table with the next transaction
abbrev pub with_next : TableValue → TableValue
with_next t = record { active = t.active ++ (t.begun + 1, fresh_txn) ∷ []; begun = t.begun + 1 }

-- the transaction that holds the row
abbrev pub holder_of : Place → List (ℕ × TxnState) → Option ℕ
holder_of r [] = None
holder_of r (e ∷ es) = if is_among r e.1.rows then Some e.0 else holder_of r es

-- whether a transaction other than this holds it
abbrev pub is_other : ℕ → Option ℕ → Bool
is_other txn None = false
is_other txn (Some holder) = not (holder == txn)

-- why a transaction in this state may make no further change
abbrev pub full_refusal : Option TxnState → Option Error
full_refusal None = Some NoSuchTxn
full_refusal (Some s) = if nat_le CHANGES_MAX (length s.changes) then Some TooManyChanges else None

-- why a row with this holder may not be touched
abbrev pub busy_refusal : ℕ → Option ℕ → Option Error
busy_refusal txn holder = if is_other txn holder then Some RowBusy else None

-- why the transaction may make no further change of any row
abbrev pub change_refusal : ℕ → List (ℕ × TxnState) → Option Error
change_refusal txn active = full_refusal (state_of txn active)

-- why the transaction may not change this row: that it may change none comes first
abbrev pub touch_refusal : ℕ → Place → List (ℕ × TxnState) → Option Error
touch_refusal txn r active = option_or (change_refusal txn active) (busy_refusal txn (holder_of r active))

-- Reading a record from left to right: the value, and the bytes after it.
use Rattle.std.specs.Prelude.{ℕ, zero, suc, List, [], ◌∷◌, length, take, drop, Option, Some, None, Bool, true, false}
use Rattle.std.specs.Prelude.{nat_lt, ◌==◌, if◌then◌else◌}
use Rattle.byteorder.specs.Endian.{big_number}
use Rattle.record_values.specs.declared.key.TheConstants.{KEY_MAX, BODY_MAX}
use Rattle.record_values.specs.declared.rid.TheConstants.{SLOTS_PER_PAGE}
use Rattle.records.specs.declared.change.TheConstants.{CHANGES_MAX}
use Rattle.record_values.specs.declared.number.TheConstants.{LAST_NUMBER}
use Rattle.record_values.specs.Values.{Place}
use Rattle.records.specs.ChangeValue.{ChangeValue}
use Rattle.records.specs.RecordValue.{RecordValue, has_part}
use Rattle.record_values.specs.declared.row.Row.{Row}
use Rattle.record_values.specs.declared.pair.Pair.{Pair}
use Rattle.records.specs.declared.change.Rows.{Rows}
use Rattle.records.specs.declared.change.Rows.TheVariants.{Inserted, Deleted, Updated}
use Rattle.records.specs.declared.record.Part.{Part}
use Rattle.records.specs.declared.record.Part.TheVariants.{Slot, OldEntry, NewEntry}
use Rattle.records.specs.declared.record.TxnAction.{TxnAction}
use Rattle.records.specs.declared.record.TxnAction.TheVariants.{Forward, Undo, Commit, End}
use Rattle.records.specs.declared.record.IndexAction.{IndexAction}
use Rattle.records.specs.declared.record.IndexAction.TheVariants.{Create, BuildPlace, BuildCheckpoint, BuildDone, Clean}
use Rattle.records.specs.declared.record.IndexAction.TheVariants.{Drop}
use Rattle.records.specs.declared.record.Action.{Action}
use Rattle.records.specs.declared.record.Action.TheVariants.{OfTxn, OfIndex}

infixl 10 ◌>>=◌
abbrev pub ◌>>=◌ : {A B : Type 0} → Option A → (A → Option B) → Option B
(Some x) >>= f = f x
None >>= f = None

-- a number of n bytes in front, and what is behind it
abbrev pub number_at : ℕ → List ℕ → Option (ℕ × List ℕ)
number_at n bytes = if nat_lt (length bytes) n then None else Some (big_number n bytes, drop n bytes)

-- a number of two, four or eight bytes, and what is behind it
unfoldable pub u16_at : List ℕ → Option (ℕ × List ℕ)
u16_at bytes = number_at 2 bytes

unfoldable pub u32_at : List ℕ → Option (ℕ × List ℕ)
u32_at bytes = number_at 4 bytes

unfoldable pub u64_at : List ℕ → Option (ℕ × List ℕ)
u64_at bytes = number_at 8 bytes

-- a byte, and what is behind it
unfoldable pub byte_at : List ℕ → Option (ℕ × List ℕ)
byte_at [] = None
byte_at (b ∷ rest) = Some (b, rest)

unfoldable pub short_at : ℕ → List ℕ → Option (List ℕ × List ℕ)
short_at max bytes = do
  n ← byte_at bytes
  if nat_lt (length n.1) n.0 then None else if nat_lt max n.0 then None else Some (take n.0 n.1, drop n.0 n.1)

-- a place whose slot a page has, and what is behind it
unfoldable pub rid_at : List ℕ → Option (Place × List ℕ)
rid_at bytes = do
  page ← u32_at bytes
  slot ← u16_at page.1
  if nat_lt slot.0 SLOTS_PER_PAGE then Some (record { page = page.0; slot = slot.0 }, slot.1) else None

unfoldable pub present_row_at : List ℕ → Option (Row × List ℕ)
present_row_at bytes = do
  key ← short_at KEY_MAX bytes
  body ← short_at BODY_MAX key.1
  Some (record { key = key.0; body = body.0 }, body.1)

unfoldable pub row_at : List ℕ → Option (Option Row × List ℕ)
row_at [] = None
row_at (zero ∷ rest) = Some (None, rest)
row_at (suc zero ∷ rest) = do
  r ← present_row_at rest
  Some (Some r.0, r.1)
row_at (suc (suc b) ∷ rest) = None

-- the rows of a change, which has one at least
abbrev pub rows_of : Option Row → Option Row → Option Rows
rows_of None None = None
rows_of None (Some new) = Some (Inserted new)
rows_of (Some old) None = Some (Deleted old)
rows_of (Some old) (Some new) = Some (Updated old new)

unfoldable pub change_at : List ℕ → Option (ChangeValue × List ℕ)
change_at bytes = do
  position ← byte_at bytes
  place ← rid_at position.1
  old ← row_at place.1
  new ← row_at old.1
  rows ← rows_of old.0 new.0
  if nat_lt position.0 CHANGES_MAX then Some (
    record { position = position.0; rid = place.0; rows = rows },
    new.1,
  ) else None

unfoldable pub pair_at : List ℕ → Option (Pair × List ℕ)
pair_at bytes = do
  key ← short_at KEY_MAX bytes
  place ← rid_at key.1
  Some (record { key = key.0; rid = place.0 }, place.1)

unfoldable pub flag_at : List ℕ → Option (Bool × List ℕ)
flag_at [] = None
flag_at (zero ∷ rest) = Some (false, rest)
flag_at (suc zero ∷ rest) = Some (true, rest)
flag_at (suc (suc b) ∷ rest) = None

-- a change that has the part
unfoldable pub part_at : Part → List ℕ → Option (ChangeValue × List ℕ)
part_at part bytes = do
  c ← change_at bytes
  if has_part part c.0.rows then Some (c.0, c.1) else None

unfoldable pub forward_at : Part → List ℕ → Option (TxnAction × List ℕ)
forward_at part bytes = do
  c ← part_at part bytes
  Some (Forward part c.0, c.1)

unfoldable pub undo_at : Part → List ℕ → Option (TxnAction × List ℕ)
undo_at part bytes = do
  c ← part_at part bytes
  last ← flag_at c.1
  Some (Undo part c.0 last.0, last.1)

-- the fields of an action of a transaction
unfoldable pub txn_action_at : ℕ → List ℕ → Option (TxnAction × List ℕ)
txn_action_at kind bytes =
    if kind == 1 then forward_at Slot bytes
    else if kind == 2 then forward_at OldEntry bytes
    else if kind == 3 then forward_at NewEntry bytes
    else if kind == 4 then undo_at NewEntry bytes
    else if kind == 5 then undo_at Slot bytes
    else if kind == 6 then undo_at OldEntry bytes
    else if kind == 7 then Some (Commit, bytes)
    else if kind == 8 then Some (End, bytes)
    else None

-- the fields of an action on the index
unfoldable pub index_action_at : ℕ → List ℕ → Option (IndexAction × List ℕ)
index_action_at kind bytes =
    if kind == 9 then Some (Create, bytes)
    else if kind == 10 then (pair_at bytes >>= λ p. Some (BuildPlace p.0, p.1))
    else if kind == 11 then (pair_at bytes >>= λ p. Some (BuildCheckpoint p.0, p.1))
    else if kind == 12 then Some (BuildDone, bytes)
    else if kind == 13 then (pair_at bytes >>= λ p. Some (Clean p.0, p.1))
    else if kind == 14 then Some (Drop, bytes)
    else None

unfoldable pub action_at : ℕ → List ℕ → Option (Action × List ℕ)
action_at txn bytes = do
  kind ← byte_at bytes
  if txn == 0 then (index_action_at kind.0 kind.1 >>= λ a. Some (OfIndex a.0, a.1)) else
      (txn_action_at kind.0 kind.1 >>= λ a. Some (OfTxn txn a.0, a.1))

-- a record with this number, where the format allows that
abbrev pub numbered : ℕ → Action × List ℕ → Option (RecordValue × List ℕ)
numbered n a = if n == 0 then None else if nat_lt LAST_NUMBER n then None else Some
    (record { number = n; action = a.0 }, a.1)

unfoldable pub record_at : List ℕ → Option (RecordValue × List ℕ)
record_at bytes = do
  number ← u64_at bytes
  txn ← u64_at number.1
  action ← action_at txn.0 txn.1
  numbered number.0 action

-- How records are spelled, and which values have a spelling.
use Rattle.std.specs.Prelude.{ℕ, ◌<◌, ◌≤◌, ◌^◌, List, [], ◌∷◌, ◌++◌, length, Option, Some, None, IsTrue, Bool, true}
use Rattle.std.specs.Prelude.{false, slice_index}
use Rattle.byteorder.specs.Endian.{big_bytes}
use Rattle.record_values.specs.Version.{key_max, body_max, HasDrop}
use Rattle.record_values.specs.declared.version.Version.{Version}
use Rattle.record_values.specs.declared.version.Version.TheVariants.{Two}
use Rattle.record_values.specs.declared.rid.TheConstants.{SLOTS_PER_PAGE}
use Rattle.records.specs.declared.change.TheConstants.{CHANGES_MAX}
use Rattle.record_values.specs.declared.number.TheConstants.{LAST_NUMBER}
use Rattle.record_values.specs.Values.{Place}
use Rattle.records.specs.ChangeValue.{ChangeValue}
use Rattle.records.specs.RecordValue.{RecordValue, has_rows}
use Rattle.record_values.specs.declared.row.Row.{Row}
use Rattle.record_values.specs.declared.pair.Pair.{Pair}
use Rattle.records.specs.declared.change.Rows.{Rows}
use Rattle.records.specs.declared.change.Rows.TheVariants.{Inserted, Deleted, Updated}
use Rattle.records.specs.declared.record.Part.{Part}
use Rattle.records.specs.declared.record.Part.TheVariants.{Slot, OldEntry, NewEntry}
use Rattle.records.specs.declared.record.TxnAction.{TxnAction}
use Rattle.records.specs.declared.record.TxnAction.TheVariants.{Forward, Undo, Commit, End}
use Rattle.records.specs.declared.record.IndexAction.{IndexAction}
use Rattle.records.specs.declared.record.IndexAction.TheVariants.{Create, BuildPlace, BuildCheckpoint, BuildDone, Clean}
use Rattle.records.specs.declared.record.IndexAction.TheVariants.{Drop}
use Rattle.records.specs.declared.record.Action.{Action}
use Rattle.records.specs.declared.record.Action.TheVariants.{OfTxn, OfIndex}

-- each element is a byte
abbrev pub IsBytes : List ℕ → Type 0
IsBytes bytes = (i : ℕ) → slice_index bytes i < 256

-- a byte of length, and that many bytes
abbrev pub short : List ℕ → List ℕ
short bytes = length bytes ∷ bytes

-- numbers of two, four and eight bytes, the highest byte first
unfoldable pub u16 : ℕ → List ℕ
u16 n = big_bytes 2 n

unfoldable pub u32 : ℕ → List ℕ
u32 n = big_bytes 4 n

unfoldable pub u64 : ℕ → List ℕ
u64 n = big_bytes 8 n

-- a place: page, then slot
abbrev pub rid : Place → List ℕ
rid r = u32 r.page ++ u16 r.slot

-- 0, or 1 and the row
abbrev pub row : Option Row → List ℕ
row None = 0 ∷ []
row (Some r) = 1 ∷ (short r.key ++ short r.body)

-- the row before a change, if there is one
abbrev pub old_row : Rows → Option Row
old_row (Inserted new) = None
old_row (Deleted old) = Some old
old_row (Updated old new) = Some old

-- the row after it, if there is one
abbrev pub new_row : Rows → Option Row
new_row (Inserted new) = Some new
new_row (Deleted old) = None
new_row (Updated old new) = Some new

-- a change: position, place, the row before and the row after
abbrev pub change : ChangeValue → List ℕ
change c = c.position ∷ (rid c.rid ++ (row (old_row c.rows) ++ row (new_row c.rows)))

-- a pair: the key with its length in front, then the place
abbrev pub pair : Pair → List ℕ
pair p = short p.key ++ rid p.rid

-- a flag as one byte
abbrev pub flag : Bool → List ℕ
flag false = 0 ∷ []
flag true = 1 ∷ []

-- the kind of a step on each part
abbrev pub forward_kind : Part → ℕ
forward_kind Slot = 1
forward_kind OldEntry = 2
forward_kind NewEntry = 3

-- the kind of an undo step on each part
abbrev pub undo_kind : Part → ℕ
undo_kind NewEntry = 4
undo_kind Slot = 5
undo_kind OldEntry = 6

-- the kind, and the fields
abbrev pub txn_fields : TxnAction → List ℕ
txn_fields (Forward part c) = forward_kind part ∷ change c
txn_fields (Undo part c last) = undo_kind part ∷ (change c ++ flag last)
txn_fields Commit = 7 ∷ []
txn_fields End = 8 ∷ []

-- kind and fields of a record of the index
abbrev pub index_fields : IndexAction → List ℕ
index_fields Create = 9 ∷ []
index_fields (BuildPlace p) = 10 ∷ pair p
index_fields (BuildCheckpoint p) = 11 ∷ pair p
index_fields BuildDone = 12 ∷ []
index_fields (Clean p) = 13 ∷ pair p
index_fields Drop = 14 ∷ []

-- kind and fields of any record
abbrev pub fields_of : Action → List ℕ
fields_of (OfTxn txn action) = txn_fields action
fields_of (OfIndex action) = index_fields action

-- the transaction, or 0
abbrev pub txn_of : Action → ℕ
txn_of (OfTxn txn action) = txn
txn_of (OfIndex action) = 0

-- the bytes of a record: number, transaction or 0, kind, fields
abbrev pub spelling : RecordValue → List ℕ
spelling r = u64 r.number ++ (u64 (txn_of r.action) ++ fields_of r.action)

-- The limits of each value in a version of the format.
pub record RidFits (r : Place) : Type 0 where
  pub page : r.page < 2 ^ 32
  pub slot : r.slot < SLOTS_PER_PAGE

-- key and body are no longer than they may be
pub record RowFitsIn (v : Version) (r : Row) : Type 0 where
  pub key : length r.key ≤ key_max v
  pub body : length r.body ≤ body_max v

-- so are the rows of a change
abbrev pub RowsFitIn : Version → Rows → Type 0
RowsFitIn v (Inserted new) = RowFitsIn v new
RowsFitIn v (Deleted old) = RowFitsIn v old
RowsFitIn v (Updated old new) = RowFitsIn v old × RowFitsIn v new

-- a change within the limits
pub record ChangeFitsIn (v : Version) (c : ChangeValue) : Type 0 where
  pub position : c.position < CHANGES_MAX
  pub rid : RidFits c.rid
  pub rows : RowsFitIn v c.rows

-- a pair within the limits
pub record PairFitsIn (v : Version) (p : Pair) : Type 0 where
  pub key : length p.key ≤ key_max v
  pub rid : RidFits p.rid

-- a number that a transaction may have
abbrev pub IsTxn : ℕ → Type 0
IsTxn n = (1 ≤ n) × (n < 2 ^ 64)

-- a transaction's action within the limits
abbrev pub TxnActionFitsIn : Version → TxnAction → Type 0
TxnActionFitsIn v (Forward part c) = ChangeFitsIn v c
TxnActionFitsIn v (Undo part c last) = ChangeFitsIn v c
TxnActionFitsIn v Commit = Unit {0}
TxnActionFitsIn v End = Unit {0}

-- an action of the index within the limits; an index is dropped in versions that have a drop
abbrev pub IndexActionFitsIn : Version → IndexAction → Type 0
IndexActionFitsIn v Create = Unit {0}
IndexActionFitsIn v (BuildPlace p) = PairFitsIn v p
IndexActionFitsIn v (BuildCheckpoint p) = PairFitsIn v p
IndexActionFitsIn v BuildDone = Unit {0}
IndexActionFitsIn v (Clean p) = PairFitsIn v p
IndexActionFitsIn v Drop = HasDrop v

-- any action within the limits
abbrev pub ActionFitsIn : Version → Action → Type 0
ActionFitsIn v (OfTxn txn action) = IsTxn txn × TxnActionFitsIn v action
ActionFitsIn v (OfIndex action) = IndexActionFitsIn v action

-- a record within the limits of a version of the format
pub record FitsIn (v : Version) (r : RecordValue) : Type 0 where
  pub first : 1 ≤ r.number
  pub last : r.number ≤ LAST_NUMBER
  pub rows : IsTrue (has_rows r.action)
  pub action : ActionFitsIn v r.action

-- The limits of version 2. A value of the program is within them.
abbrev pub RowFits : Row → Type 0
RowFits r = RowFitsIn Two r

abbrev pub RowsFit : Rows → Type 0
RowsFit rows = RowsFitIn Two rows

abbrev pub ChangeFits : ChangeValue → Type 0
ChangeFits c = ChangeFitsIn Two c

abbrev pub PairFits : Pair → Type 0
PairFits p = PairFitsIn Two p

abbrev pub TxnActionFits : TxnAction → Type 0
TxnActionFits a = TxnActionFitsIn Two a

abbrev pub IndexActionFits : IndexAction → Type 0
IndexActionFits a = IndexActionFitsIn Two a

abbrev pub ActionFits : Action → Type 0
ActionFits a = ActionFitsIn Two a

abbrev pub Fits : RecordValue → Type 0
Fits r = FitsIn Two r

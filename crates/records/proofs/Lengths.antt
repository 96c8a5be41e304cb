-- How long spellings are at least and at most.
use Rattle.std.proofs.Common.{◌≡◌, ◌≤◌, ◌+◌, ◌*◌, Some, None, ◌++◌, length, arith, length-append}
use Rattle.record_values.specs.declared.key.TheConstants.{KEY_MAX, BODY_MAX}
use Rattle.records.specs.declared.record.TheConstants.{RECORD_MAX, RECORD_MIN}
use Rattle.record_values.specs.Values.{Place}
use Rattle.records.specs.ChangeValue.{ChangeValue}
use Rattle.records.specs.RecordValue.{RecordValue}
use Rattle.record_values.specs.declared.row.Row.{Row}
use Rattle.record_values.specs.declared.pair.Pair.{Pair}
use Rattle.records.specs.declared.change.Rows.{Rows}
use Rattle.records.specs.declared.change.Rows.TheVariants.{Inserted, Deleted, Updated}
use Rattle.records.specs.declared.record.TxnAction.{TxnAction}
use Rattle.records.specs.declared.record.TxnAction.TheVariants.{Forward, Undo, Commit, End}
use Rattle.records.specs.declared.record.IndexAction.{IndexAction}
use Rattle.records.specs.declared.record.IndexAction.TheVariants.{Create, BuildPlace, BuildCheckpoint, BuildDone, Clean, Drop}
use Rattle.records.specs.declared.record.Action.{Action}
use Rattle.records.specs.declared.record.Action.TheVariants.{OfTxn, OfIndex}
use Rattle.records.specs.Spelling.{short, rid, row, change, pair, flag, u16, u32, u64, old_row, new_row, txn_fields, index_fields, txn_of, fields_of, spelling}
use Rattle.records.specs.Spelling.{RowFits, RowsFit, PairFits, TxnActionFits, IndexActionFits, ActionFits, Fits}
use Rattle.records.proofs.Sizes.{length-u16, length-u32, length-u64, length-flag}

row_most : (r : Row) → RowFits r → length (row (Some r)) ≤ 3 + KEY_MAX + BODY_MAX
row_most r fits = omega (arith, length-append (short r.key) (short r.body), fits.key, fits.body)

rows_most : (rows : Rows) → RowsFit rows → length (row (old_row rows) ++ row (new_row rows)) ≤ 2 * (3 + KEY_MAX + BODY_MAX)
rows_most (Inserted new) fits = omega (arith, length-append (row None) (row (Some new)), row_most new fits)
rows_most (Deleted old) fits = omega (arith, length-append (row (Some old)) (row None), row_most old fits)
rows_most (Updated old new) fits = omega (arith, length-append (row (Some old)) (row (Some new)), row_most old fits.0, row_most new fits.1)

length-rid : (r : Place) → length (rid r) ≡ 6
length-rid r = omega (arith, length-append (u32 r.page) (u16 r.slot), length-u32 r.page, length-u16 r.slot)

change_most : (c : ChangeValue) → RowsFit c.rows → length (change c) ≤ 7 + 2 * (3 + KEY_MAX + BODY_MAX)
change_most c fits = omega (arith, length-append (rid c.rid) (row (old_row c.rows) ++ row (new_row c.rows)), length-rid c.rid, rows_most c.rows fits)

pair_most : (p : Pair) → PairFits p → length (pair p) ≤ 7 + KEY_MAX
pair_most p fits = omega (arith, length-append (short p.key) (rid p.rid), length-rid p.rid, fits.key)

txn_most : (a : TxnAction) → TxnActionFits a → length (txn_fields a) ≤ 9 + 2 * (3 + KEY_MAX + BODY_MAX)
txn_most (Forward part c) fits = omega (arith, change_most c fits.rows)
txn_most (Undo part c last) fits = omega (arith, length-append (change c) (flag last), length-flag last, change_most c fits.rows)
txn_most Commit fits = omega arith
txn_most End fits = omega arith

index_most : (a : IndexAction) → IndexActionFits a → length (index_fields a) ≤ 9 + 2 * (3 + KEY_MAX + BODY_MAX)
index_most Create fits = omega arith
index_most (BuildPlace p) fits = omega (arith, pair_most p fits)
index_most (BuildCheckpoint p) fits = omega (arith, pair_most p fits)
index_most BuildDone fits = omega arith
index_most (Clean p) fits = omega (arith, pair_most p fits)
index_most Drop fits = omega arith

fields_most : (a : Action) → ActionFits a → length (fields_of a) ≤ 9 + 2 * (3 + KEY_MAX + BODY_MAX)
fields_most (OfTxn txn action) fits = txn_most action fits.1
fields_most (OfIndex action) fits = index_most action fits

some_txn : (a : TxnAction) → 1 ≤ length (txn_fields a)
some_txn (Forward part c) = omega arith
some_txn (Undo part c last) = omega arith
some_txn Commit = omega arith
some_txn End = omega arith

some_index : (a : IndexAction) → 1 ≤ length (index_fields a)
some_index Create = omega arith
some_index (BuildPlace p) = omega arith
some_index (BuildCheckpoint p) = omega arith
some_index BuildDone = omega arith
some_index (Clean p) = omega arith
some_index Drop = omega arith

some_fields : (a : Action) → 1 ≤ length (fields_of a)
some_fields (OfTxn txn action) = some_txn action
some_fields (OfIndex action) = some_index action

numbers : (r : RecordValue) → length (spelling r) ≡ 16 + length (fields_of r.action)
numbers r = omega (
  arith,
  length-append (u64 r.number) (u64 (txn_of r.action) ++ fields_of r.action),
  length-append (u64 (txn_of r.action)) (fields_of r.action),
  length-u64 r.number,
  length-u64 (txn_of r.action),
)

pub spelling_most : (r : RecordValue) → Fits r → length (spelling r) ≤ RECORD_MAX
spelling_most r fits = omega (arith, numbers r, fields_most r.action fits.action)

pub spelling_least : (r : RecordValue) → RECORD_MIN ≤ length (spelling r)
spelling_least r = omega (arith, numbers r, some_fields r.action)

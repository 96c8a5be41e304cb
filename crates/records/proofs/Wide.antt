-- What is within the limits of a version is within those of the latest.
use Rattle.std.proofs.Common.{◌≡◌, ◌≤◌, ℕ, List, ◌++◌, take, drop, sym, ap, ◌∙◌, arith, take-append-drop}
use Rattle.record_values.specs.declared.key.TheConstants.{KEY_MAX, BODY_MAX}
use Rattle.record_values.specs.declared.version.Version.{Version}
use Rattle.record_values.specs.declared.version.Version.TheVariants.{One, Two}
use Rattle.record_values.specs.Version.{key_max, body_max}
use Rattle.records.specs.ChangeValue.{ChangeValue}
use Rattle.records.specs.RecordValue.{RecordValue}
use Rattle.record_values.specs.declared.row.Row.{Row}
use Rattle.record_values.specs.declared.pair.Pair.{Pair}
use Rattle.records.specs.declared.change.Rows.{Rows}
use Rattle.records.specs.declared.change.Rows.TheVariants.{Inserted, Deleted, Updated}
use Rattle.records.specs.declared.record.TxnAction.{TxnAction}
use Rattle.records.specs.declared.record.TxnAction.TheVariants.{Forward, Undo, Commit, End}
use Rattle.records.specs.declared.record.IndexAction.{IndexAction}
use Rattle.records.specs.declared.record.IndexAction.TheVariants.{Create, BuildPlace, BuildCheckpoint, BuildDone, Clean, Drop}
use Rattle.records.specs.declared.record.Action.{Action}
use Rattle.records.specs.declared.record.Action.TheVariants.{OfTxn, OfIndex}
use Rattle.records.specs.Spelling.{spelling, RowFitsIn, RowFits, RowsFitIn, RowsFit, ChangeFitsIn, ChangeFits, PairFitsIn, PairFits, TxnActionFitsIn}
use Rattle.records.specs.Spelling.{TxnActionFits, IndexActionFitsIn, IndexActionFits, ActionFitsIn, ActionFits, FitsIn, Fits}
use Rattle.records.proofs.Spellings.{one_spelling}

key_most : (v : Version) → key_max v ≤ KEY_MAX
key_most One = omega arith
key_most Two = omega arith

body_most : (v : Version) → body_max v ≤ BODY_MAX
body_most One = omega arith
body_most Two = omega arith

row_wide : (v : Version) (r : Row) → RowFitsIn v r → RowFits r
row_wide v r fits = record { key = omega (arith, fits.key, key_most v); body = omega (arith, fits.body, body_most v) }

rows_wide : (v : Version) (rows : Rows) → RowsFitIn v rows → RowsFit rows
rows_wide v (Inserted new) fits = row_wide v new fits
rows_wide v (Deleted old) fits = row_wide v old fits
rows_wide v (Updated old new) fits = (row_wide v old fits.0, row_wide v new fits.1)

change_wide : (v : Version) (c : ChangeValue) → ChangeFitsIn v c → ChangeFits c
change_wide v c fits = record { position = fits.position; rid = fits.rid; rows = rows_wide v c.rows fits.rows }

pair_wide : (v : Version) (p : Pair) → PairFitsIn v p → PairFits p
pair_wide v p fits = record { key = omega (arith, fits.key, key_most v); rid = fits.rid }

txn_wide : (v : Version) (a : TxnAction) → TxnActionFitsIn v a → TxnActionFits a
txn_wide v (Forward part c) fits = change_wide v c fits
txn_wide v (Undo part c last) fits = change_wide v c fits
txn_wide v Commit fits = tt
txn_wide v End fits = tt

index_wide : (v : Version) (a : IndexAction) → IndexActionFitsIn v a → IndexActionFits a
index_wide v Create fits = tt
index_wide v (BuildPlace p) fits = pair_wide v p fits
index_wide v (BuildCheckpoint p) fits = pair_wide v p fits
index_wide v BuildDone fits = tt
index_wide v (Clean p) fits = pair_wide v p fits
index_wide v Drop fits = tt

action_wide : (v : Version) (a : Action) → ActionFitsIn v a → ActionFits a
action_wide v (OfTxn txn a) fits = (fits.0, txn_wide v a fits.1)
action_wide v (OfIndex a) fits = index_wide v a fits

pub wide : (v : Version) (r : RecordValue) → FitsIn v r → Fits r
wide v r fits = record { first = fits.first; last = fits.last; rows = fits.rows; action = action_wide v r.action fits.action }

-- a record that bytes begin with is any other that they begin with
pub same_record : (v : Version) (bytes : List ℕ) (n : ℕ) (found r : RecordValue) (rest : List ℕ) → take n bytes ≡ spelling found → Fits found → FitsIn v r
    → bytes ≡ spelling r ++ rest → found ≡ r
same_record v bytes n found r rest there fits good is =
    (one_spelling found r (drop n bytes) rest fits (wide v r good) (ap (λ (t : List ℕ). t ++ drop n bytes) (sym there) ∙ take-append-drop n bytes ∙ is)).0

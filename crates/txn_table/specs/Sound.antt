-- What holds of every table.
use Rattle.std.specs.Prelude.{◌≡◌, ℕ, ◌<◌, ◌≤◌, List, [], ◌∷◌, length, None, true, is_some}
use Rattle.record_values.specs.Values.{Place, is_among}
use Rattle.records.specs.ChangeValue.{ChangeValue}
use Rattle.records.specs.declared.change.TheConstants.{CHANGES_MAX}
use Rattle.record_values.specs.declared.txn.TheConstants.{TXNS_MAX}
use Rattle.txn_table.specs.Table.{TxnState, TableValue, holder_of}

-- the numbers rise, above the first bound and up to the second
abbrev pub Rises : ℕ → List (ℕ × TxnState) → ℕ → Type 0
Rises low [] high = low ≤ high
Rises low (e ∷ es) high = (low < e.0) × Rises e.0 es high

-- the row of each change is among these
abbrev pub AllHeld : List Place → List ChangeValue → Type 0
AllHeld rows [] = Unit {0}
AllHeld rows (c ∷ cs) = (is_among c.rid rows ≡ true) × AllHeld rows cs

-- at most `CHANGES_MAX` changes, whose rows are held
pub record IsSoundTxn (s : TxnState) : Type 0 where
  pub few : length s.changes ≤ CHANGES_MAX
  pub held : AllHeld s.rows s.changes

-- so it is of each active transaction
abbrev pub EachSoundTxn : List (ℕ × TxnState) → Type 0
EachSoundTxn [] = Unit {0}
EachSoundTxn (e ∷ es) = IsSoundTxn e.1 × EachSoundTxn es

-- no row is held by two: a transaction's rows are held by no later one
abbrev pub OneHolder : List (ℕ × TxnState) → Type 0
OneHolder [] = Unit {0}
OneHolder (e ∷ es) = ((r : Place) → is_among r e.1.rows ≡ true → holder_of r es ≡ None) × OneHolder es

-- at most `TXNS_MAX` transactions, with rising numbers from 1, and no row held by two of them
pub record IsSoundTable (t : TableValue) : Type 0 where
  pub few : length t.active ≤ TXNS_MAX
  pub rising : Rises 0 t.active t.begun
  pub txns : EachSoundTxn t.active
  pub one_holder : OneHolder t.active

-- these are the rows that somebody holds
abbrev pub AreHeldRows : List Place → List (ℕ × TxnState) → Type 0
AreHeldRows held active = (r : Place) → is_among r held ≡ is_some (holder_of r active)

-- what the fields of a table keep
pub record IsTableKept (t : TableValue) (held : List Place) : Type 0 where
  pub sound : IsSoundTable t
  pub held_rows : AreHeldRows held t.active

-- Cores that no call tells apart.
use Rattle.std.specs.Prelude.{[], length, option_map, ℕ, ◌≡◌}
use Rattle.record_values.specs.Values.{Place}
use Rattle.txn_table.specs.Table.{TxnState, holder_of}
use Rattle.core_parts.specs.View.{CoreValue}
use Rattle.core_parts.specs.Moves.{txn_shown}

-- a transaction without the rows that it holds, which have their holder
abbrev pub without_rows : TxnState → TxnState
without_rows x = record x { rows = [] }

-- They have the same rows, entries, reserved places, life, counts and waiting records, the cleaner and the scan are at
-- the same pair, and each transaction has the same changes, is as far, and has reserved as much. How the scan keeps the
-- pairs that wait is not told.
pub record AreAlike (v w : CoreValue) : Type 0 where
  pub heap : v.heap ≡ w.heap
  pub index : v.index ≡ w.index
  pub life : v.life ≡ w.life
  pub cleaned : v.cleaned ≡ w.cleaned
  pub scanned : v.scan.last ≡ w.scan.last
  pub last : v.last ≡ w.last
  pub tried : v.tried ≡ w.tried
  pub attempts : v.attempts ≡ w.attempts
  pub commits : v.commits ≡ w.commits
  pub outbox : v.outbox ≡ w.outbox
  pub begun : v.txns.begun ≡ w.txns.begun
  pub active : length v.txns.active ≡ length w.txns.active
  pub holder : (r : Place) → holder_of r v.txns.active ≡ holder_of r w.txns.active
  pub txns : (t : ℕ) → option_map without_rows (txn_shown v t) ≡ option_map without_rows (txn_shown w t)

-- An active transaction as its session has it, and its place among the others.
use Rattle.std.specs.Prelude.{◌≡◌, ℕ, ◌<◌, zero, suc, true, List, [], ◌∷◌, ◌==◌, if◌then◌else◌, vec_len, vec_capacity}
use Rattle.std.specs.Prelude.{slice_get, slice_index_or, map, is_some, Option, Some, None, ◌+◌}
use Rattle.threads_sessions.specs.declared.active.ActiveTxn.{ActiveTxn}
use Rattle.threads_sessions.specs.Values.{ActiveValue, active_of, with_active}

-- what contracts see of it
abbrev pub active_value : {A : Type 0} → ActiveTxn A → ActiveValue
active_value a = record { txn = a.txn; rows = a.rows.items; unfinished = a.unfinished; rolling = a.rolling }

-- the place of the first one with this number, where the list begins at i
abbrev pub place_from : {A : Type 0} → ℕ → ℕ → List (ActiveTxn A) → Option ℕ
place_from txn i [] = None
place_from txn i (a ∷ rest) = if txn == a.txn then Some i else place_from txn (i + 1) rest

-- it has room for one row more
abbrev pub HasRoom : {A : Type 0} → ActiveTxn A → Type 0
HasRoom a = vec_len a.rows < vec_capacity a.rows

-- so has the one at this place of the list
abbrev pub HasRoomAt : {A : Type 0} → ℕ → List (ActiveTxn A) → Type 0
HasRoomAt {A} i active = (a : ActiveTxn A) × (slice_get active i ≡ Some a) × HasRoom a

-- the list with the one at this place changed
abbrev pub changed_at : (ActiveValue → ActiveValue) → ℕ → List ActiveValue → List ActiveValue
changed_at f i [] = []
changed_at f zero (a ∷ rest) = f a ∷ rest
changed_at f (suc i) (a ∷ rest) = a ∷ changed_at f i rest

-- this is the place of the transaction with this number
pub record IsPlace {A : Type 0} (txn : ℕ) (xs : List (ActiveTxn A)) (i : ℕ) : Type 0 where
  pub changed : (f : ActiveValue → ActiveValue) → changed_at f i (map active_value xs)
      ≡ with_active f txn (map active_value xs)
  pub found : (d : ActiveTxn A) → active_of txn (map active_value xs) ≡ Some (active_value (slice_index_or xs i d))
  pub there : is_some (active_of txn (map active_value xs)) ≡ true
  pub number : (a : ActiveTxn A) → slice_get xs i ≡ Some a → (txn == a.txn) ≡ true

-- A transaction that is ready.
use Rattle.std.proofs.Common.{◌≡◌, None, Option, Some, is_some, refl, true, ℕ}
use Rattle.threads_sessions.specs.Values.{ActiveValue, SessionValue, active_of, can_go_on, is_active, is_ready}

-- it is active
pub ready_active : (s : SessionValue) (txn : ℕ) → is_ready s txn ≡ true → is_active s txn ≡ true
ready_active s txn ready = by (active_of txn s.active) ready
  where
    by : (a : Option ActiveValue) → can_go_on a ≡ true → is_some a ≡ true
    by None e = absurd cc
    by (Some a) e = refl

-- What a seat sees of the core.
use Rattle.std.specs.Prelude.{List, slice_get, Some, ℕ, ◌≡◌}
use Rattle.records.specs.RecordValue.{RecordValue}
use Rattle.core_model.specs.Histories.{Opened}
use Rattle.core_parts.specs.View.{CoreValue}
use Rattle.locked_core.specs.Names.{IsShared}
use Rattle.threads_sessions.specs.Values.{SessionValue}

-- This holds of a core that may lie under the lock, with records pushed, and with sessions among which the seat has
-- this one.
pub record WasSeen (o : Opened) (seat : ℕ) (session : SessionValue) (Holds : CoreValue → Type 0) : Type 0 where
  pub core : CoreValue
  pub pushed : List RecordValue
  pub book : List SessionValue
  pub shared : IsShared o core pushed book
  pub here : slice_get book seat ≡ Some session
  pub holds : Holds core

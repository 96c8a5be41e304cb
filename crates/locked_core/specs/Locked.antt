-- What contracts see of what lies under the lock.
use Rattle.std.specs.Prelude.{List, map}
use Rattle.records.specs.RecordValue.{RecordValue}
use Rattle.nsf_core.specs.Value.{value_of}
use Rattle.core_parts.specs.View.{CoreValue}
use Rattle.threads_sessions.specs.Halves.{shown}
use Rattle.threads_sessions.specs.Values.{SessionValue}
use Rattle.locked_core.specs.declared.locked.Locked.{Locked}

-- the core, the records that were pushed, and the session of each seat
pub record LockedValue : Type 0 where
  pub core : CoreValue
  pub pushed : List RecordValue
  pub book : List SessionValue

-- what contracts see of it
abbrev pub locked_of : {B A : Type 0} {g m : _} → Locked B A g m → LockedValue
locked_of l = record { core = value_of l.core; pushed = l.pusher.records; book = map shown l.book.items }

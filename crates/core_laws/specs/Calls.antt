-- Calls of a core, one after another.
use Rattle.std.specs.Prelude.{List, [], ◌++◌, ◌∷◌, ◌≡◌}
use Rattle.records.specs.RecordValue.{RecordValue}
use Rattle.core_model.specs.Events.{Event, Reply, Standing, standing_at}
use Rattle.core_model.specs.Served.{HasServed}
use Rattle.core_model.specs.Histories.{Opened, opened}
use Rattle.core_model.specs.States.{State}
use Rattle.core_copies.specs.Outbox.{HandsOn}
use Rattle.core_parts.specs.View.{CoreValue, IsState, Serves}

-- a core stands for what was opened, with no transaction, and no record waits
pub record BeginsWith (o : Opened) (v : CoreValue) : Type 0 where
  pub stands : IsState v (opened o) (standing_at o.given.last)
  pub none_waits : v.outbox ≡ []

-- From the one value to the other a core gave these events these replies, each as the contract of its method says, and
-- handed these records on.
pub data Calls : CoreValue → List (Event × Reply) → List RecordValue → CoreValue → Type 0 where
  no_call : {v : CoreValue} → Calls v [] [] v
  served : {old now new : CoreValue} (e : Event) (reply : Reply) (rest : List (Event × Reply))
      (handed : List RecordValue) → Serves old e reply now → Calls now rest handed new
      → Calls old ((e, reply) ∷ rest) handed new
  taken : {old now new : CoreValue} (before after : List RecordValue) (rest : List (Event × Reply))
      (handed : List RecordValue) (on : HandsOn old now before after) → Calls now rest handed new
      → Calls old rest (on.handed ++ handed) new

-- The core stands for a state of the abstract one, which gave these events these replies, each one that was allowed
-- then, since it was opened; and the records that were handed on, with those that wait, are all that it made.
pub record HasReplied (o : Opened) (pairs : List (Event × Reply)) (handed : List RecordValue)
    (v : CoreValue) : Type 0 where
  pub state : State
  pub standing : Standing
  pub stands : IsState v state standing
  pub served : HasServed o (handed ++ v.outbox) pairs state standing

-- What is handed on of the records that wait.
use Rattle.std.specs.Prelude.{List, ◌++◌, ◌≡◌}
use Rattle.records.specs.RecordValue.{RecordValue}
use Rattle.core_parts.specs.View.{CoreValue}

-- the first of the waiting records were handed on, in order, behind those that were taken before; the others still
-- wait, and nothing else changed
pub record HandsOn (old new : CoreValue) (before after : List RecordValue) : Type 0 where
  pub handed : List RecordValue
  pub split : old.outbox ≡ handed ++ new.outbox
  pub taken : after ≡ before ++ handed
  pub others : new ≡ record old { outbox = new.outbox }

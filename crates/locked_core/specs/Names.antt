-- What many seats share, by name, and what it keeps.
use Rattle.std.specs.FinMap as map
use Rattle.std.specs.Prelude.{[], List, ℕ, ◌++◌}
use base.Stored.{gnil}
use Rattle.atomic_table.specs.Seated.{TableId}
use Rattle.records.specs.RecordValue.{RecordValue}
use Rattle.model.specs.declared.life.Life.TheVariants.{Absent}
use Rattle.core_model.specs.Histories.{CanOpen, Opened}
use Rattle.core_parts.specs.View.{CoreValue}
use Rattle.threads_sessions.specs.Values.{SessionValue}
use Rattle.threads_queue.specs.Ends.{QueueName}
use Rattle.threads_register.specs.Agreement.{IsRegister}
use Rattle.threads_register.specs.History.{ShowsCommits}

-- the queue to the flusher, the registry of the sessions, the board, how many seats there are, and what the core began
-- with
pub record Names : Type 0 where
  pub queue : QueueName
  pub table : TableId
  pub board : TableId
  pub seats : ℕ
  pub opened : Opened

-- a name of no table
abbrev pub no_table : TableId
no_table = record { words = 0; slots = 0; views_name = 0; atom = 0; block = 0; offset = 0; slot_names = [] }

-- names of nothing, before there is a group
abbrev pub no_names : Names
no_names = record {
  queue = record { web = (0, 0); heap = gnil };
  table = no_table;
  board = no_table;
  seats = 0;
  opened = record {
    given = record { table = map.empty; entries = map.empty; life = Absent; last = 0 };
    pages = 0;
    places = 0;
  };
}

-- What the core and the sessions under the lock keep: the sessions have what the core has of the active transactions,
-- and its commits and what was done to the index, each in one list of all seats in the order of their numbers; and for
-- each record number from that of the opening on, the records up to it give the table of the opening with the commits
-- up to it set over it.
pub record IsShared (opened : Opened) (core : CoreValue) (pushed : List RecordValue)
    (book : List SessionValue) : Type 0 where
  pub opens : CanOpen opened
  pub register : IsRegister opened pushed core book
  pub tables : ShowsCommits opened (pushed ++ core.outbox) core register.commits.commits

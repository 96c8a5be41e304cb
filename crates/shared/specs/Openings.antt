-- What is made for a group of seats before it has its names.
use Rattle.std.specs.Prelude.{[], false, length, ℕ, ◌≡◌}
use Rattle.board.specs.Views.{nothing_seen}
use Rattle.core_laws.specs.Calls.{BeginsWith}
use Rattle.core_model.specs.Histories.{CanOpen}
use Rattle.nsf_core.specs.Value.{value_of}
use Rattle.core_parts.specs.View.{CoreValue}
pub use Rattle.core_parts.specs.Opening.{opened_of}
use Rattle.locked_core.specs.Names.{Names}
use Rattle.threads_sessions.specs.Halves.{IsNew}
use Rattle.shared.specs.declared.opening.Opening.{Opening}

-- the core was just opened: with its rows, its entries and its life, after its last record
pub record IsJustOpened (v : CoreValue) : Type 0 where
  pub opens : CanOpen (opened_of v)
  pub begins : BeginsWith (opened_of v) v

-- the names of what is made for the seats
abbrev pub names_of : {A : Type 0} → Opening A → Names
names_of o = record {
  queue = o.queue;
  table = o.registry;
  board = o.board;
  seats = length o.book.items;
  opened = opened_of (value_of o.core);
}

-- so many sessions, with nothing in them, the queue with nothing pushed or popped, and the views of the board with
-- nothing seen
pub record IsOpening {A : Type 0} (count : ℕ) (o : Opening A) : Type 0 where
  pub pusher : o.pusher ≡ record { queue = o.queue; records = [] }
  pub popper : o.popper ≡ record { queue = o.queue; records = [] }
  pub counted : (length o.book.items ≡ count) × (length o.halves.items ≡ count)
  pub book : IsNew o.registry o.book.items
  pub halves : IsNew o.registry o.halves.items
  pub flush : o.flush ≡ record { board = o.board; horizon = 0; failed = false; stopped = false; notes = [] }
  pub build : o.build ≡ record { board = o.board; progress = 0; stopped = false }
  pub view : o.view ≡ nothing_seen o.board

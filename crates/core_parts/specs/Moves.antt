-- What a step asks of a transaction, and a core as it is made.
use Rattle.std.specs.FinMap.{empty}
use Rattle.std.specs.Prelude.{None, Option, Some, [], ℕ, ◌≡◌, ◌≢◌, ◌⊎◌}
use Rattle.record_values.specs.GeometryValue.{GeometryValue}
use Rattle.model.specs.declared.life.Life.TheVariants.{Absent}
use Rattle.sorted_scan.specs.Scans.{begun}
use Rattle.txn_table.specs.Table.{TxnState}
use Rattle.txn_table.specs.declared.progress.Progress.TheVariants.{OwesEntry, OwesRow, Ready}
use Rattle.core_parts.specs.View.{CoreValue}
use Rattle.txn_table.specs.Table as table

-- what a change asks for: the transaction is ready, or not active
abbrev pub IsReadyOrNone : Option TxnState → Type 0
IsReadyOrNone None = Unit {0}
IsReadyOrNone (Some x) = x.progress ≡ Ready

-- it is active, and owes a step or is rolling back
abbrev pub IsUnready : Option TxnState → Type 0
IsUnready None = ⊥
IsUnready (Some x) = x.progress ≢ Ready

-- it is active, and owes no step of a change
abbrev pub OwesNone : Option TxnState → Type 0
OwesNone None = ⊥
OwesNone (Some x) = (x.progress ≢ OwesRow) × (x.progress ≢ OwesEntry)

-- what the core has of an active transaction
abbrev pub txn_shown : CoreValue → ℕ → Option TxnState
txn_shown v t = table.state_of t v.txns.active

-- no change is left to take back
abbrev pub HasNoChange : Option TxnState → Type 0
HasNoChange None = Unit {0}
HasNoChange (Some x) = x.changes ≡ []

-- nothing but rows to come: a core as it is made
abbrev pub fresh : GeometryValue → ℕ → CoreValue
fresh g base = record {
  heap = record { pages = g.pages; rows = empty };
  txns = record { active = []; begun = 0 };
  index = record { entries = empty; pledged = 0; capacity = g.entries };
  life = Absent;
  scan = begun None g.pages;
  cleaned = None;
  last = base;
  tried = 0;
  attempts = 0;
  commits = 0;
  outbox = [];
}

-- what carrying a change on asks for: the transaction owes a step of its newest change, or is not active
abbrev pub OwesOrNone : Option TxnState → Type 0
OwesOrNone None = Unit {0}
OwesOrNone (Some x) = (x.progress ≡ OwesRow) ⊎ (x.progress ≡ OwesEntry)

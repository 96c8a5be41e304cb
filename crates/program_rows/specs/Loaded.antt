-- Rows are loaded, and what is loaded is safe.
use Rattle.std.specs.Prelude.{Bool, Err, List, None, Ok, Option, Result, Some, [], false, if◌then◌else◌, is_some, min}
use Rattle.std.specs.Prelude.{true, ℕ, ◌+◌, ◌-◌, ◌<◌, ◌^◌, ◌∷◌, ◌≡◌, ◌≤◌, ◌⊎◌}
use Rattle.std.specs.declared.alloc.Global.{Global}
use Rattle.core_parts.specs.declared.parts.Ticket.{Ticket}
use Rattle.program_commands.specs.Store.{Flushes, Serves, horizon_of, last_made}
use Rattle.program_commands.specs.declared.store.Store.{Store}
use Rattle.record_values.specs.declared.error.Error.{Error}
use Rattle.record_values.specs.declared.error.Error.TheVariants.{DeviceFailed, NoSuchTxn}
use Rattle.record_values.specs.declared.row.Row.{Row}
use Rattle.restart.specs.declared.event.Event.{Event}
use Rattle.restart.specs.declared.event.Event.TheVariants.{Begin, Commit, Insert, Step}
use Rattle.restart.specs.declared.event.Reply.{Reply}
use Rattle.restart.specs.declared.event.Reply.TheVariants as reply
use Rattle.sector_device.specs.DevicePast.{DevicePast}
use Rattle.program_rows.specs.Reading.{GivesNext, has_ended, line_in}
use Rattle.program_rows.specs.declared.error.RowsError.{RowsError}
use Rattle.program_rows.specs.declared.error.RowsError.TheVariants as why
use Rattle.program_rows.specs.declared.loading.Loader.{Loader}
use Rattle.program_rows.specs.declared.loading.Taken.{Taken}
use Rattle.program_rows.specs.declared.loading.Taken.TheVariants as taken
use Rattle.program_rows.specs.declared.loading.TheConstants.{ROWS}
use Rattle.program_rows.specs.declared.reading.RowReader.{RowReader}
use Rattle.program_rows.specs.declared.rows.RowError.{RowError}

module _ {D : Type 0} where
  -- the store, and the transaction that is open
  abbrev pub store_in : Loader D → Store D
  store_in l = l.store

  abbrev pub open_txn : Loader D → Option ℕ
  open_txn l = l.txn

  -- how many rows that has inserted, how many are safe, and how many records had none
  abbrev pub rows_in : Loader D → ℕ
  rows_in l = l.rows

  abbrev pub loaded_in : Loader D → ℕ
  loaded_in l = l.loaded

  abbrev pub refused_in : Loader D → ℕ
  refused_in l = l.refused

  -- The line of the last record that was dealt with; or, while a transaction is open, of the last one before its rows.
  abbrev pub safe_line : Loader D → ℕ
  safe_line l = if is_some l.txn then l.behind else l.line

  -- the loader with another store, and nothing else of it changed
  abbrev pub with_store : Store D → Loader D → Loader D
  with_store s l = record l { store = s }

  -- the same, and this transaction was begun in it, whose rows stand behind the line of the last record
  abbrev pub with_txn : ℕ → Store D → Loader D → Loader D
  with_txn txn s l = record l { store = s; txn = Some txn; rows = 0; behind = l.line }

  -- the same, and the transaction that is open has a row more
  abbrev pub with_row : Store D → Loader D → Loader D
  with_row s l = record l { store = s; rows = min (l.rows + 1) (2 ^ 64 - 1) }

  -- the same, and the rows of that transaction are counted as safe
  abbrev pub with_safe : Store D → Loader D → Loader D
  with_safe s l = record l { store = s; txn = None; loaded = min (l.loaded + l.rows) (2 ^ 64 - 1) }

  -- a record more had no row
  abbrev pub with_refusal : Loader D → Loader D
  with_refusal l = record l { refused = min (l.refused + 1) (2 ^ 64 - 1) }

  -- the record in this line was dealt with
  abbrev pub at_line : ℕ → Loader D → Loader D
  at_line line l = record l { line = line }

-- whether a reply is a refusal
abbrev pub is_refusal : Reply Global → Bool
is_refusal (reply.Refused e) = true
is_refusal other = false

-- why a reply isn't the one that is wanted
abbrev pub refusal_in : Reply Global → Error
refusal_in (reply.Refused e) = e
refusal_in other = NoSuchTxn

abbrev pub is_txn : Reply Global → Bool
is_txn (reply.Txn txn) = true
is_txn other = false

abbrev pub is_ticket : Reply Global → Bool
is_ticket (reply.Ticket ticket) = true
is_ticket other = false

-- what is asked of the store for a row: its insertion, and the steps that this owes
abbrev pub insertion : ℕ → Row → List Event
insertion txn row = Insert txn row.key row.body ∷ Step txn ∷ Step txn ∷ []

module _ {D : Type 0} (past_of : D → DevicePast) (failures : D → ℕ) where
  -- the event had a reply that is no refusal
  abbrev pub Grants : Event → Store D → Store D → Type 0
  Grants event old new = (r : Reply Global) × (is_refusal r ≡ false) × Serves past_of failures event r old new

  -- each of these events had one, one behind the other
  abbrev pub GrantsAll : List Event → Store D → Store D → Type 0
  GrantsAll [] old new = new ≡ old
  GrantsAll (event ∷ events) old new = (mid : Store D) × Grants event old mid × GrantsAll events mid new

  -- the first ones of them had one, and the next was refused so
  abbrev pub RefusesOne : List Event → Error → Store D → Store D → Type 0
  RefusesOne [] e old new = ⊥
  RefusesOne (event ∷ events) e old new = Serves past_of failures event (reply.Refused e) old new
      ⊎ ((mid : Store D) × Grants event old mid × RefusesOne events e mid new)

  -- The event had another reply than one that is wanted.
  abbrev pub Denies : (wanted : Reply Global → Bool) → Event → Error → Store D → Store D → Type 0
  Denies wanted event e old new = (r : Reply Global) × (wanted r ≡ false) × (e ≡ refusal_in r)
      × Serves past_of failures event r old new

  -- All was flushed, and this record is synced.
  abbrev pub FlushesTo : ℕ → Store D → Store D → Type 0
  FlushesTo number old new = (final : Reply Global) × Flushes past_of failures (last_made old) final old new
      × (number ≤ horizon_of new)

  -- The flush was refused so, or it came not so far.
  abbrev pub FlushesShort : ℕ → Error → Store D → Store D → Type 0
  FlushesShort number e old new = (final : Reply Global) × Flushes past_of failures (last_made old) final old new
      × ((final ≡ reply.Refused e) ⊎ ((horizon_of new < number) × (e ≡ DeviceFailed)))

  -- The transaction was committed, and all was flushed then: the record of the commit is synced.
  pub record IsSafelyCommitted (txn : ℕ) (old new : Store D) : Type 0 where
    pub mid : Store D
    pub ticket : Ticket
    pub commits : Serves past_of failures (Commit txn) (reply.Ticket ticket) old mid
    pub flushes : FlushesTo ticket.record mid new

  -- It was committed, but its record isn't synced.
  pub record IsUnsafelyCommitted (txn : ℕ) (e : Error) (old new : Store D) : Type 0 where
    pub mid : Store D
    pub ticket : Ticket
    pub commits : Serves past_of failures (Commit txn) (reply.Ticket ticket) old mid
    pub flushes : FlushesShort ticket.record e mid new

  -- The commit was refused, or it isn't safe.
  abbrev pub IsNotCommitted : ℕ → Error → Store D → Store D → Type 0
  IsNotCommitted txn e old new = Denies is_ticket (Commit txn) e old new ⊎ IsUnsafelyCommitted txn e old new

  -- No transaction was open. Or the one that was is committed, and safe, and its rows are counted.
  abbrev pub IsCounted : Loader D → Loader D → Type 0
  IsCounted old new = ((open_txn old ≡ None) × (new ≡ old))
      ⊎ ((txn : ℕ) × (open_txn old ≡ Some txn) × IsSafelyCommitted txn (store_in old) (store_in new)
      × (new ≡ with_safe (store_in new) old))

  -- The one that was open isn't safe, and none of its rows is counted.
  abbrev pub IsNotCounted : Error → Loader D → Loader D → Type 0
  IsNotCounted e old new = (txn : ℕ) × (open_txn old ≡ Some txn)
      × IsNotCommitted txn e (store_in old) (store_in new) × (new ≡ with_store (store_in new) old)

  -- This transaction is open: it was before, or it was begun.
  abbrev pub IsOpen : ℕ → Loader D → Loader D → Type 0
  IsOpen txn old new = ((open_txn old ≡ Some txn) × (new ≡ old))
      ⊎ ((open_txn old ≡ None) × Serves past_of failures Begin (reply.Txn txn) (store_in old) (store_in new)
      × (new ≡ with_txn txn (store_in new) old))

  -- none was, and the beginning was refused
  abbrev pub IsNotOpen : Error → Loader D → Loader D → Type 0
  IsNotOpen e old new = (open_txn old ≡ None) × Denies is_txn Begin e (store_in old) (store_in new)
      × (new ≡ with_store (store_in new) old)

  -- The row was inserted by the transaction that is open, or was begun for it.
  pub record Inserts (row : Row) (old new : Loader D) : Type 0 where
    pub txn : ℕ
    pub mid : Loader D
    pub opened : IsOpen txn old mid
    pub granted : GrantsAll (insertion txn row) (store_in mid) (store_in new)
    pub counted : new ≡ with_row (store_in new) mid

  -- the insertion, or a step of it, was refused
  pub record IsNotInserted (row : Row) (e : Error) (old new : Loader D) : Type 0 where
    pub txn : ℕ
    pub mid : Loader D
    pub opened : IsOpen txn old mid
    pub refused : RefusesOne (insertion txn row) e (store_in mid) (store_in new)
    pub same : new ≡ with_store (store_in new) mid

  -- Where its transaction has as many rows as it may then, that is committed too.
  abbrev pub Adds : Row → Taken → Loader D → Loader D → Type 0
  Adds row taken.Row old new = Inserts row old new × (rows_in new < ROWS)
  Adds row taken.Batch old new = (mid : Loader D) × Inserts row old mid × (ROWS ≤ rows_in mid) × IsCounted mid new
  Adds row (taken.Refused e) old new = ⊥
  Adds row taken.End old new = ⊥

  -- The row isn't inserted: no transaction was begun for it, or it was refused.
  abbrev pub IsNotPut : Row → Error → Loader D → Loader D → Type 0
  IsNotPut row e old new = IsNotOpen e old new ⊎ IsNotInserted row e old new

  -- That, or it was inserted, and the commit that was due isn't safe.
  abbrev pub IsNotAdded : Row → Error → Loader D → Loader D → Type 0
  IsNotAdded row e old new = IsNotPut row e old new
      ⊎ ((mid : Loader D) × Inserts row old mid × (ROWS ≤ rows_in mid) × IsNotCounted e mid new)

  -- A row that a record gave is added, and a record that gave none is counted.
  abbrev pub DealsWith : Result Row RowError → Taken → Loader D → Loader D → Type 0
  DealsWith (Ok row) t old new = Adds row t old new
  DealsWith (Err why) t old new = (t ≡ taken.Refused why) × (new ≡ with_refusal old)

  abbrev pub IsNotDealtWith : Result Row RowError → Error → Loader D → Loader D → Type 0
  IsNotDealtWith (Ok row) e old new = IsNotAdded row e old new
  IsNotDealtWith (Err why) e old new = ⊥

  -- What was found behind the last record is dealt with. Behind the last one the transaction that is open is committed.
  abbrev pub Takes : Option (Result Row RowError) → ℕ → Taken → Loader D → Loader D → Type 0
  Takes None line t old new = (t ≡ taken.End) × IsCounted old new
  Takes (Some found) line t old new = (mid : Loader D) × DealsWith found t old mid × (new ≡ at_line line mid)

  -- The store refused that.
  abbrev pub IsNotTaken : Option (Result Row RowError) → Error → Loader D → Loader D → Type 0
  IsNotTaken None e old new = IsNotCounted e old new
  IsNotTaken (Some found) e old new = IsNotDealtWith found e old new

  -- The next record was read, and what it gave was dealt with.
  abbrev pub TakesNext : {R : Type 0} → (R → Option (List ℕ)) → Taken → RowReader R → RowReader R
      → Loader D → Loader D → Type 0
  TakesNext remaining t rows rows' old new = (found : Option (Result Row RowError))
      × GivesNext remaining found rows rows' × Takes found (line_in rows') t old new

  -- Nothing was read, and nothing done. Or it was read, and the store refused what was to be done then.
  abbrev pub IsRefusedNext : {R : Type 0} → (R → Option (List ℕ)) → RowsError → RowReader R → RowReader R
      → Loader D → Loader D → Type 0
  IsRefusedNext remaining (why.Text e) rows rows' old new = (has_ended rows' ≡ true) × (new ≡ old)
  IsRefusedNext remaining (why.Store e) rows rows' old new = (found : Option (Result Row RowError))
      × GivesNext remaining found rows rows' × IsNotTaken found e old new

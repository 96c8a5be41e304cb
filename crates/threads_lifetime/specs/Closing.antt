-- What is left at the end: of the device, of the core and of the commits.
use Rattle.std.specs.Prelude.{◌≡◌, ◌+◌, ◌++◌, ◌∷◌, ◌≤◌, [], IfSome, List, Option, filter, length, nat_le, take, ℕ}
use Rattle.std.specs.declared.vec.Vec.{Vec}
use Rattle.record_values.specs.GeometryValue.{GeometryValue}
use Rattle.records.specs.RecordValue.{RecordValue}
use Rattle.core_model.specs.Served.{items_of}
use Rattle.core_copies.specs.Shown.{IsCellsOf}
use Rattle.core_laws.specs.Holds.{HoldsHistory, committed_rows}
use Rattle.std.specs.List.{All}
use Rattle.core_model.specs.Histories.{Opened, no_writes}
use Rattle.model.specs.Cells.{Cells}
use Rattle.model.specs.Given.{Given, given_after, recovered}
use Rattle.model.specs.Table.{Table, applied}
use Rattle.core_parts.specs.View.{CoreValue}
use Rattle.sector_device.specs.Disk.{CrashState, IsCrashState}
use Rattle.sector_device.specs.DevicePast.{DevicePast}
use Rattle.store_reader.specs.Contents.{Gives}
use Rattle.threads_sessions.specs.Values.{CommitValue}
use Rattle.locked_core.specs.Names.{IsShared}
use Rattle.shared.specs.Seats.{SeatValue}
use Rattle.store_writer.specs.Parts.{halves_of}
use Rattle.threads_flusher.specs.Part.{FlushValue, IsKeptSince, popped_by}
use Rattle.threads_lifetime.specs.Gathered.{AreCommitsOf, sessions_of}

-- the table with the rows of these commits set over it, one commit after the other
abbrev pub table_with : Table → List CommitValue → Table
table_with table [] = table
table_with table (c ∷ cs) = table_with (applied table c.writes) cs

-- the commits whose records have a number up to this one
abbrev pub up_to : ℕ → List CommitValue → List CommitValue
up_to number commits = filter (λ c. nat_le c.ticket.«record» number) commits

-- The core is as these seats left it: the sessions of the seats have what it has of the active transactions, its
-- commits, and what was done to the index; it holds the history that its calls tell; and no record of it waits. Those
-- that the flusher had popped are the first that it made. Its committed table, and its rows once no transaction is
-- active, are what was opened with the commits set over it.
pub record IsCoreOf (o : Opened) (seats : List SeatValue) (popped : List RecordValue) (core : CoreValue)
    (commits : List CommitValue) : Type 0 where
  pub pushed : List RecordValue
  pub shared : IsShared o core pushed (sessions_of seats)
  pub holds : HoldsHistory o (items_of no_writes shared.register.kept.calls) core
  pub none_waits : core.outbox ≡ []
  pub begins : popped ≡ take (length popped) pushed
  pub committed : committed_rows core ≡ table_with o.given.table commits
  pub rows : core.txns.active ≡ [] → core.heap.rows ≡ table_with o.given.table commits

-- The crash state gives all that was made: the table of what was opened with all commits set over it, the core's life,
-- and what is recovered of the core's cells. With no active transaction that is the core's rows and entries.
pub record GivesAll (o : Opened) (g : GeometryValue) (core : CoreValue) (commits : List CommitValue)
    (image : CrashState) : Type 0 where
  pub given : Given
  pub gives : Gives image g given
  pub table : given.table ≡ table_with o.given.table commits
  pub life : given.life ≡ core.life
  pub last : given.last ≡ core.last
  pub cells : Cells
  pub of_core : IsCellsOf core cells
  pub recovers : given ≡ recovered cells core.last
  pub alone : core.txns.active ≡ []
      → given ≡ record { table = core.heap.rows; entries = core.index.entries; life = core.life; last = core.last }

-- All is taken back, and these are the commits of the seats, by number: the core is as the seats left it, whatever a
-- crash leaves of the device gives all that was made, and where commits were kept, just these were.
pub record IsClosed {D A : Type 0} (past_of : D → DevicePast) (o : Opened) (g : GeometryValue) (seats : List SeatValue)
    (popped : List RecordValue) (core : CoreValue) (device : D) (kept : Option (Vec CommitValue A)) : Type 0 where
  pub commits : List CommitValue
  pub of_seats : AreCommitsOf seats commits
  pub of_core : IsCoreOf o seats popped core commits
  pub gives : (image : CrashState) → IsCrashState (past_of device).disk image → GivesAll o g core commits image
  pub given : IfSome kept (λ v. v.items ≡ commits)

-- The crash state gives what some of the records that these seats, the builder and the cleaner made, the first ones,
-- make of what was opened, with every record up to the floor; those that the flusher had popped are the first that were
-- made. Its table is that of what was opened with the seats' commits up to its last record set over it.
pub record GivesSome (o : Opened) (g : GeometryValue) (seats : List SeatValue) (popped : List RecordValue) (floor : ℕ)
    (image : CrashState) : Type 0 where
  pub core : CoreValue
  pub pushed : List RecordValue
  pub shared : IsShared o core pushed (sessions_of seats)
  pub begins : popped ≡ take (length popped) pushed
  pub count : ℕ
  pub most : count ≤ length (pushed ++ core.outbox)
  pub least : floor ≤ o.given.last + count
  pub gives : Gives image g (given_after o.given (take count (pushed ++ core.outbox)))
  pub commits : List CommitValue
  pub all : AreCommitsOf seats commits
  pub table : (given_after o.given (take count (pushed ++ core.outbox))).table
      ≡ table_with o.given.table (up_to (o.given.last + count) commits)

-- A crash at any moment since the flusher published a horizon, until the device has this past, leaves what some of the
-- records that were made make of what was opened, the first ones, with all up to that horizon.
abbrev pub KeepsPublished : {D A : Type 0} → Opened → FlushValue D A → List SeatValue → DevicePast → Type 0
KeepsPublished o f seats now = All (IsKeptSince (λ floor image.
    ∥ GivesSome o (halves_of f.writer).geometry seats (popped_by f) floor image ∥₁) now) f.publications

-- What a store holds that many seats shared.
use Rattle.std.specs.Prelude.{◌≡◌, ◌⊎◌, ◌≤◌, ◌++◌, ℕ, All, Bool, false, List, length, take}
use Rattle.record_values.specs.GeometryValue.{GeometryValue}
use Rattle.record_values.specs.declared.error.Error.{Error}
use Rattle.record_values.specs.declared.error.Error.TheVariants.{DeviceFailed, NoMemory}
use Rattle.records.specs.RecordValue.{RecordValue}
use Rattle.core_copies.specs.Loaded.{holding}
use Rattle.core_model.specs.Histories.{Opened}
use Rattle.locked_core.specs.Names.{IsShared}
use Rattle.model.specs.Given.{Given, given_after}
use Rattle.model.specs.Table.{Table}
use Rattle.sector_device.specs.Disk.{CrashState}
use Rattle.sector_device.specs.DevicePast.{Rises}
use Rattle.core_parts.specs.View.{CoreValue}
use Rattle.store_reader.specs.Contents.{Gives}
use Rattle.threads_sessions.specs.Values.{CommitValue}
use Rattle.nsf.specs.Seats.{AckValue, SeatValue}
use Rattle.nsf.specs.Closing.{table_with, up_to}
use Rattle.nsf.specs.Gathered.{AreCommitsOf, sessions_of}
use Rattle.headline.specs.Fitting.{IsIndexOf}
use Rattle.headline.specs.Held.{IsQuiet}

-- The seats, the builder and the cleaner made these records, and the first of them were kept, up to a last one. The
-- core is as one that is opened over what they make of what was opened: so its entries are, and so far its index is.
--
-- These are the commits of all seats, in the order of their numbers. The rows are those that were opened, with the
-- commits up to the last record set over them, one after another. It isn't before the last that was synced, nor before
-- that of any acknowledgement. The index fits the rows. No transaction is active, and the core has the room of a store
-- of this geometry.
pub record HoldsSeats (o : Opened) (geometry : GeometryValue) (seats : List SeatValue) (synced : ℕ)
    (acks : List AckValue) (core : CoreValue) : Type 0 where
  pub made : CoreValue
  pub pushed : List RecordValue
  pub shared : IsShared o made pushed (sessions_of seats)
  pub count : ℕ
  pub most : count ≤ length (pushed ++ made.outbox)
  pub opened-over : core ≡ holding geometry (given_after o.given (take count (pushed ++ made.outbox)))
  pub commits : List CommitValue
  pub of-seats : AreCommitsOf seats commits
  pub rows : core.heap.rows ≡ table_with o.given.table (up_to core.last commits)
  pub kept : synced ≤ core.last
  pub safe : All (λ (a : AckValue). a.ticket.«record» ≤ core.last) acks
  pub index : IsIndexOf core.heap.rows core.life core.index.entries
  pub quiet : IsQuiet geometry core

-- the rows are those that were opened, with the commits of all seats set over them
pub record HoldsAllSeats (opened : Table) (seats : List SeatValue) (core : CoreValue) : Type 0 where
  pub commits : List CommitValue
  pub of-seats : AreCommitsOf seats commits
  pub rows : core.heap.rows ≡ table_with opened commits

-- why not all that was made was written out: there was no memory; or the device failed, earlier or meanwhile
abbrev pub IsUnwritten : (failed : Bool) → (before now : ℕ) → Error → Type 0
IsUnwritten failed before now e = ((e ≡ NoMemory) × (failed ≡ false) × (now ≡ before))
    ⊎ ((e ≡ DeviceFailed) × (failed ≡ false → Rises before now))

-- the crash state gives the rows with the commits of all seats (no public clause cites this)
pub record GivesAllSeats (opened : Table) (geometry : GeometryValue) (seats : List SeatValue)
    (image : CrashState) : Type 0 where
  pub given : Given
  pub gives : Gives image geometry given
  pub commits : List CommitValue
  pub of-seats : AreCommitsOf seats commits
  pub table : given.table ≡ table_with opened commits

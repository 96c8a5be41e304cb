-- What a crash keeps of what is told as acknowledged.
use Rattle.std.specs.Prelude.{◌≡◌, ◌++◌, ◌∷◌, All, List, ℕ}
use Rattle.record_values.specs.GeometryValue.{GeometryValue}
use Rattle.records.specs.RecordValue.{RecordValue}
use Rattle.model.specs.Given.{Given}
use Rattle.core_model.specs.Histories.{Opened}
use Rattle.core_parts.specs.View.{CoreValue}
use Rattle.core_parts.specs.declared.parts.Ticket.{Ticket}
use Rattle.sector_device.specs.Disk.{CrashState, IsCrashState}
use Rattle.sector_device.specs.DevicePast.{DevicePast}
use Rattle.store_reader.specs.Contents.{Gives}
use Rattle.threads_sessions.specs.Values.{CommitValue}
use Rattle.locked_core.specs.Names.{IsShared}
use Rattle.shared.specs.Seats.{SeatValue}
use Rattle.threads_lifetime.specs.Closing.{table_with, up_to}
use Rattle.threads_lifetime.specs.Gathered.{AreCommitsOf, sessions_of}
use Rattle.program_team.specs.declared.writer.Acknowledged.{Acknowledged}

-- the ticket of the commit that a row is told with
abbrev pub told_ticket : Acknowledged → Ticket
told_ticket made = record { «record» = made.«record»; commit = made.commit }

-- one of these has the ticket
pub record HasTicket {X : Type 0} (ticket_of : X → Ticket) (xs : List X) (ticket : Ticket) : Type 0 where
  pub before : List X
  pub one : X
  pub after : List X
  pub there : xs ≡ before ++ one ∷ after
  pub is : ticket_of one ≡ ticket

-- A store on a device with this content gives the table of what was opened with commits set over it. They are those of
-- some seats, up to the number of a record. A core has them that may lie under the lock with the seats' sessions.
pub record LeavesOpened (o : Opened) (image : CrashState) : Type 0 where
  pub geometry : GeometryValue
  pub given : Given
  pub gives : Gives image geometry given
  pub seats : List SeatValue
  pub core : CoreValue
  pub pushed : List RecordValue
  pub shared : IsShared o core pushed (sessions_of seats)
  pub commits : List CommitValue
  pub gathered : AreCommitsOf seats commits
  pub number : ℕ
  pub table : given.table ≡ table_with o.given.table (up_to number commits)

-- it does, and the commit of each row that is told as acknowledged is among those in the table
pub record KeepsTold (o : Opened) (image : CrashState) (told : List Acknowledged) : Type 0 where
  pub leaves : LeavesOpened o image
  pub each : All (λ made. HasTicket (λ c. c.ticket) (up_to leaves.number leaves.commits) (told_ticket made)) told

-- so it is of whatever a crash leaves of the device
abbrev pub KeepsAll : {D : Type 0} → (D → DevicePast) → Opened → D → List Acknowledged → Type 0
KeepsAll past_of o device told = (image : CrashState) → IsCrashState (past_of device).disk image
    → ∥ KeepsTold o image told ∥₁

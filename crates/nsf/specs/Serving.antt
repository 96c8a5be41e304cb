-- What clients leave of a store.
use Rattle.std.specs.Prelude.{[], Bool, false, List, IfErr, IfOk, OnOk, Result, vec_capacity, ℕ, ◌≡◌, ◌≤◌, ◌⊎◌, ◌∷◌}
use Rattle.std.specs.List.{All}
use Rattle.std.specs.declared.alloc.Global.{Global}
use Rattle.std.specs.declared.vec.Vec.{Vec}
use Rattle.record_values.specs.GeometryValue.{GeometryValue}
use Rattle.records.specs.RecordValue.{RecordValue}
use Rattle.record_values.specs.declared.error.Error.{Error}
use Rattle.record_values.specs.declared.error.Error.TheVariants.{DeviceFailed, NoMemory}
use Rattle.core_model.specs.Events.{Event}
use Rattle.core_model.specs.Histories.{Opened}
use Rattle.core_parts.specs.Builds as builds
use Rattle.core_parts.specs.declared.parts.Ticket.{Ticket}
use Rattle.core_parts.specs.declared.reply.BuildReply.TheVariants as reply
use Rattle.core_parts.specs.View.{CoreValue}
use Rattle.sector_device.specs.Disk.{Disk, CrashState, IsCrashState}
use Rattle.sector_device.specs.DevicePast.{DevicePast, LeavesOnly, Rises}
use Rattle.threads_sessions.specs.Values.{CommitValue}
use Rattle.shared.specs.Seats.{SeatValue}
use Rattle.shared.specs.Served.{WasServed}
use Rattle.threads_flusher.specs.Part.{IsKeptSince, IsNewest, IsSafeSince, Publication}
use Rattle.threads_leader.specs.Building.{EndsBuilder}
use Rattle.threads_lifetime.specs.Closing.{GivesAll, GivesSome, IsCoreOf}
use Rattle.threads_lifetime.specs.Gathered.{AreCommitsOf}
use Rattle.threads_lifetime.specs.Openings.{IsGivenBack, IsNotShared}
use Rattle.threads_lifetime.specs.declared.refusal.OpenError.{OpenError}
use Rattle.threads_lifetime.specs.declared.refusal.OpenError.TheVariants.{NoThread, Refused}

-- Whatever a crash leaves gives what was opened with all commits of these seats set over it, and all else that was
-- made: the core is as they left it.
pub record HoldsAll (o : Opened) (geometry : GeometryValue) (seats : List SeatValue) (popped : List RecordValue)
    (disk : Disk) : Type 0 where
  pub commits : List CommitValue
  pub of_seats : AreCommitsOf seats commits
  pub core : CoreValue
  pub left : IsCoreOf o seats popped core commits
  pub gives : (image : CrashState) → IsCrashState disk image → GivesAll o geometry core commits image

-- The device was written by these seats, in a store as large as the one that was opened. Whatever a crash leaves of it
-- gives what was opened with their commits set over it. It has them up to some record that isn't before the floor; and
-- all of them, where nothing was refused. Horizons were published, each at a moment, the floor last: a crash at any
-- moment since leaves all up to that horizon. (So `some` is `published` of the last of them, now.)
pub record LeavesCommits {D : Type 0} (past_of : D → DevicePast) (o : Opened) (seats : List SeatValue)
    (publications : List Publication) (floor : ℕ) (device : D) (written : Result Unit Error) : Type 0 where
  pub geometry : GeometryValue
  pub pages : geometry.pages ≡ o.pages
  pub places : geometry.entries ≡ o.places
  pub popped : List RecordValue
  pub some : (image : CrashState) → IsCrashState (past_of device).disk image
      → ∥ GivesSome o geometry seats popped floor image ∥₁
  pub newest : IsNewest publications floor
  pub published : All (IsKeptSince (λ horizon image. ∥ GivesSome o geometry seats popped horizon image ∥₁)
      (past_of device)) publications
  pub all : OnOk written ∥ HoldsAll o geometry seats popped (past_of device).disk ∥₁

-- why not all that was made was written out: there was no memory, and no call of the device has failed; or one has
abbrev pub WhyUnwritten : (before now : ℕ) → Error → Type 0
WhyUnwritten before now e = ((e ≡ NoMemory) × (now ≡ before)) ⊎ ((e ≡ DeviceFailed) × Rises before now)

-- and why the rest was not, once clients and loops had ended, by a device that may have failed before (no public clause
-- cites this)
abbrev pub WhyRestUnwritten : (failed : Bool) → (before now : ℕ) → Error → Type 0
WhyRestUnwritten failed before now e = ((e ≡ NoMemory) × (failed ≡ false) × (now ≡ before))
    ⊎ ((e ≡ DeviceFailed) × (failed ≡ false → Rises before now))

-- What is told of the builder: the ticket of an index that a core which may lie under the lock completed; or why the
-- builder ended.
abbrev pub TellsBuild : Opened → Result Ticket Error → Type 0
TellsBuild o told = IfOk told (λ ticket. ∥ WasServed o Event.Build (builds.built (reply.Done ticket)) ∥₁)
    × IfErr told (EndsBuilder o)

-- Why no clients were served, of which there were to be so many. No store was opened for them; or one was, and what it
-- opened with is sound, but there was no thread for what runs beside the clients.
abbrev pub IsNotServed : {D : Type 0} → (D → DevicePast) → (D → ℕ) → D → (count : ℕ) → D → OpenError → Type 0
IsNotServed past_of failures before count after e = IsNotShared past_of failures before count after e
    ⊎ ((e ≡ NoThread) × IsGivenBack past_of failures before after)

-- why a store that was opened for clients served none: there was no memory, or no thread (no public clause cites this)
abbrev pub IsUnserved : OpenError → Type 0
IsUnserved e = (e ≡ Refused NoMemory) ⊎ (e ≡ NoThread)

-- the seat, whatever its view's name is
abbrev pub unnamed : SeatValue → SeatValue
unnamed s = record s { sight = record s.sight { name = [] } }

-- A client has worked with a seat that had an empty session, had read neither a horizon nor a mark, and had not asked
-- all to stop. It left it as this one, but for its view's name. The horizon that the seat has read last isn't above the
-- floor.
pub record HasWorked {C : Type 0} (works : C → C → SeatValue → SeatValue → Type 0) (floor : ℕ) (client after : C)
    (seat : SeatValue) : Type 0 where
  pub first : SeatValue
  pub new : first.session ≡ record { commits = []; turns = []; active = [] }
  pub unused : (first.sight.horizon ≡ 0) × (first.sight.mark ≡ 0) × (first.sight.stops ≡ false)
  pub last : SeatValue
  pub has : unnamed last ≡ unnamed seat
  pub known : seat.sight.horizon ≤ floor
  pub worked : works client after first last

-- so has each client, in its place, with the seat there
abbrev pub HaveWorked : {C : Type 0} → (C → C → SeatValue → SeatValue → Type 0) → (floor : ℕ) → List C → List C
    → List SeatValue → Type 0
HaveWorked works floor [] [] [] = Unit {0}
HaveWorked works floor (client ∷ clients) (after ∷ others) (s ∷ seats) =
    HasWorked works floor client after s × HaveWorked works floor clients others seats
HaveWorked works floor clients others seats = ⊥

-- The clients have worked, each with a seat; and the device was written by these seats, up to some record that isn't
-- before any horizon that one of them has read. Since the store was opened, a crash at any moment leaves what was
-- opened with the seats' commits set over it, up to some record. A mark that a seat has read is of a moment since then
-- at which all up to the horizon that it had seen was published.
pub record LeavesWork {C D : Type 0} (past_of : D → DevicePast) (marks : ℕ → ℕ → Type 0)
    (works : C → C → SeatValue → SeatValue → Type 0) (o : Opened) (clients after : List C) (opened device : D)
    (written : Result Unit Error) : Type 0 where
  pub seats : List SeatValue
  pub publications : List Publication
  pub floor : ℕ
  pub leaves : LeavesCommits past_of o seats publications floor device written
  pub since : LeavesOnly (past_of opened) (past_of device)
      (λ image. ∥ GivesSome o leaves.geometry seats leaves.popped o.given.last image ∥₁)
  pub worked : HaveWorked works floor clients after seats
  pub behind : All (λ (p : Publication). (past_of opened).moment ≤ p.moment) publications
  pub marked : All (λ (s : SeatValue). IsSafeSince marks publications s.sight.safe s.sight.mark) seats

-- It is the same seat still. (No public clause cites this.)
pub record KeepsSeat (old new : SeatValue) : Type 0 where
  pub number : new.number ≡ old.number

-- what was until then stays
pub record IsLaterPast (old new : DevicePast) : Type 0 where
  pub later : old.moment ≤ new.moment
  pub kept : (t : ℕ) → t ≤ old.moment → new.disk_at t ≡ old.disk_at t

-- The device was shown, behind the opening. A crash at any moment since leaves what was opened with the seats' commits
-- set over it. They go up to some record that isn't before the floor. (That clients and loops had ended then, and that
-- the rest was written later, no field says.)
pub record HadEnded {D : Type 0} (past_of : D → DevicePast) (shown : D → Type 0) (o : Opened) (geometry : GeometryValue)
    (seats : List SeatValue) (popped : List RecordValue) (floor : ℕ) (opened device : D) : Type 0 where
  pub was : D
  pub shows : shown was
  pub before : IsLaterPast (past_of opened) (past_of was)
  pub since : LeavesOnly (past_of was) (past_of device) (λ image. ∥ GivesSome o geometry seats popped floor image ∥₁)

-- empty, with room for so many (no public clause cites this)
abbrev pub HasRoom : {T : Type 0} → Vec T Global → ℕ → Type 0
HasRoom v count = (v.items ≡ []) × (count ≤ vec_capacity v)

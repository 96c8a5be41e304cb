-- A day on which clients use a store beside one another, each in a thread of its own.
use Rattle.std.specs.Prelude.{◌≡◌, ◌⊎◌, ◌≤◌, ◌++◌, ℕ, nat_lt, if◌then◌else◌, List, length, take, Option, None, Some}
use Rattle.std.specs.Prelude.{IfErr, IfSome, OnOk, option_and_then, slice_get}
use Rattle.record_values.specs.GeometryValue.{GeometryValue}
use Rattle.record_values.specs.declared.error.Error.{Error}
use Rattle.records.specs.RecordValue.{RecordValue}
use Rattle.model.specs.Given.{Given, given_after}
use Rattle.core_parts.specs.View.{CoreValue}
use Rattle.threads_sessions.specs.Values.{CommitValue}
use Rattle.locked_core.specs.Names.{IsShared}
use Rattle.nsf.specs.Closing.{IsCoreOf, table_with, up_to}
use Rattle.nsf.specs.Gathered.{AreCommitsOf, sessions_of}
use Rattle.nsf.specs.OpenErrors.{OpenError}
use Rattle.nsf.specs.OpenErrors.TheVariants.{NoThread, Refused}
use Rattle.nsf.specs.Seats.{SeatValue}
use Rattle.nsf.specs.Serving.{HaveWorked, TellsBuild, WhyUnwritten}
use Rattle.restart.specs.Store.{over}
use Rattle.headline.specs.declared.day.Day.{Day}
use Rattle.headline.specs.declared.shared_day.End.{End}
use Rattle.headline.specs.declared.shared_day.End.TheVariants.{Behind, Opening, Since}
use Rattle.headline.specs.declared.shared_day.SharedAnswer.{SharedAnswer}
use Rattle.headline.specs.declared.shared_day.SharedDay.{SharedDay}
use Rattle.headline.specs.AtRest.{AtRest, resting}
use Rattle.headline.specs.Days.{Answer, AreDays, IsUnopened}
use Rattle.headline.specs.Held.{IsNotReopened}

-- The last record that is known to be safe of a day that ends so, if one is. Where clients and loops had ended, it is
-- the horizon. Where it stopped since a client had read a mark, it is the horizon that its seat had seen then.
abbrev pub known_safe : End → List SeatValue → (horizon : ℕ) → Option ℕ
known_safe Opening seats horizon = None
known_safe (Since k) seats horizon = option_and_then
    (λ (s : SeatValue). if nat_lt 0 s.sight.mark then Some s.sight.safe else None) (slice_get seats k)
known_safe end seats horizon = Some horizon

-- What a store is found with that clients used: the first of the records that were made over what was given, by seats,
-- builder and cleaner. These tell how far its index is. Where it stopped behind all that was done and all was written,
-- it has all that is in a core which the seats may have left. What was told of the builder, a core that may lie under
-- the lock has answered.
pub record IsFoundBeside {C : Type 0} (geometry : GeometryValue) (old : AtRest) (seats : List SeatValue)
    (end : End) (answer : SharedAnswer C) (new : AtRest) : Type 0 where
  pub given : Given
  pub began : old ≡ resting given old.failed
  pub core : CoreValue
  pub pushed : List RecordValue
  pub shared : IsShared (over geometry given) core pushed (sessions_of seats)
  pub count : ℕ
  pub most : count ≤ length (pushed ++ core.outbox)
  pub kept : new ≡ resting (given_after given (take count (pushed ++ core.outbox))) new.failed
  pub all : end ≡ Behind → OnOk answer.written ((left : CoreValue) × (popped : List RecordValue)
      × (commits : List CommitValue) × ∥ IsCoreOf (over geometry given) seats popped left commits ∥₁
      × (new.life ≡ left.life) × (new.last ≡ left.last))
  pub told : TellsBuild (over geometry given) answer.built

-- Clients used a store at rest until it stopped, and these are their seats.
--
-- Records were kept up to a last one. The rows are those that there were. Over them are set the commits of all seats up
-- to that record, in the order of their numbers.
--
-- It keeps what is known to be safe of a day that ends so. Where it stopped behind all that was done and all was
-- written, each commit of the seats was kept.
pub record IsServedBeside {C : Type 0} (geometry : GeometryValue) (old : AtRest) (seats : List SeatValue)
    (horizon : ℕ) (end : End) (answer : SharedAnswer C) (new : AtRest) : Type 0 where
  pub commits : List CommitValue
  pub of-seats : AreCommitsOf seats commits
  pub rows : new.rows ≡ table_with old.rows (up_to new.last commits)
  pub safe : IfSome (known_safe end seats horizon) (λ number. number ≤ new.last)
  pub whole : end ≡ Behind → OnOk answer.written (up_to new.last commits ≡ commits)
  pub found : IsFoundBeside geometry old seats end answer new

-- The days have made a store of what it began with. Each client has worked with a new seat of its own, which
-- has read no horizon above this one. What the seats did has made this store of that.
--
-- Or nothing is known to be safe of a day that ends so. It stopped within its opening, and rests as it did: what the
-- clients did came later, and never came to the device. (The stop may have undone what the opening had read unsynced.
-- So the store that was opened may be another that the days could leave.)
--
-- The device's count of failures hasn't fallen. Where all was written, no call of the device failed. Where not all was
-- written, there was no memory, and no call of the device failed; or one did.
pub record HasLivedBeside {D M C : Type 0} (works : C → C → SeatValue → SeatValue → Type 0) (failures : D → ℕ)
    (geometry : GeometryValue) (began : AtRest) (days : List (Day M)) (answers : List (Answer M)) (day : SharedDay C)
    (answer : SharedAnswer C) (new : AtRest) : Type 0 where
  pub before : AtRest
  pub days-are : AreDays failures geometry began days answers before
  pub seats : List SeatValue
  pub horizon : ℕ
  pub worked : HaveWorked works horizon day.clients.items answer.clients.items seats
  pub served : IsServedBeside geometry before seats horizon day.end answer new
      ⊎ ((known_safe day.end seats horizon ≡ None) × (new ≡ record before { failed = new.failed }))
  pub later : before.failed ≤ new.failed
  pub why : IfErr answer.written (WhyUnwritten before.failed new.failed)
  pub quiet : OnOk answer.written (new.failed ≡ before.failed)

-- Why there is no store behind its days and a day of clients. Before the days or behind them the store wasn't opened;
-- or that of the clients wasn't opened behind them. There was no memory, or a call of the device failed. Or the store
-- was opened behind the days, and there was no thread for what runs beside the clients. (No field pins the count as the
-- store stopped. So where it rose, an answer that tells the failure of the wrong one of the two, the work or the
-- opening behind it, fits this too.)
abbrev pub IsNotLivedBeside : {D M C : Type 0} → (C → C → SeatValue → SeatValue → Type 0) → (D → ℕ) → GeometryValue
    → AtRest → List (Day M) → List (Answer M) → SharedDay C → Option (SharedAnswer C) → OpenError → (now : ℕ) → Type 0
IsNotLivedBeside works failures geometry began days answers day None e now =
    ((why : Error) × (e ≡ Refused why) × IsNotReopened failures geometry began days answers why now)
    ⊎ ((e ≡ NoThread) × ((store : AtRest) × AreDays failures geometry began days answers store × (now ≡ store.failed)))
IsNotLivedBeside works failures geometry began days answers day (Some answer) e now = (why : Error) × (e ≡ Refused why)
    × ∥ ((store : AtRest) × HasLivedBeside works failures geometry began days answers day answer store
    × (store.failed ≤ now) × IsUnopened why store.failed now) ∥₁

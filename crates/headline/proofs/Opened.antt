-- What is opened behind a crash of what threads left.
use Rattle.std.proofs.Common.{◌≡◌, ⊎_elim, inl, inr, ℕ, ◌≤◌, ◌+◌, ◌++◌, All, List, Option, Vec, length, take, sym, ap, subst, ◌∙◌, arith, length-take}
use Rattle.std.proofs.Math.Logic.{∥∥₁_elim, ∥∥₁_map}
use Rattle.std.proofs.lemmas.List.Elements.{All-weaker}
use Rattle.record_values.specs.GeometryValue.{GeometryValue}
use Rattle.records.specs.RecordValue.{RecordValue}
use Rattle.record_values.specs.declared.error.Error.{Error}
use Rattle.model.specs.Given.{Given, given_after}
use Rattle.core_copies.specs.Loaded.{holding}
use Rattle.core_model.specs.Histories.{CanOpen, Opened}
use Rattle.core_model.proofs.ReplyLaws.{served_recovers}
use Rattle.core_parts.specs.View.{CoreValue}
use Rattle.sector_device.specs.Disk.{CrashState, IsCrashState}
use Rattle.sector_device.specs.DevicePast.{DevicePast}
use Rattle.sector_device.proofs.Counts.{rises_later}
use Rattle.sector_device.proofs.Sectors.{content_is_image}
use Rattle.gate_log.specs.Area.{Refuses}
use Rattle.store_reader.specs.Contents.{Gives, IsUnreadable}
use Rattle.nsf.specs.Seats.{AckValue, SeatValue}
use Rattle.model.specs.Table.{Table}
use Rattle.threads_sessions.specs.Values.{CommitValue}
use Rattle.nsf.specs.Closing.{GivesSome, IsClosed, table_with, up_to}
use Rattle.restart.specs.declared.parts.EngineParts.{EngineParts}
use Rattle.restart.specs.Parts.{core_of}
use Rattle.restart.specs.Reopening.{IsNotOpened, IsOpened}
use Rattle.headline.specs.Fitting.{IsIndexOf}
use Rattle.headline.specs.Stops.{IsFoundAs}
use Rattle.headline.specs.Seats.{GivesAllSeats, HoldsAllSeats, HoldsSeats}
use Rattle.headline.proofs.Quiet.{index_over}

module _ {D : Type 0} (past_of : D → DevicePast) (o : Opened) (g : GeometryValue) (seats : List SeatValue) (popped : List RecordValue) (floor : ℕ)
    (old found : D)
    (found-as : IsFoundAs (past_of old).disk (past_of found))
    (some : (image : CrashState) → IsCrashState (past_of old).disk image → ∥ GivesSome o g seats popped floor image ∥₁) where
  -- what the device gives now
  now : ∥ GivesSome o g seats popped floor (past_of found).disk.content ∥₁
  now = some (past_of found).disk.content (found-as.left (past_of found).disk.content (content_is_image (past_of found).disk (past_of found).whole))

  module _ (size : (image : CrashState) (g h : GeometryValue) (x y : Given) → Gives image g x → Gives image h y → g ≡ h)
      (one : (image : CrashState) (g h : GeometryValue) (x y : Given) → Gives image g x → Gives image h y → x ≡ y)
      (acks : List AckValue) (low : All (λ (a : AckValue). a.ticket.«record» ≤ floor) acks) {A : Type 0} (engine : EngineParts D A)
      (is : IsOpened past_of found engine) (left : GivesSome o g seats popped floor (past_of found).disk.content) where
    abbrev core : CoreValue
    core = core_of engine

    abbrev records : List RecordValue
    records = left.pushed ++ left.core.outbox

    abbrev given : Given
    given = given_after o.given (take left.count records)

    same : is.given ≡ given
    same = one (past_of found).disk.content is.geometry g is.given given is.gives left.gives

    same_size : is.geometry ≡ g
    same_size = size (past_of found).disk.content is.geometry g is.given given is.gives left.gives

    can : CanOpen (record o { given = given })
    can =
        let so = left.shared.register.kept.replied in
        (served_recovers o left.shared.opens records left.shared.register.kept.calls so.state so.standing so.served left.count left.most).1

    last : core.last ≡ o.given.last + left.count
    last =
        let of_given : core.last ≡ o.given.last + length (take left.count records) =
        ap (λ (v : CoreValue). v.last) is.core ∙ ap (λ (x : Given). x.last) same in
        omega (arith, of_given, length-take left.count records, left.most)

    rows : core.heap.rows ≡ table_with o.given.table (up_to core.last left.commits)
    rows =
        ap (λ (v : CoreValue). v.heap.rows) is.core ∙ ap (λ (x : Given). x.table) same ∙ left.table
        ∙ ap (λ (n : ℕ). table_with o.given.table (up_to n left.commits)) (sym last)

    index : IsIndexOf core.heap.rows core.life core.index.entries
    index = subst (λ (v : CoreValue). IsIndexOf v.heap.rows v.life v.index.entries) (sym is.core)
        (subst (λ (x : Given). IsIndexOf x.table x.life x.entries) (sym same) (index_over (record o { given = given }) can))

    held_so : HoldsSeats o g seats floor acks core
    held_so = record {
      made = left.core;
      pushed = left.pushed;
      shared = left.shared;
      count = left.count;
      most = left.most;
      opened-over = is.core ∙ ap (λ (x : GeometryValue). holding x is.given) same_size ∙ ap (λ (x : Given). holding g x) same;
      commits = left.commits;
      of-seats = left.all;
      rows = rows;
      kept = omega (arith, left.least, last);
      safe = All-weaker (λ (a : AckValue). a.ticket.«record» ≤ floor) (λ (a : AckValue). a.ticket.«record» ≤ core.last) (λ a below.
          omega (arith, below, left.least, last)) acks low;
      index = index;
      quiet = record {
        active = ap (λ (v : CoreValue). v.txns.active) is.core;
        pages = ap (λ (v : CoreValue). v.heap.pages) is.core ∙ ap (λ (x : GeometryValue). x.pages) same_size;
        places = ap (λ (v : CoreValue). v.index.capacity) is.core ∙ ap (λ (x : GeometryValue). x.entries) same_size;
      };
    }

  pub held : (size : (image : CrashState) (g h : GeometryValue) (x y : Given) → Gives image g x → Gives image h y → g ≡ h)
      → (one : (image : CrashState) (g h : GeometryValue) (x y : Given) → Gives image g x → Gives image h y → x ≡ y)
      → (acks : List AckValue) → All (λ (a : AckValue). a.ticket.«record» ≤ floor) acks → {A : Type 0} (engine : EngineParts D A)
      → IsOpened past_of found engine → ∥ HoldsSeats o g seats floor acks (core_of engine) ∥₁
  held size one acks low engine is = ∥∥₁_map now (held_so size one acks low engine is)

  pub refused_so : (readable : (image : CrashState) (g : GeometryValue) (given : Given) (e : Error) → Gives image g given
      → ¬ IsUnreadable image e) (failures : D → ℕ) (before : ℕ) → before ≤ failures found → (after : D) (e : Error)
      → IsNotOpened past_of failures found after e → Refuses before (failures after) e
  refused_so readable failures before low after e not = ⊎_elim
      (λ refuses. ⊎_elim
      (λ memory. inl memory)
      (λ failed. inr (failed.0, rises_later before (failures found) (failures after) low not.later failed.1))
      refuses)
      (λ unreadable. absurd (∥∥₁_elim now (λ (a b : ⊥). absurd a) (λ (left : GivesSome o g seats popped floor (past_of found).disk.content).
      readable (past_of found).disk.content g _ e left.gives unreadable)))
      not.why

-- ---- all was written

pub all_given : {D A : Type 0} (past_of : D → DevicePast) (o : Opened) (g : GeometryValue) (seats : List SeatValue) (popped : List RecordValue)
    (core : CoreValue) (device : D) (kept : Option (Vec CommitValue A)) → ∥ IsClosed past_of o g seats popped core device kept ∥₁
    → (image : CrashState) → IsCrashState (past_of device).disk image → ∥ GivesAllSeats o.given.table g seats image ∥₁
all_given past_of o g seats popped core device kept closed image crash = ∥∥₁_map closed (λ (h : IsClosed past_of o g seats popped core device kept).
    let left = h.gives image crash in record { given = left.given; gives = left.gives; commits = h.commits; of-seats = h.of_seats; table = left.table })

module _ {D : Type 0} (past_of : D → DevicePast) (opened : Table) (g : GeometryValue) (seats : List SeatValue) (old found : D)
    (found-as : IsFoundAs (past_of old).disk (past_of found))
    (all : (image : CrashState) → IsCrashState (past_of old).disk image → ∥ GivesAllSeats opened g seats image ∥₁) where
  pub held_all : (one : (image : CrashState) (g h : GeometryValue) (x y : Given) → Gives image g x → Gives image h y → x ≡ y) → {A : Type 0}
      (engine : EngineParts D A) → IsOpened past_of found engine → ∥ HoldsAllSeats opened seats (core_of engine) ∥₁
  held_all one engine is =
      ∥∥₁_map (all (past_of found).disk.content (found-as.left (past_of found).disk.content (content_is_image (past_of found).disk (past_of found).whole)))
      (λ (left : GivesAllSeats opened g seats (past_of found).disk.content).
      let same : is.given ≡ left.given = one (past_of found).disk.content is.geometry g is.given left.given is.gives left.gives in
      record {
        commits = left.commits;
        of-seats = left.of-seats;
        rows = ap (λ (v : CoreValue). v.heap.rows) is.core ∙ ap (λ (x : Given). x.table) same ∙ left.table;
      })

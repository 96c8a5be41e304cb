-- What contracts see of the flusher's part, and what it keeps.
use Rattle.std.specs.Prelude.{◌≡◌, ◌≢◌, ◌⊎◌, ℕ, ◌+◌, ◌-◌, ◌≤◌, List, [], ◌∷◌, ◌++◌, length, take}
use Rattle.std.specs.List.{All, Contains}
use Rattle.record_values.specs.GeometryValue.{GeometryValue}
use Rattle.records.specs.RecordValue.{RecordValue}
use Rattle.model.specs.Cells.{cells_after}
use Rattle.model.specs.Given.{given_after, opening_cells}
use Rattle.core_model.specs.Histories.{CanOpen, Opened}
use Rattle.sector_device.specs.Disk.{CrashState}
use Rattle.sector_device.specs.DevicePast.{Between, DevicePast}
use Rattle.board.specs.Views.{FlusherCount}
use Rattle.board.specs.declared.knowledge.Note.{Note}
use Rattle.store_image_model.specs.Run.{Run}
use Rattle.locked_core.specs.Following.{FitPlaces}
use Rattle.threads_queue.specs.Ends.{Handed}
use Rattle.store_reader.specs.Contents.{Gives}
use Rattle.store_writer.specs.declared.writer.Writer.{Writer}
use Rattle.store_writer.specs.Contents.{StoreHas}
use Rattle.store_writer.specs.Parts.{device_of, halves_of, log_of, waiting_of, synced_of, has_failed, image_of}
use Rattle.store_writer.specs.Writer.{IsWriter}

-- What a flusher's part is made of: the end of the queue that pops, with what was popped, and what was published.
pub record EndsValue : Type 0 where
  pub popper : Handed
  pub published : FlusherCount

-- A horizon that was published, and the moment of the device's past at which it was.
pub record Publication : Type 0 where
  pub horizon : ℕ
  pub moment : ℕ

-- The records that the writer has got, in order, and those that were popped behind them; the writer; what is published;
-- and each time that a horizon was published, the oldest first.
pub record FlushValue (D A : Type 0) : Type 0 where
  pub handed : List RecordValue
  pub held : List RecordValue
  pub writer : Writer D A
  pub published : FlusherCount
  pub publications : List Publication

-- of the records that were popped, these are held, and the writer has got those before them
abbrev pub flush_value : {D A : Type 0} → (popped held : List RecordValue) → Writer D A → FlusherCount
    → List Publication → FlushValue D A
flush_value popped held writer published publications = record {
  handed = take (length popped - length held) popped;
  held = held;
  writer = writer;
  published = published;
  publications = publications;
}

-- all records that were popped, in order, each once
abbrev pub popped_by : {D A : Type 0} → FlushValue D A → List RecordValue
popped_by f = f.handed ++ f.held

-- the store as it was opened, with the records that the writer has got since
abbrev pub run_of : {D A : Type 0} → Opened → FlushValue D A → Run
run_of o f = record {
  geometry = (halves_of f.writer).geometry;
  last = o.given.last;
  cells = opening_cells o.given;
  records = f.handed;
}

-- the number of the last of them
abbrev pub last_handed : {D A : Type 0} → Opened → FlushValue D A → ℕ
last_handed o f = o.given.last + length f.handed

-- A core may begin with what is given after each prefix of the records, where it may with what was opened.
abbrev pub MayOpenAgain : Opened → List RecordValue → Type 0
MayOpenAgain o records = CanOpen o → (n : ℕ) → n ≤ length records
    → CanOpen (record o { given = given_after o.given (take n records) })

-- The crash state has the cells as some of these records, the first ones, left those that were opened, with every
-- record up to the floor; a reader finds what these records make of what was opened; and a core may begin with that,
-- where it may with what was opened.
pub record GivesBeginning (o : Opened) (g : GeometryValue) (handed : List RecordValue) (floor : ℕ)
    (image : CrashState) : Type 0 where
  pub count : ℕ
  pub most : count ≤ length handed
  pub least : floor ≤ o.given.last + count
  pub has : StoreHas g image (o.given.last + count) (cells_after (opening_cells o.given) (take count handed))
  pub gives : Gives image g (given_after o.given (take count handed))
  pub opens : CanOpen o → CanOpen (record o { given = given_after o.given (take count handed) })

-- So does each crash state of the flusher's device: with all that its writer has synced.
abbrev pub FlushLeaves : {D A : Type 0} → Opened → FlushValue D A → CrashState → Type 0
FlushLeaves o f = GivesBeginning o (halves_of f.writer).geometry f.handed (synced_of f.writer)

-- A crash at any moment since a horizon was published, until the device has this past, leaves a state that has P of the
-- horizon.
pub record IsKeptSince (P : ℕ → CrashState → Type 0) (now : DevicePast) (p : Publication) : Type 0 where
  pub later : p.moment ≤ now.moment
  pub each : Between now.disk_at p.moment now.moment (P p.horizon)

-- A horizon that was published is not above what is synced now. A crash at any moment since leaves what some of the
-- records that were handed in make of what was opened, the first ones, with all up to the horizon.
abbrev pub IsKept : {D A : Type 0} → (D → DevicePast) → Opened → FlushValue D A → Publication → Type 0
IsKept past_of o f p = (p.horizon ≤ synced_of f.writer)
    × IsKeptSince (GivesBeginning o (halves_of f.writer).geometry f.handed) (past_of (device_of f.writer)) p

-- the last of these publications is of this horizon
abbrev pub IsNewest : List Publication → ℕ → Type 0
IsNewest publications horizon = (earlier : List Publication) × (last : Publication)
    × (publications ≡ earlier ++ last ∷ []) × (last.horizon ≡ horizon)

-- The number marks this moment of the device, where marks says which it marks; or it is 0, as where there is no clock.
abbrev pub IsMarkOf : (marks : ℕ → ℕ → Type 0) → (mark moment : ℕ) → Type 0
IsMarkOf marks mark moment = mark ≢ 0 → marks mark moment

-- the horizon and the mark that were noted are of one of these publications
abbrev pub IsNotedOf : (marks : ℕ → ℕ → Type 0) → List Publication → Note → Type 0
IsNotedOf marks publications n = (p : Publication) × Contains publications p × (n.horizon ≡ p.horizon)
    × IsMarkOf marks n.mark p.moment

-- One of these publications reaches the horizon, and the mark is of its moment; or both are 0. So what that one keeps,
-- this horizon among it, is kept by a crash at any moment since the one that the mark marks.
abbrev pub IsSafeSince : (marks : ℕ → ℕ → Type 0) → List Publication → (safe mark : ℕ) → Type 0
IsSafeSince marks publications safe mark = ((safe ≡ 0) × (mark ≡ 0))
    ⊎ ((p : Publication) × Contains publications p × (safe ≤ p.horizon) × IsMarkOf marks mark p.moment)

-- The writer stands for the records that it got over what was opened, and its store has the pages of that, and places
-- for the entries after each of the records, with which a core may begin. What was published is not above what the
-- writer has synced, and tells whether its device failed. And what was published at any time is kept since, at every
-- moment; and whatever was noted is of such a publication.
pub record IsFlusher {D A : Type 0} (past_of : D → DevicePast) (marks : ℕ → ℕ
    → Type 0) (o : Opened) (f : FlushValue D A) : Type 0 where
  pub pages : (halves_of f.writer).geometry.pages ≡ o.pages
  pub places : (halves_of f.writer).geometry.entries ≡ o.places
  pub fits : FitPlaces o f.handed
  pub opens : MayOpenAgain o f.handed
  pub writer : IsWriter past_of (run_of o f) (last_handed o f) f.writer
  pub horizon : f.published.horizon ≤ synced_of f.writer
  pub failed : f.published.failed ≡ has_failed f.writer
  pub kept : All (IsKept past_of o f) f.publications
  pub newest : IsNewest f.publications f.published.horizon
  pub noted : All (IsNotedOf marks f.publications) f.published.notes

-- how far this writer has synced, as it is published now
abbrev pub publication_of : {D A : Type 0} → (D → DevicePast) → Writer D A → Publication
publication_of past_of w = record { horizon = synced_of w; moment = (past_of (device_of w)).moment }

-- what is noted of a writer as it is published, with a mark
abbrev pub note_of : {D A : Type 0} → Writer D A → (mark : ℕ) → Note
note_of writer mark = record { horizon = synced_of writer; mark = mark }

-- what is published of a writer with a mark, behind what was published before
abbrev pub count_of : {D A : Type 0} → FlusherCount → Writer D A → (mark : ℕ) → FlusherCount
count_of before writer mark = record before {
  horizon = synced_of writer;
  failed = has_failed writer;
  notes = note_of writer mark ∷ before.notes;
}

-- The writer has got these records more, which wait; and nothing else of it changed.
pub record HasGot {D A : Type 0} (more : List RecordValue) (old new : Writer D A) : Type 0 where
  pub device : device_of new ≡ device_of old
  pub halves : halves_of new ≡ halves_of old
  pub log : log_of new ≡ log_of old
  pub waiting : waiting_of new ≡ waiting_of old ++ more
  pub synced : synced_of new ≡ synced_of old
  pub failed : has_failed new ≡ has_failed old
  pub image : image_of new ≡ image_of old

-- No record was popped or handed in, and what is published is now what the writer has synced, and whether its device
-- failed. This was published once, with a mark of the moment that it is, or with 0.
pub record Publishes {D A : Type 0} (past_of : D → DevicePast) (marks : ℕ → ℕ
    → Type 0) (old new : FlushValue D A) : Type 0 where
  pub handed : new.handed ≡ old.handed
  pub held : new.held ≡ old.held
  pub mark : ℕ
  pub marked : IsMarkOf marks mark (past_of (device_of new.writer)).moment
  pub published : new.published ≡ count_of old.published new.writer mark
  pub noted : new.publications ≡ old.publications ++ publication_of past_of new.writer ∷ []

-- it has looked whether all are asked to stop, and nothing else of it changed
abbrev pub LooksForStop : {D A : Type 0} → FlushValue D A → FlushValue D A → Type 0
LooksForStop old new = new ≡ record old { published = record old.published { stopped = new.published.stopped } }

-- How views are cut and joined, and what each step on a word tells.
use Rattle.std.specs.Prelude.{◌≡◌, ℕ, ◌≤◌, max, true, false, ◌==◌, List, [], ◌∷◌}
use Rattle.atomic_table.specs.Table.{Me, Step}
use Rattle.board.specs.declared.knowledge.Knowledge.{Knowledge}
use Rattle.board.specs.declared.knowledge.Note.{Note}
use Rattle.board.specs.Views.{IsNoted, stays_as, leaves_as}

-- the builder's view is cut off the first one
abbrev pub without_builder : Knowledge → Knowledge
without_builder v = record v { builds = false }

-- the builder's view: it raises the progress, and neither publishes nor stops
abbrev pub builder_of : Knowledge → Knowledge
builder_of v = record v { flushes = false; may_stop = false; stops = false }

-- a thread's view is cut off the first one
abbrev pub without_reader : Knowledge → Knowledge
without_reader v = record v { may_stop = false }

-- the view of a thread that only reads, and may set the stop flag
abbrev pub reader_of : Knowledge → Knowledge
reader_of v = record v { flushes = false; builds = false }

-- a view becomes two, which have seen as much
abbrev pub staying : Knowledge → Knowledge
staying v = record v { name = stays_as v.name }

-- the view that leaves where one becomes two
abbrev pub leaving : Knowledge → Knowledge
leaving v = record v { flushes = false; builds = false; name = leaves_as v.name; stops = false }

-- what a view has seen, with no right to do anything
abbrev pub seen_by : Knowledge → Knowledge
seen_by v = record v { flushes = false; builds = false; may_stop = false; stops = false }

-- the same, with what the flusher has published as seen
abbrev pub flushed_by : Knowledge → Knowledge
flushed_by v = record (seen_by v) { horizon = v.published; failed = v.device_failed }

-- the same, with what the builder has published as seen
abbrev pub built_by : Knowledge → Knowledge
built_by v = record (seen_by v) { progress = v.attempts }

-- the first view has now seen what the second had, but of the stop flag
abbrev pub informed : Knowledge → Knowledge → Knowledge
informed v told = record v {
  horizon = told.horizon;
  progress = told.progress;
  mark = told.mark;
  safe = told.safe;
  failed = told.failed;
}

-- these notes, but the newest of them with this horizon
abbrev pub with_horizon : List Note → ℕ → List Note
with_horizon [] horizon = record { horizon = horizon; mark = 0 } ∷ []
with_horizon (n ∷ notes) horizon = record n { horizon = horizon } ∷ notes

-- What a step tells of the step, the view before, the number found or stored, and the view after. No
-- view holds a slot of the table, so the second half of each pair stays as it was.
abbrev Seated : Type 0
Seated = Me (Unit {0}) Knowledge

-- what a step tells the thread that makes it: of the step, what it knew, what it read, and what it knows then
abbrev Tells : Type 1
Tells = Step (Unit {0}) → Seated → ℕ → Seated → Type 0

-- its count is noted with the number given as its mark
abbrev pub NotesMark : Tells
NotesMark st m n m' =
    m' ≡ (record m.0 { notes = record { horizon = m.0.published; mark = st.first } ∷ m.0.notes }, m.1)

-- its count is raised to the number given, and never lowered, and its newest note goes with it
abbrev pub RaisesHorizon : Tells
RaisesHorizon st m n m' = m' ≡ (
  record m.0 {
    published = max m.0.published st.first;
    notes = with_horizon m.0.notes (max m.0.published st.first);
  },
  m.1,
)

-- so is the builder's count
abbrev pub RaisesProgress : Tells
RaisesProgress st m n m' = m' ≡ (record m.0 { attempts = max m.0.attempts st.first }, m.1)

-- its count says that the device failed
abbrev pub SetsFailed : Tells
SetsFailed st m n m' = m' ≡ (record m.0 { device_failed = true }, m.1)

-- the stop flag is set, by this view
abbrev pub SetsStop : Tells
SetsStop st m n m' = m' ≡ (record m.0 { stopped = true; stops = true }, m.1)

-- it reads a horizon no less than the one it saw, and has not looked at the failed flag since
abbrev pub ReadsHorizon : Tells
ReadsHorizon st m n m' = (m.0.horizon ≤ n) × (m' ≡ (record m.0 { horizon = n; checked = false }, m.1))

-- it reads a mark, and has seen this horizon then
abbrev pub ReadsMark : Tells
ReadsMark st m n m' = m' ≡ (record m.0 { mark = n; safe = m.0.horizon }, m.1)

-- it reads a progress no less than the one it saw
abbrev pub ReadsProgress : Tells
ReadsProgress st m n m' = (m.0.progress ≤ n) × (m' ≡ (record m.0 { progress = n }, m.1))

-- it reads the failed flag, which stays set where it was seen set, and has looked at it since the horizon
abbrev pub ReadsFailed : Tells
ReadsFailed st m n m' = (m.0.failed ≡ true → (n == 1) ≡ true)
    × (m' ≡ (record m.0 { failed = n == 1; checked = true }, m.1))

-- where the view was never made two, nobody else can have set the flag
abbrev pub ReadsStop : Tells
ReadsStop st m n m' =
    (m.0.stopped ≡ true → (n == 1) ≡ true)
    × (m.0.name ≡ [] → (n == 1) ≡ true → m.0.stops ≡ true)
    × (m' ≡ (record m.0 { stopped = n == 1 }, m.1))

-- the flusher or the builder reads the stop flag, which stays set where it was seen set
abbrev pub HearsStop : Tells
HearsStop st m n m' = (m.0.stopped ≡ true → (n == 1) ≡ true) × (m' ≡ (record m.0 { stopped = n == 1 }, m.1))

-- Nothing that the view knows to be seen is beyond what its holder has published. What it knows to be
-- seen with a mark is reached by a horizon that was noted with that mark.
abbrev pub Compares : Tells
Compares st m n m' =
    (m' ≡ m)
    × (m.0.flushes ≡ true → (m.0.horizon ≤ m.0.published) × (m.0.failed ≡ true → m.0.device_failed ≡ true)
    × IsNoted m.0.notes m.0.safe m.0.mark)
    × (m.0.builds ≡ true → m.0.progress ≤ m.0.attempts)

-- What a change does to an index.
use Rattle.std.specs.FinMap.{get}
use Rattle.std.specs.Prelude.{◌≡◌, ◌⊎◌, ◌++◌, ◌+◌, ℕ, List, [], ◌∷◌, true, false, Option, Some, None}
use Rattle.record_values.specs.Maps.{set_at}
use Rattle.record_values.specs.declared.pair.Mark.TheVariants.{Live, Marked}
use Rattle.record_values.specs.declared.pair.Pair.{Pair}
use Rattle.online_model.specs.World as step
use Rattle.online_model.specs.World.{Step, World}
use Rattle.online_model.specs.declared.note.Note.{Note}
use Rattle.online_model.specs.declared.note.Note.TheVariants.{EntryIs}
use Rattle.online_index.specs.Standing.{IsMissing, StandsFor, after_all, marked_if, marks_of}
use Rattle.online_index.specs.Value.{IndexValue, IsFull}
use Rattle.nsf_index_c.specs.Pairs.{Asks, IsNoChange, IsNoPair, IsPair}
use Rattle.nsf_index_c.specs.Seen.{Seen}
use Rattle.nsf_index_c.specs.declared.change.Change.{Change}
use Rattle.nsf_index_c.specs.declared.change.Change.TheVariants as asked
use Rattle.nsf_index_c.specs.declared.pair.ChangeOfC.{ChangeOfC}
use Rattle.nsf_index_c.specs.declared.pair.PairOfC.{PairOfC}

-- the index after it
abbrev pub after_change : IndexValue → Change → IndexValue
after_change i (asked.Prepare old new) = record i { entries = marked_if (marked_if i.entries old) new }
after_change i (asked.Put p) = record i { entries = set_at i.entries p (Some Live) }
after_change i (asked.Mark p) = record i { entries = set_at i.entries p (Some Marked) }

-- the steps of the machine that it makes
abbrev pub steps_of : Change → List Step
steps_of (asked.Prepare old new) = marks_of old new
steps_of (asked.Put p) = step.Put p ∷ []
steps_of (asked.Mark p) = step.Mark p ∷ []

-- the note that a pair is marked, if there is one
abbrev pub marked_note : Option Pair → List Note
marked_note None = []
marked_note (Some p) = EntryIs p (Some Marked) ∷ []

-- the notes that it leaves
abbrev pub notes_of : Change → List Note
notes_of (asked.Prepare old new) = marked_note old ++ marked_note new
notes_of (asked.Put p) = EntryIs p (Some Live) ∷ []
notes_of (asked.Mark p) = EntryIs p (Some Marked) ∷ []

-- It was made: the index is that after it, and stands for the world after its steps, whichever it stood for before; and
-- its notes wait.
pub record IsDone (change : Change) (v w : Seen) : Type 0 where
  pub is : w ≡ record v { index = after_change v.index change; waiting = v.waiting ++ notes_of change }
  pub stands : (world : World) → StandsFor v.index world → StandsFor w.index (after_all world (steps_of change))

-- a pair of it has no entry, and there are as many entries as there may be
abbrev pub IsTooMuch : IndexValue → Change → Type 0
IsTooMuch i (asked.Prepare old new) = (IsMissing i.entries old ⊎ IsMissing i.entries new)
    × (IsFull i ⊎ IsFull (record i { entries = marked_if i.entries old }))
IsTooMuch i (asked.Put p) = (get i.entries p ≡ None) × IsFull i
IsTooMuch i (asked.Mark p) = (get i.entries p ≡ None) × IsFull i

-- why it was not made: the index is to be reopened first; or memory was refused, or the index is full
abbrev pub IsWhyNot : Seen → Change → ℕ → Type 0
IsWhyNot v change n = ((n ≡ 30) × (v.is_redone ≡ true))
    ⊎ ((v.is_redone ≡ false) × ((n ≡ 1) ⊎ ((n ≡ 13) × IsTooMuch v.index change)))

-- it was made, or it was not, for that reason, and nothing changed
abbrev pub Makes : Change → ℕ → Seen → Seen → Type 0
Makes change status v w = ((status ≡ 0) × (v.is_redone ≡ false) × IsDone change v w)
    ⊎ (IsWhyNot v change status × (w ≡ v))

-- what C asks for is a change, and it was made or not; or it is none
abbrev pub MakesAsked : (Change → Type 0) → (ℕ → Type 0) → ℕ → Seen → Seen → Type 0
MakesAsked Is IsNone status v w = ((change : Change) × Is change × Makes change status v w) ⊎ (IsNone status × (w ≡ v))

-- a change that is prepared
abbrev pub AsksPrepared : ChangeOfC → Change → Type 0
AsksPrepared c (asked.Prepare old new) = Asks c (asked.Prepare old new)
AsksPrepared c (asked.Put p) = ⊥
AsksPrepared c (asked.Mark p) = ⊥

-- why there is no such change: it is none, or it is another one
abbrev pub IsNotPrepared : ChangeOfC → ℕ → Type 0
IsNotPrepared c n = IsNoChange c n ⊎ ((n ≡ 33) × ((c.kind ≡ 4) ⊎ (c.kind ≡ 5)))

-- a pair of C is put, or marked
abbrev pub IsPutOf : PairOfC → Change → Type 0
IsPutOf c change = (p : Pair) × IsPair c p × (change ≡ asked.Put p)

abbrev pub IsMarkOf : PairOfC → Change → Type 0
IsMarkOf c change = (p : Pair) × IsPair c p × (change ≡ asked.Mark p)

-- it is none
abbrev pub IsPairless : PairOfC → ℕ → Type 0
IsPairless c n = (n ≡ 24) × IsNoPair c

-- The rule of the board: what its five words say of what each view knows, at every moment.
-- A view has its place in the list of all views that were ever made.
use Rattle.std.specs.Prelude.{◌≡◌, ◌≢◌, ℕ, ◌≤◌, Bool, true, false, List, [], ◌∷◌}
use mathlib.Core.Option.{some}
use lib.ListN.{get_elem?}
use Rattle.atomic_table.specs.Table.{State}
use Rattle.board.specs.declared.knowledge.Knowledge.{Knowledge}
use Rattle.board.specs.declared.knowledge.Note.{Note}
use Rattle.board.specs.Views.{IsNoted, part_ways}

-- what the words say, by what the flusher has noted, the newest first
pub record Posted : Type 0 where
  pub notes : List Note
  pub progress : ℕ
  pub failed : Bool
  pub stopped : Bool

-- a flag as a word
abbrev pub flag : Bool → ℕ
flag true = 1
flag false = 0

-- the horizon of the newest note, or 0
abbrev pub horizon_of : List Note → ℕ
horizon_of [] = 0
horizon_of (n ∷ notes) = n.horizon

-- its mark, or 0
abbrev pub mark_of : List Note → ℕ
mark_of [] = 0
mark_of (n ∷ notes) = n.mark

-- the five words, in the order in which they lie
abbrev pub words_of : Posted → List ℕ
words_of b = horizon_of b.notes ∷ b.progress ∷ flag b.failed ∷ flag b.stopped ∷ mark_of b.notes ∷ []

-- What is posted is not below what the view has seen. What it had seen as it read its mark was noted
-- with that mark. If the view is the flusher's, the notes are its own, the horizon is its own count,
-- and the failed flag says just what it said. If it is the builder's, the progress is its own count.
-- Only a view that may set the stop flag has set it.
pub record Fits (b : Posted) (flusher builder place : ℕ) (v : Knowledge) : Type 0 where
  pub horizon : v.horizon ≤ horizon_of b.notes
  pub progress : v.progress ≤ b.progress
  pub failed : v.failed ≡ true → b.failed ≡ true
  pub stopped : v.stopped ≡ true → b.stopped ≡ true
  pub noted : IsNoted b.notes v.safe v.mark
  pub of_flusher : v.flushes ≡ true → (place ≡ flusher) × (b.notes ≡ v.notes) × (horizon_of b.notes ≡ v.published)
      × (b.failed ≡ v.device_failed)
  pub of_builder : v.builds ≡ true → (place ≡ builder) × (b.progress ≡ v.attempts)
  pub stops : v.stops ≡ true → v.may_stop ≡ true

-- some view has set the stop flag
abbrev pub SomeStops : List Knowledge → Type 0
SomeStops views = (place : ℕ) × (v : Knowledge) × (get_elem? views place ≡ some v) × (v.stops ≡ true)

-- the names of any two views that may set the stop flag part ways
abbrev pub AllApart : List Knowledge → Type 0
AllApart views =
    (i j : ℕ) (v w : Knowledge) → i ≢ j → get_elem? views i ≡ some v → get_elem? views j ≡ some w
    → v.may_stop ≡ true → w.may_stop ≡ true → part_ways v.name w.name ≡ true

-- The words say what is posted, and each view fits it. A stop flag that is set was set by some view,
-- and the views that may set it have names of their own.
pub record IsBoardKept (s : State (Unit {0}) Knowledge) : Type 0 where
  pub posted : Posted
  pub flusher : ℕ
  pub builder : ℕ
  pub words : s.words ≡ words_of posted
  pub fits : (place : ℕ) (v : Knowledge) → get_elem? s.views place ≡ some v → Fits posted flusher builder place v
  pub stops : posted.stopped ≡ true → SomeStops s.views
  pub apart : AllApart s.views

-- a view that has seen nothing and may do nothing, as is left where one was joined to another
abbrev pub spent_view : Knowledge
spent_view = record {
  flushes = false;
  published = 0;
  notes = [];
  device_failed = false;
  builds = false;
  attempts = 0;
  may_stop = false;
  name = [];
  stops = false;
  horizon = 0;
  progress = 0;
  mark = 0;
  safe = 0;
  checked = false;
  failed = false;
  stopped = false;
}

-- the first view, which is the flusher's, the builder's and a thread's
abbrev pub first_view : Knowledge
first_view = record spent_view { flushes = true; builds = true; may_stop = true }

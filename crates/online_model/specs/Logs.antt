-- The notes that the host writes to its log for the index, and what they give when they are redone.
use Rattle.std.specs.FinMap.{get}
use Rattle.std.specs.Prelude.{List, None, Option, Some, [], ◌++◌, ◌∷◌, ◌≡◌}
use Rattle.record_values.specs.Entries.{Index}
use Rattle.record_values.specs.Maps.{set_at}
use Rattle.record_values.specs.declared.pair.Mark.{Mark}
use Rattle.record_values.specs.declared.pair.Mark.TheVariants.{Live, Marked}
use Rattle.record_values.specs.declared.pair.Pair.{Pair}
use Rattle.online_model.specs.declared.life.Life.{Life}
use Rattle.online_model.specs.declared.life.Life.TheVariants.{Building, Complete}
use Rattle.online_model.specs.declared.note.Note.{Note}
pub use Rattle.online_model.specs.declared.note.Note.TheVariants.{EntryIs, LifeIs}
use Rattle.online_model.specs.World as step
use Rattle.online_model.specs.World.{Runs, Step, World, after}

-- what notes set: the entries and the life of the index
pub record Cells : Type 0 where
  pub entries : Index
  pub life : Life

-- the cells after one note
abbrev pub set_by : Cells → Note → Cells
set_by c (EntryIs p mark) = record { entries = set_at c.entries p mark; life = c.life }
set_by c (LifeIs life) = record { entries = c.entries; life = life }

-- the cells after several notes, in order
abbrev pub redone : Cells → List Note → Cells
redone c [] = c
redone c (n ∷ ns) = redone (set_by c n) ns

-- the note of an attempt: none where the pair had an entry
abbrev pub notes_of_attempt : Pair → Option Mark → List Note
notes_of_attempt p None = EntryIs p (Some Live) ∷ []
notes_of_attempt p (Some mark) = []

-- the notes of a step
abbrev pub notes_of : World → Step → List Note
notes_of w (step.Mark p) = EntryIs p (Some Marked) ∷ []
notes_of w (step.Change r key) = []
notes_of w (step.Put p) = EntryIs p (Some Live) ∷ []
notes_of w (step.TakePage page pairs) = []
notes_of w (step.Attempt p) = notes_of_attempt p (get w.entries p)
notes_of w step.Checkpoint = LifeIs (Building w.bound) ∷ []
notes_of w step.Finish = LifeIs Complete ∷ []
notes_of w (step.Clean p) = EntryIs p None ∷ []
notes_of w step.Reopen = []

-- the notes of several steps, in order
abbrev pub notes_over : World → List Step → List Note
notes_over w [] = []
notes_over w (e ∷ es) = notes_of w e ++ notes_over (after w e) es

-- the entries and the life of the index
abbrev pub cells_of : World → Cells
cells_of w = record { entries = w.entries; life = w.life }

-- this held at some moment of a run: at its beginning, at its end, or between two of its steps
pub record HeldAtSomeMoment (begun : World) (steps : List Step) (w : World) (holds : World → Type 0) : Type 0 where
  pub before : List Step
  pub later : List Step
  pub moment : World
  pub first : Runs begun before moment
  pub rest : Runs moment later w
  pub all : steps ≡ before ++ later
  pub held : holds moment

-- cells that were copied during a run: each entry, and the life, at a moment of its own
pub record IsCopiedBetween (begun : World) (steps : List Step) (w : World) (copied : Cells) : Type 0 where
  pub entries : (p : Pair) → HeldAtSomeMoment begun steps w (λ m. get copied.entries p ≡ get m.entries p)
  pub life : HeldAtSomeMoment begun steps w (λ m. copied.life ≡ m.life)

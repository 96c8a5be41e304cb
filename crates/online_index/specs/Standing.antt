-- Which worlds an index stands for.
use Rattle.std.specs.FinMap.{get}
use Rattle.std.specs.Prelude.{List, None, Option, Some, [], false, ◌++◌, ◌∷◌, ◌≡◌, ◌⊎◌}
use Rattle.record_values.specs.Entries.{Index}
use Rattle.record_values.specs.Maps.{set_at}
use Rattle.record_values.specs.Orders.{is_above}
use Rattle.record_values.specs.declared.pair.Mark.TheVariants.{Marked}
use Rattle.record_values.specs.declared.pair.Pair.{Pair}
use Rattle.online_index.specs.Value.{IndexValue}
use Rattle.online_model.specs.World.{Mark, Step, World, after}
use Rattle.online_model.specs.declared.life.Life.TheVariants.{Complete}
use Rattle.online_model.specs.declared.note.Note.{Note}
use Rattle.online_model.specs.declared.note.Note.TheVariants.{EntryIs, LifeIs}
use Rattle.sorted_scan.specs.Runs.{ScanRun, is_given, is_missed}
use Rattle.sorted_scan.specs.Scans.{HasRun}

-- the index stands for this world, whatever rows the host has
pub record StandsFor (v : IndexValue) (w : World) : Type 0 where
  pub entries : w.entries ≡ v.entries
  pub life : w.life ≡ v.life
  pub pages : w.pages ≡ v.scan.pages
  pub bound : w.bound ≡ v.scan.last
  pub run : ScanRun
  pub made : HasRun v.scan run
  pub read_with : (p : Pair) → w.read_with p ≡ is_given run p
  pub read_without : (p : Pair) → w.read_without p ≡ is_missed run p

-- the world after several steps
abbrev pub after_all : World → List Step → World
after_all w [] = w
after_all w (e ∷ es) = after_all (after w e) es

-- the step that marks a pair, if there is one
abbrev pub mark_of : Option Pair → List Step
mark_of None = []
mark_of (Some p) = Mark p ∷ []

-- the steps that prepare a change: the pair that the row has is marked, and so is the pair that it is to have
abbrev pub marks_of : Option Pair → Option Pair → List Step
marks_of old new = mark_of old ++ mark_of new

-- the entries once the pair, if there is one, is marked
abbrev pub marked_if : Index → Option Pair → Index
marked_if m None = m
marked_if m (Some p) = set_at m p (Some Marked)

-- there is a pair, and it has no entry
abbrev pub IsMissing : Index → Option Pair → Type 0
IsMissing m None = ⊥
IsMissing m (Some p) = get m p ≡ None

-- the note sets an entry that is not there
abbrev pub IsAdding : Index → Note → Type 0
IsAdding m (EntryIs p (Some mark)) = get m p ≡ None
IsAdding m (EntryIs p None) = ⊥
IsAdding m (LifeIs life) = ⊥

-- the index is complete, or the builder is past this pair
abbrev pub IsCovered : IndexValue → Pair → Type 0
IsCovered v p = (v.life ≡ Complete) ⊎ (is_above v.scan.last p ≡ false)

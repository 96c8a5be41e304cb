-- What contracts see of the tokens that threads step with.
use Rattle.std.specs.Prelude.{◌≡◌, ◌⊎◌, ◌≤◌, ℕ, Bool, true, false, List, [], ◌∷◌, ◌++◌}
use Rattle.atomic_table.specs.Seated.{TableId}
use Rattle.board.specs.declared.knowledge.Knowledge.{Knowledge}
use Rattle.board.specs.declared.knowledge.Note.{Note}

-- What the holder of a view has seen of a board: the last horizon and the last count of attempts
-- that it read, whether it has read the failed flag since it last read the horizon, and whether it
-- found the failed flag and the stop flag set.
-- Then whether it has set the stop flag itself, and the view's name.
-- And the mark that it read last, with the horizon that it had seen then.
pub record Sighting : Type 0 where
  pub board : TableId
  pub horizon : ℕ
  pub progress : ℕ
  pub checked : Bool
  pub failed : Bool
  pub stopped : Bool
  pub stops : Bool
  pub name : List Bool
  pub mark : ℕ
  pub safe : ℕ

-- What the flusher has published on a board: its own count, and whether it has said that its device
-- failed. And whether it found the stop flag set. Then each horizon that it has published, with its
-- mark, the newest first.
pub record FlusherCount : Type 0 where
  pub board : TableId
  pub horizon : ℕ
  pub failed : Bool
  pub stopped : Bool
  pub notes : List Note

-- What the builder has published on a board: its own count of attempts. And whether it found the stop
-- flag set.
pub record BuilderCount : Type 0 where
  pub board : TableId
  pub progress : ℕ
  pub stopped : Bool

-- a view of this board that has read nothing
abbrev pub nothing_seen : TableId → Sighting
nothing_seen board = record {
  board = board;
  horizon = 0;
  progress = 0;
  checked = false;
  failed = false;
  stopped = false;
  stops = false;
  name = [];
  mark = 0;
  safe = 0;
}

-- the flusher's count on this board, where it has published and read nothing
abbrev pub nothing_published : TableId → FlusherCount
nothing_published board = record { board = board; horizon = 0; failed = false; stopped = false; notes = [] }

-- one of these notes has this mark, and reaches the horizon; or both are 0
abbrev pub IsNoted : List Note → (horizon mark : ℕ) → Type 0
IsNoted [] horizon mark = (horizon ≡ 0) × (mark ≡ 0)
IsNoted (n ∷ notes) horizon mark = ((n.mark ≡ mark) × (horizon ≤ n.horizon)) ⊎ IsNoted notes horizon mark

-- Views have names, so that none is made unseen. The first view of a board has the empty name. Where
-- a view becomes two, the one that stays adds false to its name, and the one that leaves adds true.
abbrev pub stays_as : List Bool → List Bool
stays_as name = name ++ false ∷ []

-- the name of the view that leaves
abbrev pub leaves_as : List Bool → List Bool
leaves_as name = name ++ true ∷ []

-- Two names part ways: at some place one has false and the other true. So neither view comes from
-- the other.
abbrev pub part_ways : List Bool → List Bool → Bool
part_ways [] other = false
part_ways (a ∷ name) [] = false
part_ways (true ∷ name) (true ∷ other) = part_ways name other
part_ways (true ∷ name) (false ∷ other) = true
part_ways (false ∷ name) (true ∷ other) = true
part_ways (false ∷ name) (false ∷ other) = part_ways name other

-- what contracts see of what a view knows
abbrev pub sighting_of : TableId → Knowledge → Sighting
sighting_of board v = record {
  board = board;
  horizon = v.horizon;
  progress = v.progress;
  checked = v.checked;
  failed = v.failed;
  stopped = v.stopped;
  stops = v.stops;
  name = v.name;
  mark = v.mark;
  safe = v.safe;
}

-- what the holder of the flusher's view has published
abbrev pub flusher_count_of : TableId → Knowledge → FlusherCount
flusher_count_of board v = record {
  board = board;
  horizon = v.published;
  failed = v.device_failed;
  stopped = v.stopped;
  notes = v.notes;
}

-- what the holder of the builder's view has published
abbrev pub builder_count_of : TableId → Knowledge → BuilderCount
builder_count_of board v = record { board = board; progress = v.attempts; stopped = v.stopped }

-- it is neither the flusher's nor the builder's, and may set the stop flag
abbrev pub IsThread : Knowledge → Type 0
IsThread v = (v.flushes ≡ false) × (v.builds ≡ false) × (v.may_stop ≡ true)

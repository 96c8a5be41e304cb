-- A checkpoint in pieces.
use Rattle.std.specs.Prelude.{List, None, Option, Some, [], length, ℕ, ◌+◌, ◌++◌, ◌<◌, ◌∷◌, ◌≡◌}
use Rattle.btree_node.specs.Above.{IsLeastAbove}
use Rattle.record_values.specs.Entries.{Index}
use Rattle.record_values.specs.declared.pair.Mark.TheVariants.{Live, Marked}
use Rattle.record_values.specs.declared.pair.Pair.{Pair}
use Rattle.online_index.specs.declared.pieces.NextMarked.{NextMarked}
use Rattle.online_index.specs.declared.pieces.NextMarked.TheVariants as next
use Rattle.online_index.specs.declared.pieces.Saved.{Saved}
use Rattle.online_index.specs.declared.pieces.Saved.TheVariants as saved
use Rattle.online_model.specs.World.{Runs, Step, World}
use Rattle.online_model.specs.declared.note.Note.{Note}
use Rattle.online_model.specs.declared.note.Note.TheVariants.{EntryIs, LifeIs}

-- these notes are of the entries that follow the start, each the least one above the one before it, up to this end
abbrev pub IsPieceOf : Index → Option Pair → List Note → Option Pair → Type 0
IsPieceOf m start [] end = end ≡ start
IsPieceOf m start (EntryIs p (Some mark) ∷ ns) end = IsLeastAbove m start (Some (p, mark)) × IsPieceOf m (Some p) ns end
IsPieceOf m start (EntryIs p None ∷ ns) end = ⊥
IsPieceOf m start (LifeIs life ∷ ns) end = ⊥

-- a piece of a checkpoint: its notes were appended, and it ended after this many, or before, where there was no further
-- entry
abbrev pub IsSaved : Index → Option Pair → ℕ → List Note → Saved → Type 0
IsSaved m start most notes (saved.GoOn end) = IsPieceOf m start notes end × (length notes ≡ most)
IsSaved m start most notes saved.All = (length notes < most)
    × ((end : Option Pair) × IsPieceOf m start notes end × IsLeastAbove m end None)

-- A checkpoint that was taken in pieces while these steps led to the last world: after any steps a piece of the entries
-- as they were then, above the start; after further steps the next piece, above the end of that one; and so on, until
-- no entry was left.
pub data IsSavedDuring (last : World) : Option Pair → World → List Step → List Note → Type 0 where
  last_piece : {start : Option Pair} {w : World} (moment : World) (most : ℕ) (before later : List Step)
      (piece : List Note) → Runs w before moment → IsSaved moment.entries start most piece saved.All
      → Runs moment later last → IsSavedDuring last start w (before ++ later) piece
  one_piece : {start : Option Pair} {w : World} (moment : World) (end : Option Pair) (most : ℕ)
      (before later : List Step) (piece rest : List Note) → Runs w before moment
      → IsSaved moment.entries start most piece (saved.GoOn end) → IsSavedDuring last end moment later rest
      → IsSavedDuring last start w (before ++ later) (piece ++ rest)

-- this many live entries lead from a start to this end, each the least one above the one before it
pub data IsPastLive (m : Index) (start : Option Pair) : ℕ → Option Pair → Type 0 where
  at_start : IsPastLive m start 0 start
  past : {n : ℕ} {middle : Option Pair} (p : Pair) → IsPastLive m start n middle
      → IsLeastAbove m middle (Some (p, Live))
      → IsPastLive m start (n + 1) (Some p)

-- where the next marked entry is: past live ones, fewer than this many; or there is none, or this many are all live
abbrev pub IsNextMarked : Index → Option Pair → ℕ → NextMarked → Type 0
IsNextMarked m start most (next.Found p) = (n : ℕ) × (n < most) × (middle : Option Pair)
    × IsPastLive m start n middle × IsLeastAbove m middle (Some (p, Marked))
IsNextMarked m start most (next.GoOn end) = IsPastLive m start most end
IsNextMarked m start most next.End = (n : ℕ) × (n < most) × (end : Option Pair)
    × IsPastLive m start n end × IsLeastAbove m end None

-- The cleaner.
use Rattle.std.specs.FinMap.{get}
use Rattle.std.specs.Prelude.{◌≡◌, ◌⊎◌, ◌++◌, ℕ, [], ◌∷◌, true, false, Option, Some, None}
use Rattle.record_values.specs.Maps.{set_at}
use Rattle.record_values.specs.declared.pair.Mark.TheVariants.{Marked}
use Rattle.record_values.specs.declared.pair.Pair.{Pair}
use Rattle.online_model.specs.World as step
use Rattle.online_model.specs.World.{CanClean, IsPassed, World, after}
use Rattle.online_model.specs.declared.note.Note.TheVariants.{EntryIs}
use Rattle.online_index.specs.Pieces.{IsNextMarked}
use Rattle.online_index.specs.Standing.{StandsFor}
use Rattle.online_index.specs.Value.{IndexValue}
use Rattle.online_index.specs.declared.pieces.NextMarked.{NextMarked}
use Rattle.online_index.specs.declared.pieces.NextMarked.TheVariants as next
use Rattle.nsf_index_c.specs.Pairs.{IsAfter, IsNoCursor, IsNoPair, IsPair, moved}
use Rattle.nsf_index_c.specs.Seen.{Seen}
use Rattle.nsf_index_c.specs.declared.pair.Cursor.{Cursor}
use Rattle.nsf_index_c.specs.declared.pair.PairOfC.{PairOfC}

-- what is told of a search for a marked entry
abbrev pub found_of : NextMarked → ℕ
found_of next.End = 0
found_of (next.GoOn end) = 1
found_of (next.Found p) = 2

-- where the cursor is then
abbrev pub moved_to : Cursor → NextMarked → Cursor
moved_to c next.End = c
moved_to c (next.GoOn end) = moved c end
moved_to c (next.Found p) = moved c (Some p)

-- the next marked entry after the cursor was looked for, among so many entries; or the cursor is after no pair
abbrev pub Looks : ℕ → ℕ → ℕ → Cursor → Cursor → IndexValue → Type 0
Looks most status found old new i =
    ((above : Option Pair) × IsAfter old above
    × ((it : NextMarked) × IsNextMarked i.entries above most it × (status ≡ 0) × (found ≡ found_of it)
    × (new ≡ moved_to old it)))
    ⊎ (IsNoCursor old × (status ≡ 24) × (found ≡ 0) × (new ≡ old))

-- the entry was marked and passed, and is out, and its note waits
pub record IsCleaned (p : Pair) (v w : Seen) : Type 0 where
  pub marked : get v.index.entries p ≡ Some Marked
  pub passed : IsPassed v.index.life p
  pub is : w ≡ record v {
    index = record v.index { entries = set_at v.index.entries p None };
    waiting = v.waiting ++ EntryIs p None ∷ [];
  }
  pub stands : (world : World) → StandsFor v.index world
      → CanClean world p × StandsFor w.index (after world (step.Clean p))

-- the entry of a pair was taken out, or stays since it is not marked or not passed; or the call was refused
abbrev pub CleansPair : Pair → ℕ → ℕ → Seen → Seen → Type 0
CleansPair p status did v w =
    ((status ≡ 0) × (did ≡ 1) × (v.is_redone ≡ false) × IsCleaned p v w)
    ⊎ ((did ≡ 0) × (w ≡ v)
    × (((status ≡ 30) × (v.is_redone ≡ true))
    ⊎ ((v.is_redone ≡ false) × ((status ≡ 1)
    ⊎ ((status ≡ 0) × (¬ ((get v.index.entries p ≡ Some Marked) × IsPassed v.index.life p)))))))

-- so of C's pair, if it is one
abbrev pub Cleans : PairOfC → ℕ → ℕ → Seen → Seen → Type 0
Cleans c status did v w = ((p : Pair) × IsPair c p × CleansPair p status did v w)
    ⊎ (IsNoPair c × (status ≡ 24) × (did ≡ 0) × (w ≡ v))

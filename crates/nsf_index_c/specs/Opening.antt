-- The beginning of an index under a handle, its redo and its reopening.
use Rattle.std.specs.Prelude.{◌≡◌, ◌⊎◌, ◌≤◌, ℕ, Bool, true, false, List, []}
use Rattle.record_values.specs.declared.geometry.TheConstants.{ENTRIES_MIN, LARGE_ENTRIES_MAX}
use Rattle.online_model.specs.Keeping.{IsCreated}
use Rattle.online_model.specs.Logs.{cells_of, set_by}
use Rattle.online_model.specs.World as step
use Rattle.online_model.specs.World.{World, after}
use Rattle.online_model.specs.declared.note.Note.{Note}
use Rattle.online_index.specs.Standing.{IsAdding, StandsFor}
use Rattle.online_index.specs.Value.{IsFull, created, held_by, reopened}
use Rattle.online_notes.specs.Spelling.{IsWritable, bytes_of}
use Rattle.nsf_index_c.specs.Handles.{Holds, IsOpen, IsVacant}
use Rattle.nsf_index_c.specs.Seen.{Seen}
use Rattle.nsf_index_c.specs.declared.handle.Handle.{Handle}

-- how many entries an index may have at most
abbrev pub IsSize : ℕ → Type 0
IsSize most = (ENTRIES_MIN ≤ most) × (most ≤ LARGE_ENTRIES_MAX)

-- an index with no entry and no note, which stands for each world just created
pub record IsMade (most pages : ℕ) (is_redone : Bool) (v : Seen) : Type 0 where
  pub is : v ≡ record { index = created most pages; most = most; waiting = []; is_redone = is_redone }
  pub stands : (w : World) → IsCreated w → w.pages ≡ pages → StandsFor v.index w

-- why no index was made: one is open; or none is, and there is no index of that size, or memory was refused
abbrev pub IsNotMade : ℕ → ℕ → Handle → Type 0
IsNotMade most n old = ((n ≡ 29) × IsOpen old)
    ⊎ (IsVacant old × (((n ≡ 6) × (¬ IsSize most)) ⊎ ((n ≡ 1) × IsSize most)))

-- none was open and one is that was made so; or none was made, and under the handle is what was there
abbrev pub MakesIndex : ℕ → ℕ → Bool → ℕ → Handle → Handle → Type 0
MakesIndex most pages is_redone status old new =
    ((status ≡ 0) × IsVacant old × IsSize most × Holds (IsMade most pages is_redone) new)
    ⊎ (IsNotMade most status old × (new.at.value ≡ old.at.value))

-- a note was redone
pub record IsRedone (note : Note) (v w : Seen) : Type 0 where
  pub held : held_by w.index ≡ set_by (held_by v.index) note
  pub index : w.index ≡ record v.index { entries = w.index.entries; life = w.index.life }
  pub rest : w ≡ record v { index = w.index }

-- why it was not: the index is not being redone; or the note adds an entry, and memory was refused, or the index is
-- full
abbrev pub IsNotRedone : Seen → Note → ℕ → Type 0
IsNotRedone v note n = ((n ≡ 31) × (v.is_redone ≡ false))
    ⊎ ((v.is_redone ≡ true) × IsAdding v.index.entries note × ((n ≡ 1) ⊎ ((n ≡ 13) × IsFull v.index)))

-- the bytes spell a note, which was redone or not; or they spell none
abbrev pub Redoes : List ℕ → ℕ → Seen → Seen → Type 0
Redoes bytes status v w =
    ((note : Note) × IsWritable note × (bytes ≡ bytes_of note)
    × (((status ≡ 0) × (v.is_redone ≡ true) × IsRedone note v w) ⊎ (IsNotRedone v note status × (w ≡ v))))
    ⊎ (((note : Note) → IsWritable note → ¬ (bytes ≡ bytes_of note)) × (status ≡ 26) × (w ≡ v))

-- it was reopened, and stands for the world after that step, whichever it held the entries and the life of
pub record IsReopened (pages : ℕ) (v w : Seen) : Type 0 where
  pub is : w ≡ record v { index = reopened v.index pages; is_redone = false }
  pub stands : (world : World) → cells_of world ≡ held_by v.index → world.pages ≡ pages
      → StandsFor w.index (after world step.Reopen)

-- it was, or it was not being redone
abbrev pub Reopens : ℕ → ℕ → Seen → Seen → Type 0
Reopens pages status v w = ((status ≡ 0) × (v.is_redone ≡ true) × IsReopened pages v w)
    ⊎ ((status ≡ 31) × (v.is_redone ≡ false) × (w ≡ v))

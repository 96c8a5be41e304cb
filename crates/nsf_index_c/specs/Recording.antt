-- Records of notes, as C takes them.
use Rattle.std.specs.Prelude.{◌≡◌, ◌⊎◌, ◌++◌, ◌/◌, ◌<◌, ℕ, List, [], ◌∷◌, length}
use Rattle.std.specs.Prelude.{take, drop, min, true, false, Option}
use Rattle.online_model.specs.declared.note.Note.{Note}
use Rattle.online_model.specs.declared.note.Note.TheVariants.{LifeIs}
use Rattle.online_index.specs.Pieces.{IsSaved}
use Rattle.online_index.specs.declared.pieces.Saved.{Saved}
use Rattle.online_index.specs.declared.pieces.Saved.TheVariants as saved
use Rattle.online_notes.specs.Spelling.{bytes_of}
use Rattle.record_values.specs.Entries.{Index}
use Rattle.record_values.specs.declared.pair.Pair.{Pair}
use Rattle.nsf_index_c.specs.Pairs.{IsAfter, IsNoCursor, moved}
use Rattle.nsf_index_c.specs.Seen.{Seen}
use Rattle.nsf_index_c.specs.declared.pair.Cursor.{Cursor}
use Rattle.nsf_index_c.specs.declared.recording.TheConstants.{FRAME_MAX}

-- a record with its length before it
abbrev pub frame_of : Note → List ℕ
frame_of n = length (bytes_of n) ∷ bytes_of n

-- the records of these notes, one after another
abbrev pub frames_of : List Note → List ℕ
frames_of [] = []
frames_of (n ∷ ns) = frame_of n ++ frames_of ns

-- they stand in front, and after them what was there
pub record IsSpelled (notes : List Note) (used : ℕ) (old new : List ℕ) : Type 0 where
  pub number : used ≡ length (frames_of notes)
  pub front : new ≡ frames_of notes ++ drop used old

-- how many records there is room for
abbrev pub room_in : List ℕ → ℕ
room_in bytes = length bytes / FRAME_MAX

-- there is no room for one
abbrev pub HasNoRoom : List ℕ → Type 0
HasNoRoom bytes = length bytes < FRAME_MAX

-- The first notes that wait were taken, as many as there is room for; or none, since there is no room for one, or
-- memory was refused.
abbrev pub TakesRecords : ℕ → ℕ → List ℕ → List ℕ → Seen → Seen → Type 0
TakesRecords status used old new v w =
    ((status ≡ 0) × IsSpelled (take (room_in old) v.waiting) used old new
    × (w ≡ record v { waiting = drop (room_in old) v.waiting }))
    ⊎ ((used ≡ 0) × (w ≡ v) × (((status ≡ 32) × HasNoRoom old) ⊎ (status ≡ 1)))

-- why no piece of a checkpoint was saved: there is no room, the index is to be reopened first, notes wait, or memory
-- was refused
abbrev pub IsNotSaved : ℕ → List ℕ → Seen → Type 0
IsNotSaved status old v = ((status ≡ 32) × HasNoRoom old) ⊎ ((status ≡ 30) × (v.is_redone ≡ true))
    ⊎ ((status ≡ 27) × (¬ (v.waiting ≡ []))) ⊎ (status ≡ 1)

-- the life was saved as one record, or not
abbrev pub SavesLife : ℕ → ℕ → List ℕ → List ℕ → Seen → Seen → Type 0
SavesLife status used old new v w = (w ≡ v)
    × (((status ≡ 0) × (v.is_redone ≡ false) × (v.waiting ≡ []) × IsSpelled (LifeIs v.index.life ∷ []) used old new)
    ⊎ ((used ≡ 0) × IsNotSaved status old v))

-- whether it was the last piece
abbrev pub last_of : Saved → ℕ
last_of saved.All = 1
last_of (saved.GoOn end) = 0

-- where the cursor is then
abbrev pub saved_to : Cursor → Saved → Cursor
saved_to c saved.All = c
saved_to c (saved.GoOn end) = moved c end

-- how many records a piece has at most: as many as there is room for, up to the greatest number of 32 bits
abbrev pub piece_in : List ℕ → ℕ
piece_in bytes = min (room_in bytes) 4294967295

-- the next entries after a pair were saved, so many at most, and their records stand in front
pub record IsPieceSpelled (above : Option Pair) (saved : Saved) (used : ℕ) (old new : List ℕ) (m : Index) : Type 0 where
  pub notes : List Note
  pub piece : IsSaved m above (piece_in old) notes saved
  pub spelled : IsSpelled notes used old new

-- so it was; whether it was the last piece is told, and the cursor is after it
pub record IsPieceSaved (above : Option Pair) (used last : ℕ) (from to : Cursor) (old new : List ℕ) (v : Seen)
    : Type 0 where
  pub saved : Saved
  pub piece : IsPieceSpelled above saved used old new v.index.entries
  pub last_is : last ≡ last_of saved
  pub moved : to ≡ saved_to from saved

-- a piece was saved, or none
abbrev pub SavesPiece : ℕ → ℕ → ℕ → Cursor → Cursor → List ℕ → List ℕ → Seen → Seen → Type 0
SavesPiece status used last from to old new v w = (w ≡ v)
    × (((status ≡ 0) × (v.is_redone ≡ false) × (v.waiting ≡ [])
    × ((above : Option Pair) × IsAfter from above × IsPieceSaved above used last from to old new v))
    ⊎ ((used ≡ 0) × (last ≡ 0) × (to ≡ from) × (IsNotSaved status old v ⊎ ((status ≡ 24) × IsNoCursor from))))

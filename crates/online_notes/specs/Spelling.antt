-- How notes are spelled, and which have a spelling.
use Rattle.std.specs.Int.{to_be_bytes, w16, w32}
use Rattle.std.specs.Prelude.{List, None, Some, [], length, ℕ, ◌++◌, ◌<◌, ◌^◌, ◌∷◌, ◌≤◌}
use Rattle.online_model.specs.declared.life.Life.TheVariants.{Building, Complete}
use Rattle.online_model.specs.declared.note.Note.{Note}
use Rattle.online_model.specs.declared.note.Note.TheVariants.{EntryIs, LifeIs}
use Rattle.record_values.specs.declared.key.TheConstants.{KEY_MAX}
use Rattle.record_values.specs.declared.pair.Mark.TheVariants.{Live, Marked}
use Rattle.record_values.specs.declared.pair.Pair.{Pair}
use Rattle.record_values.specs.declared.rid.TheConstants.{SLOTS_PER_PAGE}

-- numbers of four and two bytes, the highest byte first
unfoldable pub page_bytes : ℕ → List ℕ
page_bytes n = to_be_bytes w32 n

unfoldable pub slot_bytes : ℕ → List ℕ
slot_bytes n = to_be_bytes w16 n

-- a pair: page, slot, key
abbrev pub pair_bytes : Pair → List ℕ
pair_bytes p = page_bytes p.rid.page ++ (slot_bytes p.rid.slot ++ p.key)

-- a note: a byte that says what it sets, and its pair
abbrev pub bytes_of : Note → List ℕ
bytes_of (EntryIs p (Some Live)) = 1 ∷ pair_bytes p
bytes_of (EntryIs p (Some Marked)) = 2 ∷ pair_bytes p
bytes_of (EntryIs p None) = 3 ∷ pair_bytes p
bytes_of (LifeIs (Building (Some p))) = 4 ∷ pair_bytes p
bytes_of (LifeIs (Building None)) = 5 ∷ []
bytes_of (LifeIs Complete) = 6 ∷ []

-- the numbers of a pair are such as a pair in memory has
pub record IsWritablePair (p : Pair) : Type 0 where
  pub page : p.rid.page < 2 ^ 32
  pub slot : p.rid.slot < SLOTS_PER_PAGE
  pub key : length p.key ≤ KEY_MAX

-- so are those of a note
abbrev pub IsWritable : Note → Type 0
IsWritable (EntryIs p mark) = IsWritablePair p
IsWritable (LifeIs (Building (Some p))) = IsWritablePair p
IsWritable (LifeIs (Building None)) = Unit {0}
IsWritable (LifeIs Complete) = Unit {0}

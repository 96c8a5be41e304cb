-- Reading.
use Rattle.std.specs.FinMap as map
use Rattle.std.specs.Prelude.{◌≡◌, ◌⊎◌, ◌++◌, ◌-◌, ◌<◌, ◌≤◌, ℕ, List, [], ◌∷◌, length, drop}
use Rattle.std.specs.Prelude.{map as mapped, true, false, Bool, Option, Some, None}
use Rattle.btree_node.specs.Above.{IsLeastAbove}
use Rattle.marked_index.specs.Counts.{marked_in}
use Rattle.record_values.specs.Entries.{Index}
use Rattle.record_values.specs.declared.key.TheConstants.{KEY_MAX}
use Rattle.record_values.specs.declared.pair.Mark.{Mark}
use Rattle.record_values.specs.declared.pair.Pair.{Pair}
use Rattle.online_model.specs.declared.life.Life.{Life}
use Rattle.online_model.specs.declared.life.Life.TheVariants.{Building, Complete}
use Rattle.online_index.specs.Value.{IndexValue}
use Rattle.nsf_index_c.specs.Pairs.{IsAfter, IsNoCursor, IsNoPair, IsPair, moved, state_of, told}
use Rattle.nsf_index_c.specs.Seen.{Seen}
use Rattle.nsf_index_c.specs.declared.pair.Cursor.{Cursor}
use Rattle.nsf_index_c.specs.declared.pair.PairOfC.{PairOfC}
use Rattle.nsf_index_c.specs.declared.reading.Stat.{Stat}

-- how far an index is built, as C is told it
abbrev pub life_of : Life → ℕ
life_of (Building None) = 1
life_of (Building (Some p)) = 2
life_of Complete = 3

-- the pair of the last checkpoint is told, where there is one; else what was there stays
abbrev pub highest_told : Life → PairOfC → PairOfC
highest_told (Building None) c = c
highest_told (Building (Some p)) c = told p None
highest_told Complete c = c

-- a yes or a no, as a number
abbrev pub flag_of : Bool → ℕ
flag_of true = 1
flag_of false = 0

-- what an index is, as C is told it
abbrev pub stat_of : Seen → Stat
stat_of v = record {
  entries = map.len v.index.entries;
  marked = marked_in v.index.entries;
  room = v.most - map.len v.index.entries;
  records = length v.waiting;
  life = life_of v.index.life;
  is_redone = flag_of v.is_redone;
}

-- what entry C's pair has, if it is a pair
abbrev pub Gets : PairOfC → ℕ → ℕ → ℕ → IndexValue → Type 0
Gets c status before state i =
    ((p : Pair) × IsPair c p × (status ≡ 0) × (state ≡ state_of (map.get i.entries p)))
    ⊎ (IsNoPair c × (status ≡ 24) × (state ≡ before))

-- the least pair with this key
abbrev pub least_of : List ℕ → Pair
least_of key = record { key = key; rid = record { page = 0; slot = 0 } }

-- the first entry whose key is this one or comes after it: that of the least pair, or the next one
abbrev pub IsFirstFrom : Index → List ℕ → Option (Pair × Mark) → Type 0
IsFirstFrom m key entry =
    ((mark : Mark) × (map.get m (least_of key) ≡ Some mark) × (entry ≡ Some (least_of key, mark)))
    ⊎ ((map.get m (least_of key) ≡ None) × IsLeastAbove m (Some (least_of key)) entry)

-- an entry is told, or that there is none
abbrev pub entry_told : PairOfC → Option (Pair × Mark) → PairOfC
entry_told c None = record c { state = 0 }
entry_told c (Some e) = told e.0 (Some e.1)

-- the first entry from a key on is told; or the key is too long
abbrev pub Finds : List ℕ → ℕ → PairOfC → PairOfC → IndexValue → Type 0
Finds key status old new i =
    ((length key ≤ KEY_MAX) × (status ≡ 0)
    × ((entry : Option (Pair × Mark)) × IsFirstFrom i.entries key entry × (new ≡ entry_told old entry)))
    ⊎ ((KEY_MAX < length key) × (status ≡ 24) × (new ≡ old))

-- these entries follow the start, each the least one above the one before it, up to this end
abbrev pub AreNext : Index → Option Pair → List (Pair × Mark) → Option Pair → Type 0
AreNext m start [] end = end ≡ start
AreNext m start (e ∷ es) end = IsLeastAbove m start (Some e) × AreNext m (Some e.0) es end

-- an entry as C is told it
abbrev pub told_entry : Pair × Mark → PairOfC
told_entry e = told e.0 (Some e.1)

-- The next entries after a start stand in front, as many as there is room for or as there are, and after them what was
-- there. This is the pair of the last of them.
pub record Fills (m : Index) (start : Option Pair) (count : ℕ) (old new : List PairOfC) (end : Option Pair)
    : Type 0 where
  pub entries : List (Pair × Mark)
  pub next : AreNext m start entries end
  pub number : count ≡ length entries
  pub room : count ≤ length old
  pub filled : new ≡ mapped told_entry entries ++ drop count old
  pub all : (count ≡ length old) ⊎ IsLeastAbove m end None

-- the next entries after the cursor are told, which is after the last of them then; or it is after no pair
abbrev pub TellsPage : ℕ → ℕ → Cursor → Cursor → List PairOfC → List PairOfC → IndexValue → Type 0
TellsPage status count old new room entries i =
    ((above : Option Pair) × IsAfter old above
    × ((end : Option Pair) × Fills i.entries above count room entries end × (status ≡ 0) × (new ≡ moved old end)))
    ⊎ (IsNoCursor old × (status ≡ 24) × (count ≡ 0) × (new ≡ old) × (entries ≡ room))

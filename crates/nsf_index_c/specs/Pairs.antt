-- Pairs, cursors and changes as C has them.
use Rattle.std.specs.Prelude.{◌≡◌, ◌⊎◌, ◌<◌, ◌≤◌, ◌++◌, ℕ, List, length}
use Rattle.std.specs.Prelude.{take, drop, replicate, Option, Some, None}
use Rattle.record_values.specs.declared.key.TheConstants.{KEY_MAX}
use Rattle.record_values.specs.declared.pair.Mark.{Mark}
use Rattle.record_values.specs.declared.pair.Mark.TheVariants.{Live, Marked}
use Rattle.record_values.specs.declared.pair.Pair.{Pair}
use Rattle.record_values.specs.declared.rid.TheConstants.{SLOTS_PER_PAGE}
use Rattle.nsf_index_c.specs.declared.change.Change.{Change}
use Rattle.nsf_index_c.specs.declared.change.Change.TheVariants as asked
use Rattle.nsf_index_c.specs.declared.pair.ChangeOfC.{ChangeOfC}
use Rattle.nsf_index_c.specs.declared.pair.Cursor.{Cursor}
use Rattle.nsf_index_c.specs.declared.pair.PairOfC.{PairOfC}

-- the pair with these numbers and this key
abbrev pub IsPair : PairOfC → Pair → Type 0
IsPair c p = (c.length ≤ KEY_MAX) × (c.slot < SLOTS_PER_PAGE)
    × (p ≡ record { key = take c.length c.key; rid = record { page = c.page; slot = c.slot } })

-- there is none: the key is too long, or no page has the slot
abbrev pub IsNoPair : PairOfC → Type 0
IsNoPair c = (KEY_MAX < c.length) ⊎ (SLOTS_PER_PAGE ≤ c.slot)

-- what an entry is, as C is told it
abbrev pub state_of : Option Mark → ℕ
state_of None = 0
state_of (Some Live) = 1
state_of (Some Marked) = 2

-- the bytes, and zeros after them
abbrev pub padded : List ℕ → List ℕ
padded bytes = bytes ++ drop (length bytes) (replicate KEY_MAX 0)

-- a pair as C is told it
abbrev pub told : Pair → Option Mark → PairOfC
told p mark = record {
  page = p.rid.page;
  slot = p.rid.slot;
  length = length p.key;
  state = state_of mark;
  key = padded p.key;
}

-- after which pair a call begins; after none where it begins at the first entry
abbrev pub IsAfter : Cursor → Option Pair → Type 0
IsAfter c None = c.goes_on ≡ 0
IsAfter c (Some p) = (0 < c.goes_on) × IsPair c.pair p

-- there is no such pair
abbrev pub IsNoCursor : Cursor → Type 0
IsNoCursor c = (0 < c.goes_on) × IsNoPair c.pair

-- a cursor after this pair; where there is none it is as it was
abbrev pub moved : Cursor → Option Pair → Cursor
moved c None = c
moved c (Some p) = record { goes_on = 1; pair = told p None }

-- the change that C asks for
abbrev pub Asks : ChangeOfC → Change → Type 0
Asks c (asked.Prepare None None) = ⊥
Asks c (asked.Prepare None (Some new)) = (c.kind ≡ 1) × IsPair c.new_pair new
Asks c (asked.Prepare (Some old) None) = (c.kind ≡ 2) × IsPair c.old_pair old
Asks c (asked.Prepare (Some old) (Some new)) = (c.kind ≡ 3) × IsPair c.old_pair old × IsPair c.new_pair new
Asks c (asked.Put p) = (c.kind ≡ 4) × IsPair c.new_pair p
Asks c (asked.Mark p) = (c.kind ≡ 5) × IsPair c.old_pair p

-- the kind is one whose old pair, or new pair, is looked at
abbrev pub HasOld : ℕ → Type 0
HasOld kind = (kind ≡ 2) ⊎ (kind ≡ 3) ⊎ (kind ≡ 5)

abbrev pub HasNew : ℕ → Type 0
HasNew kind = (kind ≡ 1) ⊎ (kind ≡ 3) ⊎ (kind ≡ 4)

-- why there is no such change, by the number of the refusal: a pair that is looked at is none, or no change has the
-- kind
abbrev pub IsNoChange : ChangeOfC → ℕ → Type 0
IsNoChange c n = ((n ≡ 24) × ((HasOld c.kind × IsNoPair c.old_pair) ⊎ (HasNew c.kind × IsNoPair c.new_pair)))
    ⊎ ((n ≡ 33) × ((c.kind ≡ 0) ⊎ (5 < c.kind)))

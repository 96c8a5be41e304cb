-- Many changes in one call.
use Rattle.std.specs.Prelude.{◌≡◌, ◌⊎◌, ◌<◌, ◌++◌, ◌+◌, ℕ, List, [], ◌∷◌, length, take}
use Rattle.nsf_index_c.specs.Changing.{MakesAsked}
use Rattle.nsf_index_c.specs.Pairs.{Asks, IsNoChange}
use Rattle.nsf_index_c.specs.Seen.{Seen}
use Rattle.nsf_index_c.specs.declared.pair.ChangeOfC.{ChangeOfC}

-- one change of C was made, or refused by this number
abbrev pub MakesOne : ChangeOfC → ℕ → Seen → Seen → Type 0
MakesOne c status v w = MakesAsked (Asks c) (IsNoChange c) status v w

-- these changes were made, one after another
pub data AreMade (v : Seen) : List ChangeOfC → Seen → Type 0 where
  none_made : AreMade v [] v
  one_more : {u w : Seen} (before : List ChangeOfC) (c : ChangeOfC) → AreMade v before u → MakesOne c 0 u w
      → AreMade v (before ++ c ∷ []) w

-- the first ones were made, so many; and these were all, or the next one was refused, which changed nothing
abbrev pub Applies : List ChangeOfC → ℕ → ℕ → Seen → Seen → Type 0
Applies cs status made v w = AreMade v (take made cs) w
    × (((status ≡ 0) × (made ≡ length cs))
    ⊎ ((made < length cs) × (0 < status) × ((c : ChangeOfC) × (take (made + 1) cs ≡ take made cs ++ c ∷ [])
    × MakesOne c status w w)))

-- Which slots of a page are in a set, by the bits that tell it.
use Rattle.std.specs.Prelude.{ℕ, zero, suc, ◌+◌, ◌==◌, Bool, List, [], ◌∷◌}
use Rattle.std.specs.Int.{bit_at}
use Rattle.record_values.specs.declared.rid.TheConstants.{SLOTS_PER_PAGE}

-- of each of n slots, the first of which is slot i, whether it is in the set
abbrev pub flags_from : ℕ → ℕ → ℕ → List Bool
flags_from bits i zero = []
flags_from bits i (suc n) = (bit_at bits i == 1) ∷ flags_from bits (i + 1) n

-- of each slot of a page
unfoldable pub flags_of : ℕ → List Bool
flags_of bits = flags_from bits 0 SLOTS_PER_PAGE

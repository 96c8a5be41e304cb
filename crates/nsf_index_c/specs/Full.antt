-- A value is there.
use Rattle.std.specs.Prelude.{◌≡◌, ℕ, Option, Some, None}

-- something is there
abbrev pub IsFull : {X : Type 0} → Option X → Type 0
IsFull {X} value = (x : X) × (value ≡ Some x)

-- a number that says whether something is there
abbrev pub flag_of : {X : Type 0} → Option X → ℕ
flag_of None = 0
flag_of (Some x) = 1

-- A number that says whether something is there.
use Rattle.std.proofs.Common.{◌≡◌, ◌≢◌, ℕ, Option, Some, None, refl}
use Rattle.nsf_index_c.specs.Full.{IsFull, flag_of}

pub full : {X : Type 0} (value : Option X) (n : ℕ) → n ≡ flag_of value → n ≢ 0 → IsFull value
full None n is some = absurd (some is)
full (Some x) n is some = (x, refl)

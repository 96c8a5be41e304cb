-- How many visible pairs were counted.
use Rattle.std.proofs.Common.{◌≡◌, ℕ, ◌+◌, min, List, [], ◌∷◌, length, ap, arith}
use Rattle.record_values.specs.declared.pair.Pair.{Pair}

-- so many of all were met, and so many are left; as many were counted as a number has room for
pub record AreCounted (all left : List Pair) (count most : ℕ) : Type 0 where
  pub met : ℕ
  pub split : met + length left ≡ length all
  pub counted : count ≡ min met most

pub none_counted : (all left : List Pair) (most : ℕ) → left ≡ all → AreCounted all left 0 most
none_counted all left most is = record { met = 0; split = let e = ap length is in omega (arith, e); counted = omega arith }

pub one_counted : (all left rest : List Pair) (p : Pair) (count most next : ℕ) → AreCounted all left count most → left ≡ p ∷ rest → next ≡ min (count + 1) most
    → AreCounted all rest next most
one_counted all left rest p count most next h is more = record {
  met = h.met + 1;
  split = let e = ap length is in let s = h.split in omega (arith, e, s);
  counted = let c = h.counted in omega (arith, c, more);
}

pub all_counted : (all left : List Pair) (count most : ℕ) → AreCounted all left count most → left ≡ [] → count ≡ min (length all) most
all_counted all left count most h none = let e = ap length none in let s = h.split in let c = h.counted in omega (arith, e, s, c)

-- Lemmas on tests.
use Rattle.std.proofs.Common.{◌≡◌, ℕ, ◌+◌, ◌≤◌, Bool, true, false, cond, ◌==◌, ◌&&◌, refl, arith}
use Rattle.std.proofs.lemmas.Bool.Decides.{nat_tests}
use mir.Val.{bool_byte}

pub and_true : (a b : Bool) → a ≡ true → b ≡ a && b
and_true true b e = refl
and_true false b e = cc

pub and_false : (a b : Bool) → a ≡ false → a ≡ a && b
and_false true b e = cc
and_false false b e = refl

pub bool_byte_is : (b : Bool) → bool_byte b ≡ cond b 1 0
bool_byte_is true = refl
bool_byte_is false = refl

pub bool_byte_small : (b : Bool) → bool_byte b ≤ 1
bool_byte_small true = omega arith
bool_byte_small false = omega arith

pub one_is : (b : Bool) → (cond b 1 0 == 1) ≡ b
one_is true = refl
one_is false = refl

pub top_split : (s d n : ℕ) → s ≤ d → (s + cond ((s == d) && (n == 32)) 1 0 == d + 1) ≡ (s == d) && (n == 32)
top_split s d n h = grind (arith, nat_tests)

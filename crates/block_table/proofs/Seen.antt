-- The block of data that was seen last.
use Rattle.std.proofs.Common.{◌≡◌, ℕ, Option, Some, None, IfSome, subst}

pub seen_then : (P Q : ℕ → Type 0) (o : Option ℕ) → IfSome o P → ((n : ℕ) → P n → Q n) → IfSome o Q
seen_then P Q None p f = tt
seen_then P Q (Some n) p f = f n p

pub at_seen : (P : ℕ → Type 0) (o : Option ℕ) (n : ℕ) → o ≡ Some n → IfSome o P → P n
at_seen P o n is p = subst (λ (x : Option ℕ). IfSome x P) is p

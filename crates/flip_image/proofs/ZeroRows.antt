-- Sectors of zeros.
use Rattle.std.proofs.Common.{◌≡◌, ℕ, All, replicate, drop, refl}
use Rattle.std.proofs.lemmas.List.Elements.{All-replicate, All-drop}

pub zero_row : (n : ℕ) → All (λ (b : ℕ). b ≡ 0) (replicate {A = ℕ} n 0)
zero_row n = All-replicate (λ (b : ℕ). b ≡ 0) n 0 refl

pub zero_rest : (k n : ℕ) → All (λ (b : ℕ). b ≡ 0) (drop k (replicate {A = ℕ} n 0))
zero_rest k n = All-drop (λ (b : ℕ). b ≡ 0) k (replicate {A = ℕ} n 0) (zero_row n)

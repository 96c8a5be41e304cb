-- A scan is refused for one reason at most.
use Rattle.std.proofs.Common.{rules, arith, ◌≡◌, ◌⊎◌, ℕ, List, inl, inr}
use Rattle.nsf_c.specs.Scans.{IsFine, IsNoBound, IsNoPair, IsNoRange}
use Rattle.nsf_c.specs.declared.bounds.Bounds.{Bounds}

one_bound : (k : ℕ) (key : List ℕ) (m n : ℕ) → IsNoBound k key m → IsNoBound k key n → m ≡ n
one_bound k key m n p q = search rules

one_pair : (b : Bounds) (key : List ℕ) (m n : ℕ) → IsNoPair b key m → IsNoPair b key n → m ≡ n
one_pair b key m n p q = search rules

pub one_range : (b : Bounds) (from to given : List ℕ) (m n : ℕ) → IsNoRange b from to given m → IsNoRange b from to given n → m ≡ n
one_range b from to given m n (inl p) (inl q) = one_bound b.from from m n p q
one_range b from to given m n (inl p) (inr (inl q)) = absurd (q.1 m p)
one_range b from to given m n (inl p) (inr (inr q)) = absurd (q.1 m p)
one_range b from to given m n (inr (inl p)) (inl q) = absurd (p.1 n q)
one_range b from to given m n (inr (inl p)) (inr (inl q)) = one_bound b.to to m n p.0 q.0
one_range b from to given m n (inr (inl p)) (inr (inr q)) = absurd (q.2 m p.0)
one_range b from to given m n (inr (inr p)) (inl q) = absurd (p.1 n q)
one_range b from to given m n (inr (inr p)) (inr (inl q)) = absurd (p.2 n q.0)
one_range b from to given m n (inr (inr p)) (inr (inr q)) = one_pair b given m n p.0 q.0

-- or else that no index is read so
pub one_reason : (b : Bounds) (from to given : List ℕ) (P : Type 0) (m n : ℕ)
    → (IsNoRange b from to given m ⊎ ((m ≡ 24) × P × IsFine (IsNoRange b from to given)))
    → (IsNoRange b from to given n ⊎ ((n ≡ 24) × P × IsFine (IsNoRange b from to given))) → m ≡ n
one_reason b from to given P m n (inl p) (inl q) = one_range b from to given m n p q
one_reason b from to given P m n (inl p) (inr q) = absurd (q.2 m p)
one_reason b from to given P m n (inr p) (inl q) = absurd (p.2 n q)
one_reason b from to given P m n (inr p) (inr q) = omega (arith, p.0, q.0)

-- The numbers of a head are written one after the other.
use Rattle.std.proofs.Common.{◌≡◌, ◌≢◌, inl, inr, ⊎_elim, ℕ, ◌+◌, ◌*◌, ◌<◌, ◌≤◌, List, length, replicate, slice_index, slice_set, sym, ◌∙◌, ap, arith}
use Rattle.std.proofs.Common.{length-set}
use Rattle.std.proofs.Math.ListN.{length-replicate}
use Rattle.std.proofs.lemmas.Bool.{cases_eq, cases_lt}
use Rattle.std.proofs.lemmas.List.{get_or-replicate, get_or-set_other, get_or_past}
use Rattle.std.proofs.lemmas.Grind.{get_or-set_at}

-- a number of zeros is zero, also behind them
zero_at : (n k : ℕ) → slice_index (replicate n 0) k ≡ 0
zero_at n k = ⊎_elim (λ below. get_or-replicate {A = ℕ} n k 0 0 below)
    (λ past. get_or_past {X = ℕ} (replicate n 0) k 0 (omega (arith, length-replicate {A = ℕ} n 0, past))) (cases_lt k n)

-- and so it is behind the first three of them, once these are written
pub zero_behind : (text number count k : ℕ) → 3 ≤ k → slice_index (slice_set (slice_set (slice_set (replicate 512 0) 0 text) 1 number) 2 count) k ≡ 0
zero_behind text number count k from =
    get_or-set_other (slice_set (slice_set (replicate 512 0) 0 text) 1 number) 2 k count 0 (omega (arith, from))
    ∙ get_or-set_other (slice_set (replicate 512 0) 0 text) 1 k number 0 (omega (arith, from))
    ∙ get_or-set_other (replicate 512 0) 0 k text 0 (omega (arith, from))
    ∙ zero_at 512 k

module _ (words places digests : List ℕ) (i : ℕ) (room : 3 + 2 * i + 1 < length words) where
  abbrev pub wrote : List ℕ
  wrote = slice_set (slice_set words (3 + 2 * i) (slice_index places i)) (3 + 2 * i + 1) (slice_index digests i)

  -- the place and the digest of a block more leave the other numbers
  pub other : (k : ℕ) → k ≢ 3 + 2 * i → k ≢ 3 + 2 * i + 1 → slice_index wrote k ≡ slice_index words k
  other k first second =
      get_or-set_other (slice_set words (3 + 2 * i) (slice_index places i)) (3 + 2 * i + 1) k (slice_index digests i) 0 second
      ∙ get_or-set_other words (3 + 2 * i) k (slice_index places i) 0 first

  pub place_more : ((k : ℕ) → k < i → slice_index words (3 + 2 * k) ≡ slice_index places k) → (k : ℕ) → k < i + 1
      → slice_index wrote (3 + 2 * k) ≡ slice_index places k
  place_more before k below = elim (cases_eq k i) [
    | inl is ↦
        get_or-set_other (slice_set words (3 + 2 * i) (slice_index places i)) (3 + 2 * i + 1) (3 + 2 * k) (slice_index digests i) 0 (omega (arith, is))
        ∙ get_or-set_at words (3 + 2 * i) (3 + 2 * k) (slice_index places i) 0 (omega (arith, is)) (omega (arith, room))
        ∙ ap (slice_index places) (sym is)
    | inr apart ↦ other (3 + 2 * k) (omega (arith, apart)) (omega (arith, apart)) ∙ before k (omega (arith, below, apart))
  ]

  pub digest_more : ((k : ℕ) → k < i → slice_index words (4 + 2 * k) ≡ slice_index digests k) → (k : ℕ) → k < i + 1
      → slice_index wrote (4 + 2 * k) ≡ slice_index digests k
  digest_more before k below = elim (cases_eq k i) [
    | inl is ↦
        get_or-set_at (slice_set words (3 + 2 * i) (slice_index places i)) (3 + 2 * i + 1) (4 + 2 * k) (slice_index digests i) 0 (omega (arith, is))
        (omega (arith, room, length-set words (3 + 2 * i) (slice_index places i)))
        ∙ ap (slice_index digests) (sym is)
    | inr apart ↦ other (4 + 2 * k) (omega (arith, apart)) (omega (arith, apart)) ∙ before k (omega (arith, below, apart))
  ]

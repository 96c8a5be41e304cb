-- Places are put one by one.
use Rattle.std.proofs.Common.{◌≡◌, inl, inr, ℕ, ◌+◌, ◌<◌, ◌≤◌, List, length, slice_set, sym, ◌∙◌, ap, arith}
use Rattle.std.proofs.lemmas.Bool.{cases_eq}
use Rattle.std.proofs.lemmas.List.{get_or-set_other}
use Rattle.std.proofs.lemmas.Grind.{get_or-set_at}
use Rattle.record_values.specs.Values.{Place}
use Rattle.nsf_c.specs.declared.spot.Spot.{Spot}
use Rattle.nsf_c.specs.Spots.{nowhere, spot_of, rid_at, spot_at}

module _ (rids : List Place) (old spots : List Spot) (i : ℕ) (below : i < length spots) where
  -- one more is in front
  pub one_more : ((k : ℕ) → k < i → spot_at spots k ≡ spot_of (rid_at rids k))
      → (k : ℕ) → k < i + 1 → spot_at (slice_set spots i (spot_of (rid_at rids i))) k ≡ spot_of (rid_at rids k)
  one_more before k lt = elim (cases_eq k i) [
    | inl equal ↦ get_or-set_at spots i k (spot_of (rid_at rids i)) (spot_of nowhere) equal below ∙ ap (λ j. spot_of (rid_at rids j)) (sym equal)
    | inr other ↦ get_or-set_other spots i k (spot_of (rid_at rids i)) (spot_of nowhere) other ∙ before k (omega (arith, lt, other))
  ]

  -- what is behind stays
  pub no_more : ((k : ℕ) → i ≤ k → spot_at spots k ≡ spot_at old k)
      → (k : ℕ) → i + 1 ≤ k → spot_at (slice_set spots i (spot_of (rid_at rids i))) k ≡ spot_at old k
  no_more behind k le = elim (cases_eq k i) [
    | inl equal ↦ absurd (omega (arith, le, equal))
    | inr other ↦ get_or-set_other spots i k (spot_of (rid_at rids i)) (spot_of nowhere) other ∙ behind k (omega (arith, le))
  ]

-- A disk is filled sector by sector.
use Rattle.std.proofs.Common.{◌≡◌, inl, inr, [], ℕ, ◌+◌, ◌<◌, length, slice_set, sym, ◌∙◌, ap, arith}
use Rattle.std.proofs.lemmas.Bool.{cases_eq}
use Rattle.std.proofs.lemmas.List.{ext_get_or, get_or-set_other}
use Rattle.std.proofs.lemmas.Grind.{get_or-set_at}
use Rattle.sector_device.specs.Disk.{CrashState, sector}

-- one more of its sectors is as wanted
pub one_more : (old new wanted : CrashState) (n : ℕ) → n < length old → new ≡ slice_set old n (sector wanted n)
    → ((k : ℕ) → k < n → sector old k ≡ sector wanted k) → (k : ℕ) → k < n + 1 → sector new k ≡ sector wanted k
one_more old new wanted n below is before k lt = ap (λ image. sector image k) is ∙ elim (cases_eq k n) [
  | inl equal ↦ get_or-set_at old n k (sector wanted n) [] equal below ∙ ap (λ j. sector wanted j) (sym equal)
  | inr other ↦ get_or-set_other old n k (sector wanted n) [] other ∙ before k (omega (arith, lt, other))
]

-- all of them are
pub all_same : (image wanted : CrashState) → length image ≡ length wanted → ((k : ℕ) → k < length wanted → sector image k ≡ sector wanted k) → image ≡ wanted
all_same image wanted long same = ext_get_or [] image wanted long (λ k below. same k (omega (arith, below, long)))

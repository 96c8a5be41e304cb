use Rattle.std.proofs.Common.{◌≡◌, ◌⊎◌, ℕ, Bool, true, false, List, Option, Some, None, IsSome, codes, if◌then◌else◌, refl, sym, inl, inr, arith}
use Rattle.std.specs.Str.{bytes_eq}
use Rattle.std.proofs.lemmas.Slice.Eq.{bytes_eq-Decides}
use Rattle.sector_device.specs.declared.call.Fate.{Fate}
use Rattle.sector_device.specs.declared.call.Fate.TheVariants.{Old, New, Zero, Gate, Junk}
use Rattle.program_values.proofs.given.each_fate_has_a_name.Goals as goal

-- where a text or another one names a fate, it is the one or names the other's
picked : (name known : List ℕ) (first : Fate) (others : Option Fate) (b : Bool) → bytes_eq name known ≡ b → IsSome (if b then Some first else others)
    → (name ≡ known) ⊎ IsSome others
picked name known first others true e some = inl ((bytes_eq-Decides name known).0 e)
picked name known first others false e some = inr some

pub returns-clause-names : goal.returns-clause-names
returns-clause-names c = refl

pub returns-clause-no_other : goal.returns-clause-no_other
returns-clause-no_other c = λ name some.
    elim (picked name (codes "old") Old _ _ refl some) [
      | inl e ↦ (0, omega arith, sym e)
      | inr some ↦ elim (picked name (codes "new") New _ _ refl some) [
        | inl e ↦ (1, omega arith, sym e)
        | inr some ↦ elim (picked name (codes "zero") Zero _ _ refl some) [
          | inl e ↦ (2, omega arith, sym e)
          | inr some ↦ elim (picked name (codes "a5") Gate _ _ refl some) [
            | inl e ↦ (3, omega arith, sym e)
            | inr some ↦ elim (picked name (codes "junk") Junk None _ refl some) [
              | inl e ↦ (4, omega arith, sym e)
              | inr none ↦ absurd cc
            ]
          ]
        ]
      ]
    ]

-- The premise holds of the file as it is.
use Rattle.std.proofs.Common.{◌≡◌, inl, inr, ℕ, ◌<◌, ◌%◌, List, [], ◌∷◌, ◌++◌, Option, Some, None, IfSome, Contains, sym, ◌∙◌, ap, subst, arith}
use Rattle.std.proofs.lemmas.Bool.{cases_eq}
use Rattle.std.proofs.lemmas.List.Elements.{Contains-append_left, Contains-push}
use Rattle.block_device.specs.Blocks.{CrashFile, SameOutside}
use Rattle.block_batch.specs.Batch.{Batch}
use Rattle.block_journal.specs.declared.shape.Shape.{Shape}
use Rattle.block_journal.specs.Layout.{IsHonest, IsInside, area_of, found, found_in}
use Rattle.block_journal.specs.Journal.{MayWrite}
use Rattle.block_journal.proofs.Crash.{same_area}

-- while the areas stay
pub honest_same : (g : Shape) (image c : CrashFile) (offered : List Batch) → ((a : ℕ) → a < 2 → area_of g c a ≡ area_of g image a)
    → IsHonest offered g image → IsHonest offered g c
honest_same g image c offered same honest a low = subst (λ (o : Option Batch). IfSome o (λ x. Contains offered x))
    (sym (ap (λ (area : CrashFile). found_in area a) (same a low))) (honest a low)

-- once a batch more was handed to be written, and is in its area
pub honest_next : (g : Shape) (image c : CrashFile) (last next : Batch) (offered : List Batch) → IsInside g image
    → SameOutside (MayWrite g (next.number % 2) last.entries) image c → found g c (next.number % 2) ≡ Some next
    → IsHonest offered g image → IsHonest (offered ++ next ∷ []) g c
honest_next g image c last next offered inside agrees here honest a low = elim (cases_eq a (next.number % 2)) [
  | inl is ↦ subst (λ (o : Option Batch). IfSome o (λ x. Contains (offered ++ next ∷ []) x)) (sym (ap (found g c) is ∙ here))
      (Contains-push offered next)
  | inr apart ↦ subst (λ (o : Option Batch). IfSome o (λ x. Contains (offered ++ next ∷ []) x))
      (sym (ap (λ (area : CrashFile). found_in area a) (same_area g image c (next.number % 2) last.entries inside (omega arith) agrees a low apart)))
      (more (found g image a) (honest a low))
]
  where
    more : (o : Option Batch) → IfSome o (λ x. Contains offered x) → IfSome o (λ x. Contains (offered ++ next ∷ []) x)
    more None h = tt
    more (Some x) h = Contains-append_left offered (next ∷ []) x h

use Rattle.std.proofs.Common.{◌≡◌, ◌≤◌, None, Option, Some, ℕ, arith, inl, inr, ⊎_elim}
use Rattle.program_files.proofs.length.refuse_longer.Goals as goal

no_number : (n : ℕ) → Path (Option ℕ) None (Some n) → ⊥
no_number n is = cc

at_most : (needed wanted sectors long : ℕ) → Path (Option ℕ) (Some needed) (Some wanted) → sectors ≤ needed → sectors ≡ long
    → long ≤ wanted
at_most needed wanted sectors long is enough all = let same : needed ≡ wanted = cc in omega (arith, same, enough, all)

pub returns-in_default-clause-fits : goal.returns-in_default-clause-fits
returns-in_default-clause-fits g c = λ g' half store. ⊎_elim
    (λ is. inl (at_most _ _ _ _ is c.if-needed-sectors.false c.sectors-sectors.ensures))
    (λ rises. inr rises)
    (c.in-Some.ensures.newer g' half store)

pub returns-in_default-2-clause-fits : goal.returns-in_default-2-clause-fits
returns-in_default-2-clause-fits g c = λ g' half store. ⊎_elim
    (λ is. absurd (no_number _ is))
    (λ rises. inr rises)
    (c.in_default.ensures.newer g' half store)

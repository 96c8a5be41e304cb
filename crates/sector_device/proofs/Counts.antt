-- The count of failures over several calls.
use Rattle.std.proofs.Common.{Result, Ok, Err, ◌≡◌, ⊎_elim, ℕ, ◌-◌, ◌^◌, ◌<◌, ◌≤◌, refl, ◌∙◌, arith}
use Rattle.std.proofs.lemmas.Bool.{cases_lt}
use Rattle.sector_device.specs.DevicePast.{Rises, CountsFailure}

-- a failure after other calls
pub rises_later : (a b c : ℕ) → a ≤ b → b ≤ c → Rises b c → Rises a c
rises_later a b c le later rises = λ below. ⊎_elim
    (λ lt. let up : b < c = rises lt in omega (arith, le, up))
    (λ ge. omega (arith, below, ge, later))
    (cases_lt b (2 ^ 64 - 1))

-- a call after others that succeeded
pub counts_later : {T E : Type 0} (a b c : ℕ) (result : Result T E) → b ≡ a → CountsFailure b c result → CountsFailure a c result
counts_later a b c (Ok x) same counts = record { later = omega (arith, same, counts.later); none = counts.none ∙ same; failed = tt }
counts_later a b c (Err e) same counts = record {
  later = omega (arith, same, counts.later);
  none = tt;
  failed = rises_later a b c (omega (arith, same)) counts.later counts.failed;
}

-- a call that failed after others gives its failure
pub counts_failed : {T E : Type 0} (a b c : ℕ) (e : E) → a ≤ b → b ≤ c → Rises b c → CountsFailure {T = T} a c (Err e)
counts_failed a b c e le later rises = record { later = omega (arith, le, later); none = tt; failed = rises_later a b c le later rises }

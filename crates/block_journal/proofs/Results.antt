-- What is known where a call succeeded, or failed.
use Rattle.std.specs.Prelude.{is_err}
use Rattle.std.proofs.Common.{None, Some, Result, Ok, Err, OnOk, OnErr, IfErr, ◌≡◌, ℕ, ◌+◌, ◌-◌, ◌^◌, ◌<◌, min, true, false, arith}
use Rattle.sector_device.specs.DevicePast.{CountsFailure, Rises}

pub on_ok : {T E : Type 0} (P Q : Type 0) (r : Result T E) → (P → Q) → OnOk r P → OnOk r Q
on_ok P Q (Ok x) f h = f h
on_ok P Q (Err e) f h = tt

pub from_ok : {T E : Type 0} (P : Type 0) (r : Result T E) → is_err r ≡ false → OnOk r P → P
from_ok P (Ok x) is h = h
from_ok P (Err e) is h = absurd cc

pub from_err : {T E : Type 0} (P : Type 0) (r : Result T E) → is_err r ≡ true → OnErr r P → P
from_err P (Ok x) is h = absurd cc
from_err P (Err e) is h = h

pub on_err : {T E : Type 0} (P Q : Type 0) (r : Result T E) → (P → Q) → OnErr r P → OnErr r Q
on_err P Q (Ok x) f h = tt
on_err P Q (Err e) f h = f h

-- what holds either way
pub either_result : {T E : Type 0} (P : Type 0) (r : Result T E) → OnOk r P → OnErr r P → P
either_result P (Ok x) ok err = ok
either_result P (Err e) ok err = err

-- beside a count that stays
pub counts_with : {T E : Type 0} (a b r s : ℕ) (result : Result T E) → CountsFailure a b result → s ≡ r → CountsFailure (a + r) (b + s) result
counts_with a b r s (Ok x) counts same = record { later = omega (arith, counts.later, same); none = omega (arith, counts.none, same); failed = tt }
counts_with a b r s (Err e) counts same = record {
  later = omega (arith, counts.later, same);
  none = tt;
  failed = λ below. let up : a < b = counts.failed (omega (arith, below)) in omega (arith, up, same);
}

-- a call was refused, and counted
pub counts_refused : {T E : Type 0} (a r s : ℕ) (e : E) → r < 2 ^ 64 → s ≡ min (r + 1) (2 ^ 64 - 1) → CountsFailure {T = T} (a + r) (a + s) (Err e)
counts_refused a r s e small is = record {
  later = omega (arith, is, small);
  none = tt;
  failed = λ below. omega (arith, is, below);
}

pub on_ok_both : {T E : Type 0} (P Q : Type 0) (r : Result T E) → OnOk r P → OnOk r Q → OnOk r (P × Q)
on_ok_both P Q (Ok x) p q = (p, q)
on_ok_both P Q (Err e) p q = tt

pub on_ok_always : {T E : Type 0} (P : Type 0) (r : Result T E) → P → OnOk r P
on_ok_always P (Ok x) h = h
on_ok_always P (Err e) h = tt

pub on_err_always : {T E : Type 0} (P : Type 0) (r : Result T E) → P → OnErr r P
on_err_always P (Ok x) h = tt
on_err_always P (Err e) h = h

-- what failed after calls that succeeded raises the count
pub err_rises : {T E : Type 0} (r : Result T E) (P : E → Type 0) (a b c : ℕ) → b ≡ a → OnErr r (Rises b c) → IfErr r (λ e. P e → Rises a c)
err_rises (Ok x) P a b c same rises = tt
err_rises (Err e) P a b c same rises = λ _ below. let up : b < c = rises (omega (arith, same, below)) in omega (arith, same, up)

-- what is there isn't nothing
pub not_none : {T : Type 0} {x : T} → Some x ≡ None → ⊥
not_none is = cc

-- Refusals that are not one another.
use Rattle.std.proofs.Common.{◌≡◌, ◌⊎◌, ◌∙◌, inl, inr, Result, Ok, Err, OnOk, sym}
use Rattle.record_values.specs.declared.error.Error.{Error}
use Rattle.record_values.specs.declared.error.Error.TheVariants.{DeviceFailed, DeviceTooSmall, NoMemory, TooManyTxns}
use Rattle.nsf.specs.OpenErrors.{OpenError}
use Rattle.nsf.specs.OpenErrors.TheVariants.{Refused}

pub same_error : {T E : Type 0} (r : Result T E) (e f : E) → r ≡ Err e → r ≡ Err f → e ≡ f
same_error r e f is also = cc

pub is_refused : (x : OpenError) (e f : Error) → x ≡ Refused e → x ≡ Refused f → e ≡ f
is_refused x e f is also = cc

many_not_small : TooManyTxns ≡ DeviceTooSmall → ⊥
many_not_small e = cc

memory_not_many : NoMemory ≡ TooManyTxns → ⊥
memory_not_many e = cc

memory_not_small : NoMemory ≡ DeviceTooSmall → ⊥
memory_not_small e = cc

small_not_many : DeviceTooSmall ≡ TooManyTxns → ⊥
small_not_many e = cc

failed_not_many : DeviceFailed ≡ TooManyTxns → ⊥
failed_not_many e = cc

-- too many clients aren't too few sectors
pub many_or_small : (x : OpenError) → x ≡ Refused TooManyTxns → x ≡ Refused DeviceTooSmall → ⊥
many_or_small x many small = many_not_small (is_refused x TooManyTxns DeviceTooSmall many small)

-- a want of memory is neither
pub memory_or_many : (x : OpenError) → x ≡ Refused NoMemory → x ≡ Refused TooManyTxns → ⊥
memory_or_many x memory many = memory_not_many (is_refused x NoMemory TooManyTxns memory many)

pub memory_or_small : (x : OpenError) → x ≡ Refused NoMemory → x ≡ Refused DeviceTooSmall → ⊥
memory_or_small x memory small = memory_not_small (is_refused x NoMemory DeviceTooSmall memory small)

-- nor is a formatting refused for too many clients
pub formatting_or_many : {P : Type 0} (x : OpenError) (e : Error) → x ≡ Refused e → (e ≡ DeviceTooSmall) ⊎ ((e ≡ DeviceFailed) × P)
    → x ≡ Refused TooManyTxns → ⊥
formatting_or_many x e is (inl small) many = small_not_many (sym small ∙ is_refused x e TooManyTxns is many)
formatting_or_many x e is (inr failed) many = failed_not_many (sym failed.0 ∙ is_refused x e TooManyTxns is many)

pub on_ok : {T E P : Type 0} (r : Result T E) → P → OnOk r P
on_ok (Ok x) p = p
on_ok (Err e) p = tt

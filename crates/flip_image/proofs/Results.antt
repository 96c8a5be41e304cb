-- What is known of a result that was asked whether it is an error.
use Rattle.std.specs.Prelude.{is_err}
use Rattle.std.proofs.Common.{◌≡◌, true, false, Result, Ok, Err, OnOk, OnErr}

pub from_ok : {T E : Type 0} (P : Type 0) (r : Result T E) → is_err r ≡ false → OnOk r P → P
from_ok P (Ok x) is h = h
from_ok P (Err e) is h = absurd cc

pub from_err : {T E : Type 0} (P : Type 0) (r : Result T E) → is_err r ≡ true → OnErr r P → P
from_err P (Ok x) is h = absurd cc
from_err P (Err e) is h = h

-- What a call promised on `Ok`, where it is known to have answered so.
use Rattle.std.proofs.Common.{◌≡◌, Ok, OnOk, Result, subst}

pub on_ok_of : {T E : Type 0} (P : Type 0) (r : Result T E) (x : T) → r ≡ Ok x → OnOk r P → P
on_ok_of P r x is holds = subst (λ (q : Result _ _). OnOk q P) is holds

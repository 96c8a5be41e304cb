-- What holds of one outcome of a call.
use Rattle.std.proofs.Common.{◌≡◌, Err, IfErr, IfOk, Ok, OnErr, OnOk, Result}
use Rattle.std.specs.Prelude.{MatchResult}

module _ {T E : Type 0} where
  pub on_ok_map : (r : Result T E) (P Q : Type 0) → OnOk r P → (P → Q) → OnOk r Q
  on_ok_map (Ok x) P Q p f = f p
  on_ok_map (Err e) P Q p f = tt

  pub if_ok_map : (r : Result T E) (P Q : T → Type 0) → IfOk r P → ((x : T) → P x → Q x) → IfOk r Q
  if_ok_map (Ok x) P Q p f = f x p
  if_ok_map (Err e) P Q p f = tt

  pub if_err_map : (r : Result T E) (P Q : E → Type 0) → IfErr r P → ((e : E) → P e → Q e) → IfErr r Q
  if_err_map (Ok x) P Q p f = tt
  if_err_map (Err e) P Q p f = f e p

  pub on_err : (r : Result T E) (P : Type 0) → P → OnErr r P
  on_err (Ok x) P p = tt
  on_err (Err e) P p = p

  pub match_of : (r : Result T E) (P : T → Type 0) (Q : E → Type 0) → IfOk r P → IfErr r Q → MatchResult r P Q
  match_of (Ok x) P Q p q = p
  match_of (Err e) P Q p q = q

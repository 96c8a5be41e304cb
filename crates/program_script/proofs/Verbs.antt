-- What comparing the first word of a line with a name tells.
use Rattle.std.proofs.Common.{◌≡◌, ◌∙◌, ap, sym, ℕ, Bool, List}
use Rattle.std.specs.Str.{bytes_eq}

pub told : (verb : List ℕ) {word name : List ℕ} {is : Bool} → word ≡ name → is ≡ bytes_eq verb word → bytes_eq verb name ≡ is
told verb same h = ap (bytes_eq verb) (sym same) ∙ sym h

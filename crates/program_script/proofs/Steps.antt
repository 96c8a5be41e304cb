-- Steps of reading that did not fail.
use Rattle.std.specs.Prelude.{◌⊎◌}
use Rattle.std.proofs.Common.{◌≡◌, ℕ, Bool, true, false, cond, eqb, List, Option, Some, None, refl, inl, inr}
use Rattle.std.specs.Option.{option_map}
use Rattle.std.specs.Str.{bytes_eq}
use Rattle.std.proofs.lemmas.Bool.{eqb-true}
use Rattle.std.proofs.lemmas.Slice.Eq.{bytes_eq-Decides}
use Rattle.program_script.specs.Reading.{◌>>=◌}

abbrev pub some : {A : Type 0} → A → Option A
some x = Some x

pub some_is : {A : Type 0} (x y : A) → some x ≡ some y → x ≡ y
some_is x y e = cc

-- the value of a step that did not fail
pub bind_some : {A B : Type 0} (r : Option A) (f : A → Option B) (y : B) → (r >>= f) ≡ Some y → (x : A) × (r ≡ Some x) × (f x ≡ Some y)
bind_some (Some x) f y e = (x, refl, e)
bind_some None f y e = absurd cc

-- the value of a mapped step that did not fail
pub mapped : {A B : Type 0} (f : A → B) (r : Option A) (y : B) → option_map f r ≡ Some y → (x : A) × (r ≡ Some x) × (f x ≡ y)
mapped f (Some x) y e = (x, refl, some_is (f x) y e)
mapped f None y e = absurd cc

-- a test that did not fail
pub passed_not : {A : Type 0} (b : Bool) (r : Option A) (y : A) → cond b None r ≡ Some y → (b ≡ false) × (r ≡ Some y)
passed_not true r y e = absurd cc
passed_not false r y e = (refl, e)

pub passed : {A : Type 0} (b : Bool) (r : Option A) (y : A) → cond b r None ≡ Some y → (b ≡ true) × (r ≡ Some y)
passed true r y e = (refl, e)
passed false r y e = absurd cc

-- one of two
pub chosen : {A : Type 0} (b : Bool) (x y z : A) → cond b x y ≡ z → ((b ≡ true) × (x ≡ z)) ⊎ ((b ≡ false) × (y ≡ z))
chosen true x y z e = inl (refl, e)
chosen false x y z e = inr (refl, e)

-- by a byte, or by the further bytes
pub by_byte : {A P : Type 0} (byte n : ℕ) {x y z : A} → (byte ≡ n → x ≡ z → P) → (y ≡ z → P) → cond (eqb byte n) x y ≡ z → P
by_byte byte n {x} {y} {z} is further e =
    elim (chosen (eqb byte n) x y z e) [
      | inl h ↦ is (eqb-true byte n h.0) h.1
      | inr h ↦ further h.1
    ]

-- by a name, or by the further names
pub by_name : {A P : Type 0} (word name : List ℕ) {x y z : A} → (word ≡ name → x ≡ z → P) → (y ≡ z → P) → cond (bytes_eq word name) x y ≡ z → P
by_name word name {x} {y} {z} is further e =
    elim (chosen (bytes_eq word name) x y z e) [
      | inl h ↦ is ((bytes_eq-Decides word name).0 h.0) h.1
      | inr h ↦ further h.1
    ]

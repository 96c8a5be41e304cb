-- Lists by index.
use Rattle.std.proofs.Common.{◌≡◌, ◌≢◌, ◌<◌, ℕ, zero, suc, List, [], ◌∷◌, ◌++◌, length, map, Some, refl, sym, ap, arith}
use Rattle.std.specs.Prelude.{slice_get, slice_index_or, slice_set}

pub cons_first : {A : Type 0} (a b : A) (xs ys : List A) → a ∷ xs ≡ b ∷ ys → a ≡ b
cons_first a b xs ys e = cc

pub cons_rest : {A : Type 0} (a b : A) (xs ys : List A) → a ∷ xs ≡ b ∷ ys → xs ≡ ys
cons_rest a b xs ys e = cc

pub some_is : {A : Type 0} (a b : A) → Some a ≡ Some b → a ≡ b
some_is a b e = cc

pub get_set : {A : Type 0} (l : List A) (i : ℕ) (a b : A) → slice_get l i ≡ Some b → slice_get (slice_set l i a) i ≡ Some a
get_set [] i a b e = absurd cc
get_set (x ∷ xs) zero a b e = refl
get_set (x ∷ xs) (suc i) a b e = get_set xs i a b e

pub get_set_other : {A : Type 0} (l : List A) (i j : ℕ) (a : A) → j ≢ i → slice_get (slice_set l i a) j ≡ slice_get l j
get_set_other [] i j a apart = refl
get_set_other (x ∷ xs) zero zero a apart = absurd (apart refl)
get_set_other (x ∷ xs) zero (suc j) a apart = refl
get_set_other (x ∷ xs) (suc i) zero a apart = refl
get_set_other (x ∷ xs) (suc i) (suc j) a apart = get_set_other xs i j a (λ e. apart (ap suc e))

pub set_itself : {A : Type 0} (l : List A) (n : ℕ) (a : A) → slice_get l n ≡ Some a → slice_set l n a ≡ l
set_itself [] n a e = refl
set_itself (x ∷ xs) zero a e = ap (λ y. y ∷ xs) (sym (some_is x a e))
set_itself (x ∷ xs) (suc n) a e = ap (λ l. x ∷ l) (set_itself xs n a e)

pub set_count : {A : Type 0} (l : List A) (k : ℕ) (a : A) → length (slice_set l k a) ≡ length l
set_count [] k a = refl
set_count (x ∷ xs) zero a = refl
set_count (x ∷ xs) (suc k) a = ap suc (set_count xs k a)

pub within_list : {A : Type 0} (l : List A) (k : ℕ) → k < length l → (a : A) × (slice_get l k ≡ Some a)
within_list [] k lt = absurd (omega arith)
within_list (x ∷ xs) zero lt = (x, refl)
within_list (x ∷ xs) (suc k) lt = within_list xs k (omega arith)

pub get_within : {A : Type 0} (l : List A) (k : ℕ) (a : A) → slice_get l k ≡ Some a → k < length l
get_within [] k a e = absurd cc
get_within (x ∷ xs) zero a e = omega arith
get_within (x ∷ xs) (suc k) a e = let r = get_within xs k a e in omega arith

pub get_read : {A : Type 0} (l : List A) (n : ℕ) (a : A) → n < length l → a ≡ slice_index_or l n a → slice_get l n ≡ Some a
get_read [] n a lt e = absurd (omega arith)
get_read (x ∷ xs) zero a lt e = ap Some (sym e)
get_read (x ∷ xs) (suc n) a lt e = get_read xs n a (omega arith) e

pub get_map : {A B : Type 0} (f : A → B) (l : List A) (n : ℕ) (a : A) → slice_get l n ≡ Some a → slice_get (map f l) n ≡ Some (f a)
get_map f [] n a e = absurd cc
get_map f (x ∷ xs) zero a e = ap (λ y. Some (f y)) (some_is x a e)
get_map f (x ∷ xs) (suc n) a e = get_map f xs n a e

-- what is at an index of a mapped list comes from there
pub map_get : {A B : Type 0} (f : A → B) (l : List A) (n : ℕ) (b : B) → slice_get (map f l) n ≡ Some b → (a : A) × (slice_get l n ≡ Some a) × (b ≡ f a)
map_get f [] n b e = absurd cc
map_get f (x ∷ xs) zero b e = (x, refl, sym (some_is (f x) b e))
map_get f (x ∷ xs) (suc n) b e = map_get f xs n b e

pub map_count : {A B : Type 0} (f : A → B) (l : List A) → length (map f l) ≡ length l
map_count f [] = refl
map_count f (x ∷ xs) = ap suc (map_count f xs)

pub map_more : {A B : Type 0} (f : A → B) (l : List A) (a : A) → map f (l ++ a ∷ []) ≡ map f l ++ f a ∷ []
map_more f [] a = refl
map_more f (x ∷ xs) a = ap (λ l. f x ∷ l) (map_more f xs a)

pub map_set : {A B : Type 0} (f : A → B) (l : List A) (k : ℕ) (a : A) → map f (slice_set l k a) ≡ slice_set (map f l) k (f a)
map_set f [] k a = refl
map_set f (x ∷ xs) zero a = refl
map_set f (x ∷ xs) (suc k) a = ap (λ l. f x ∷ l) (map_set f xs k a)

-- two lists that have the same at each index are one
pub same_list : {A : Type 0} (l m : List A) → length l ≡ length m → ((k : ℕ) (a : A) → slice_get m k ≡ Some a → slice_get l k ≡ Some a) → l ≡ m
same_list [] [] size same = refl
same_list [] (y ∷ ys) size same = absurd cc
same_list (x ∷ xs) [] size same = absurd cc
same_list (x ∷ xs) (y ∷ ys) size same =
    let rest : xs ≡ ys = same_list xs ys (omega (arith, size)) (λ k a e. same (suc k) a e) in
    let front : x ≡ y = some_is x y (same zero y refl) in
    λ i. front i ∷ rest i

-- What filters keep of lists.
use Rattle.std.proofs.Common.{◌≡◌, ℕ, zero, suc, Bool, true, false, cond, List, [], ◌∷◌, map, take, filter, Contains, refl, ap, sym, subst, ◌∙◌}
use Rattle.std.proofs.Common.{◌⊎◌, inl, inr, arith}
use Rattle.std.proofs.lemmas.Bool.{true≢false, false≢true}
use Rattle.std.proofs.lemmas.List.Elements.{All-contains, All-contains_itself, All-filter, All-take, Contains-append_cases, Contains-append_left}
use Rattle.std.proofs.lemmas.List.Elements.{Contains-append_right, Contains-push, Contains-push_cases, filter_passes}
use Rattle.std.specs.List.{AllByRecursion}

module _ {X : Type 0} where
  -- two tests that agree on what a third one passes
  pub filter_under : (s f g : X → Bool) → ((x : X) → s x ≡ true → f x ≡ g x) → (xs : List X) → filter s (filter f xs) ≡ filter s (filter g xs)
  filter_under s f g same [] = refl
  filter_under s f g same (x ∷ xs) = by (s x) (f x) (g x) refl (same x) (filter_under s f g same xs)
    where
      by : (a b c : Bool) → s x ≡ a → (s x ≡ true → b ≡ c) → filter s (filter f xs) ≡ filter s (filter g xs)
          → filter s (cond b (x ∷ filter f xs) (filter f xs)) ≡ filter s (cond c (x ∷ filter g xs) (filter g xs))
      by a true true is e rest = ap (λ (ys : List X). cond (s x) (x ∷ ys) ys) rest
      by a false false is e rest = rest
      by true true false is e rest = absurd (true≢false (e is))
      by true false true is e rest = absurd (false≢true (e is))
      by false true false is e rest = ap (λ b. cond b (x ∷ filter s (filter f xs)) (filter s (filter f xs))) is ∙ rest
      by false false true is e rest = rest ∙ sym (ap (λ b. cond b (x ∷ filter s (filter g xs)) (filter s (filter g xs))) is)

  -- a test keeps of what a weaker one kept what it keeps of all
  pub filter_within : (f g : X → Bool) → ((x : X) → f x ≡ true → g x ≡ true) → (xs : List X) → filter f (filter g xs) ≡ filter f xs
  filter_within f g weaker [] = refl
  filter_within f g weaker (x ∷ xs) = by (f x) (g x) refl (weaker x) (filter_within f g weaker xs)
    where
      by : (a b : Bool) → f x ≡ a → (f x ≡ true → b ≡ true) → filter f (filter g xs) ≡ filter f xs
          → filter f (cond b (x ∷ filter g xs) (filter g xs)) ≡ cond a (x ∷ filter f xs) (filter f xs)
      by true true is e rest = ap (λ b. cond b (x ∷ filter f (filter g xs)) (filter f (filter g xs))) is ∙ ap (λ (ys : List X). x ∷ ys) rest
      by true false is e rest = absurd (false≢true (e is))
      by false true is e rest = ap (λ b. cond b (x ∷ filter f (filter g xs)) (filter f (filter g xs))) is ∙ rest
      by false false is e rest = rest

  -- a test keeps nothing of what another one kept
  pub filter_apart : (s f : X → Bool) → ((x : X) → f x ≡ true → s x ≡ false) → (xs : List X) → filter s (filter f xs) ≡ []
  filter_apart s f apart [] = refl
  filter_apart s f apart (x ∷ xs) = by (f x) (apart x) (filter_apart s f apart xs)
    where
      by : (b : Bool) → (b ≡ true → s x ≡ false) → filter s (filter f xs) ≡ [] → filter s (cond b (x ∷ filter f xs) (filter f xs)) ≡ []
      by true e rest = ap (λ b. cond b (x ∷ filter s (filter f xs)) (filter s (filter f xs))) (e refl) ∙ rest
      by false e rest = rest

  -- two filters in either order
  pub filter_swap : (f g : X → Bool) (xs : List X) → filter f (filter g xs) ≡ filter g (filter f xs)
  filter_swap f g [] = refl
  filter_swap f g (x ∷ xs) = by (f x) (g x) refl refl (filter_swap f g xs)
    where
      by : (a b : Bool) → f x ≡ a → g x ≡ b → filter f (filter g xs) ≡ filter g (filter f xs)
          → filter f (cond b (x ∷ filter g xs) (filter g xs)) ≡ filter g (cond a (x ∷ filter f xs) (filter f xs))
      by true true is also rest = ap (λ b. cond b (x ∷ filter f (filter g xs)) (filter f (filter g xs))) is ∙ ap (λ (ys : List X). x ∷ ys) rest
          ∙ sym (ap (λ b. cond b (x ∷ filter g (filter f xs)) (filter g (filter f xs))) also)
      by true false is also rest = rest ∙ sym (ap (λ b. cond b (x ∷ filter g (filter f xs)) (filter g (filter f xs))) also)
      by false true is also rest = ap (λ b. cond b (x ∷ filter f (filter g xs)) (filter f (filter g xs))) is ∙ rest
      by false false is also rest = rest

  -- a test that all pass
  pub filter_all : (f : X → Bool) (xs : List X) → AllByRecursion (λ x. f x ≡ true) xs → filter f xs ≡ xs
  filter_all f [] all = refl
  filter_all f (x ∷ xs) all = ap (λ b. cond b (x ∷ filter f xs) (filter f xs)) all.0 ∙ ap (λ (ys : List X). x ∷ ys) (filter_all f xs all.1)

  pub all_pass : (f : X → Bool) (xs : List X) → AllByRecursion (λ x. f x ≡ true) (filter f xs)
  all_pass f [] = tt
  all_pass f (x ∷ xs) = by (f x) refl (all_pass f xs)
    where
      by : (b : Bool) → f x ≡ b → AllByRecursion (λ x. f x ≡ true) (filter f xs) → AllByRecursion (λ x. f x ≡ true) (cond b (x ∷ filter f xs) (filter f xs))
      by true is rest = (is, rest)
      by false is rest = rest

  pub all_weaker : (P Q : X → Type 0) → ((x : X) → P x → Q x) → (xs : List X) → AllByRecursion P xs → AllByRecursion Q xs
  all_weaker P Q weaker [] all = tt
  all_weaker P Q weaker (x ∷ xs) all = (weaker x all.0, all_weaker P Q weaker xs all.1)

  pub all_take : (P : X → Type 0) (n : ℕ) (xs : List X) → AllByRecursion P xs → AllByRecursion P (take n xs)
  all_take P zero xs all = tt
  all_take P (suc n) [] all = tt
  all_take P (suc n) (x ∷ xs) all = (all.0, all_take P n xs all.1)

  -- ---- what a list has

  pub has_first : (x : X) (xs : List X) → Contains (x ∷ xs) x
  has_first x xs = Contains-append_left (x ∷ []) xs x (Contains-push [] x)

  pub has_later : (x : X) (xs : List X) (y : X) → Contains xs y → Contains (x ∷ xs) y
  has_later x xs y = Contains-append_right (x ∷ []) xs y

  pub none_has : (y : X) → Contains {X = X} [] y → ⊥
  none_has y c = omega (arith, c.1)

  pub has_cases : (x : X) (xs : List X) (y : X) → Contains (x ∷ xs) y → (x ≡ y) ⊎ Contains xs y
  has_cases x xs y c =
      elim (Contains-append_cases (x ∷ []) xs y c) [
        | inl here ↦ elim (Contains-push_cases [] x y here) [ inl none ↦ absurd (none_has y none) | inr same ↦ inl same ]
        | inr later ↦ inr later
      ]

  -- what passes is kept
  pub filter_has : (f : X → Bool) (xs : List X) (y : X) → f y ≡ true → Contains xs y → Contains (filter f xs) y
  filter_has f [] y passes c = absurd (none_has y c)
  filter_has f (x ∷ xs) y passes c =
      elim (has_cases x xs y c) [
        | inl same ↦ by_first (f x) (ap f same ∙ passes) same
        | inr later ↦ by_later (f x) (filter_has f xs y passes later)
      ]
    where
      by_first : (b : Bool) → b ≡ true → x ≡ y → Contains (cond b (x ∷ filter f xs) (filter f xs)) y
      by_first true is same = subst (Contains (x ∷ filter f xs)) same (has_first x (filter f xs))
      by_first false is same = absurd (false≢true is)

      by_later : (b : Bool) → Contains (filter f xs) y → Contains (cond b (x ∷ filter f xs) (filter f xs)) y
      by_later true later = has_later x (filter f xs) y later
      by_later false later = later

  -- what is kept was there, and passes
  pub kept_has : (f : X → Bool) (xs : List X) (y : X) → Contains (filter f xs) y → Contains xs y
  kept_has f xs y = All-contains (Contains xs) (filter f xs) y (All-filter f (Contains xs) xs (All-contains_itself xs))

  pub kept_passes : (f : X → Bool) (xs : List X) (y : X) → Contains (filter f xs) y → f y ≡ true
  kept_passes f xs y = All-contains (λ x. f x ≡ true) (filter f xs) y (filter_passes f xs)

  pub taken_has : (n : ℕ) (xs : List X) (y : X) → Contains (take n xs) y → Contains xs y
  taken_has n xs y = All-contains (Contains xs) (take n xs) y (All-take (Contains xs) n xs (All-contains_itself xs))

-- a filter behind a map
pub filter-map : {X Y : Type 0} (f : Y → Bool) (g : X → Y) (xs : List X) → filter f (map g xs) ≡ map g (filter (λ x. f (g x)) xs)
filter-map f g [] = refl
filter-map f g (x ∷ xs) = by (f (g x)) (filter-map f g xs)
  where
    by : (b : Bool) → filter f (map g xs) ≡ map g (filter (λ x. f (g x)) xs)
        → cond b (g x ∷ filter f (map g xs)) (filter f (map g xs)) ≡ map g (cond b (x ∷ filter (λ x. f (g x)) xs) (filter (λ x. f (g x)) xs))
    by true rest = ap (λ (ys : List _). g x ∷ ys) rest
    by false rest = rest

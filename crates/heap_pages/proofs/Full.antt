-- Which pages are full, when one of them is written.
use Rattle.std.proofs.Common.{◌≡◌, ◌≢◌, ℕ, zero, suc, ◌<◌, ◌/◌, ◌%◌, Bool, true, false, not, List, [], ◌∷◌, Some, IsSome, slice_get, set, refl, sym, ap}
use Rattle.std.proofs.Common.{option_and_then, subst, ◌∙◌, arith, eqb, ◌⊎◌, inl, inr}
use Rattle.std.proofs.lemmas.Bool.Decides.{eqb_tells}
use Rattle.std.proofs.lemmas.Option.{slice_get_within, same_Some}
use Rattle.std.specs.FinMap.{get}
use Rattle.record_values.specs.declared.rid.TheConstants.{SLOTS_PER_PAGE}
use Rattle.heap_pages.specs.Slots.{Slots}
use Rattle.heap_pages.specs.Pages.{OthersAreFull, is_open}
use Rattle.heap_pages.proofs.Writes.{get-set, get-set_other}

pub not_false : (b : Bool) → not b ≡ false → b ≡ true
not_false true e = refl
not_false false e = absurd cc

-- what lies where something was written is what was written
set_there : {X : Type 0} → (xs : List X) (i : ℕ) (y z : X) → slice_get (set xs i y) i ≡ Some z → y ≡ z
set_there [] i y z e = absurd cc
set_there (x ∷ xs) zero y z e = same_Some _ _ e
set_there (x ∷ xs) (suc i) y z e = set_there xs i y z e

module _ (sets : List (List Bool)) (n : ℕ) (run : List Bool) (told : Bool) (here : slice_get sets (n / SLOTS_PER_PAGE) ≡ Some run) where
  abbrev after : List (List Bool)
  after = set sets (n / SLOTS_PER_PAGE) (set run (n % SLOTS_PER_PAGE) told)

  run_after : slice_get after (n / SLOTS_PER_PAGE) ≡ Some (set run (n % SLOTS_PER_PAGE) told)
  run_after = get-set sets (n / SLOTS_PER_PAGE) (set run (n % SLOTS_PER_PAGE) told) (slice_get_within sets (n / SLOTS_PER_PAGE) run here)

  -- the page that was told of
  told_of : (b : Bool) → is_open after n ≡ Some b → told ≡ b
  told_of b e = set_there run (n % SLOTS_PER_PAGE) told b
      (sym (ap (option_and_then (λ (l : List Bool). slice_get l (n % SLOTS_PER_PAGE))) run_after) ∙ e)

  -- and another
  others_stay : (k : ℕ) → k ≢ n → is_open after k ≡ is_open sets k
  others_stay k ne = by (eqb_tells (k / SLOTS_PER_PAGE) (n / SLOTS_PER_PAGE))
    where
      by : ((eqb (k / SLOTS_PER_PAGE) (n / SLOTS_PER_PAGE) ≡ true) × (k / SLOTS_PER_PAGE ≡ n / SLOTS_PER_PAGE))
          ⊎ ((eqb (k / SLOTS_PER_PAGE) (n / SLOTS_PER_PAGE) ≡ false) × (k / SLOTS_PER_PAGE ≢ n / SLOTS_PER_PAGE))
          → is_open after k ≡ is_open sets k
      by (inr q) = ap (option_and_then (λ (l : List Bool). slice_get l (k % SLOTS_PER_PAGE)))
          (get-set_other sets (n / SLOTS_PER_PAGE) (k / SLOTS_PER_PAGE) (set run (n % SLOTS_PER_PAGE) told) q.1)
      by (inl q) =
          let apart : k % SLOTS_PER_PAGE ≢ n % SLOTS_PER_PAGE = λ same. ne (omega (arith, same, q.1)) in
          ap (option_and_then (λ (l : List Bool). slice_get l (k % SLOTS_PER_PAGE))) (ap (slice_get after) q.1 ∙ run_after)
          ∙ get-set_other run (n % SLOTS_PER_PAGE) (k % SLOTS_PER_PAGE) told apart
          ∙ sym (ap (option_and_then (λ (l : List Bool). slice_get l (k % SLOTS_PER_PAGE))) (ap (slice_get sets) q.1 ∙ here))

  -- the pages that are told to be full are, where one is written and told of
  pub full_after : (pages : List Slots) (new : Slots) → (told ≡ false → (s : ℕ) → s < SLOTS_PER_PAGE → IsSome (get new s))
      → OthersAreFull sets pages → OthersAreFull after (set pages n new)
  full_after pages new full others k page found closed s within = by (eqb_tells k n)
    where
      by : ((eqb k n ≡ true) × (k ≡ n)) ⊎ ((eqb k n ≡ false) × (k ≢ n)) → IsSome (get page s)
      by (inr q) = others k page (sym (get-set_other pages n k new q.1) ∙ found) (sym (others_stay k q.1) ∙ closed) s within
      by (inl q) =
          let same : new ≡ page = set_there pages n new page (ap (slice_get (set pages n new)) (sym q.1) ∙ found) in
          let none : told ≡ false = told_of false (ap (is_open after) (sym q.1) ∙ closed) in
          subst (λ (x : Slots). IsSome (get x s)) same (full none s within)

-- The slots of pairs, one after another.
use Rattle.std.proofs.Common.{List, ap, arith, get_or, length, map, refl, subst, sym, ℕ, ◌+◌, ◌-◌, ◌<◌, ◌∙◌, ◌≡◌, ◌≤◌}
use borrow.Author.Count.{below_more}
use Rattle.std.proofs.lemmas.List.{get_or-map}
use Rattle.record_values.specs.Values.{Place}
use Rattle.record_values.specs.declared.pair.Pair.{Pair}

abbrev pub slots : List Pair → List ℕ
slots ps = map (λ (p : Pair). p.rid.slot) ps

-- the slot of the pair at an index
pub slot_at : (ps : List Pair) (i : ℕ) (d : Pair) (r : Place) → i < length ps → r ≡ (get_or ps i d).rid → get_or (slots ps) i 0 ≡ r.slot
slot_at ps i d r h e = get_or-map (λ (p : Pair). p.rid.slot) ps i d 0 h ∙ ap (λ (q : Place). q.slot) (sym e)

pub rises_more : (xs : List ℕ) (i : ℕ) → ((k : ℕ) → k + 1 < i → get_or xs k 0 < get_or xs (k + 1) 0) → get_or xs (i - 1) 0 < get_or xs i 0
    → (k : ℕ) → k + 1 < i + 1 → get_or xs k 0 < get_or xs (k + 1) 0
rises_more xs i before here k h = below_more (λ j. (n : ℕ) → j ≡ n + 1 → get_or xs n 0 < get_or xs (n + 1) 0) i
    (λ j l n e. before n (omega arith))
    (λ n e.
    let is : i - 1 ≡ n = omega arith in
    subst (λ m. get_or xs n 0 < get_or xs m 0) e (subst (λ m. get_or xs m 0 < get_or xs i 0) is here))
    (k + 1) h k refl

-- numbers that rise rise at each index above the first
pub falls_short : (xs : List ℕ) (i : ℕ) → 1 ≤ i → i < length xs → ((k : ℕ) → k + 1 < length xs → get_or xs k 0 < get_or xs (k + 1) 0)
    → get_or xs (i - 1) 0 < get_or xs i 0
falls_short xs i one within up =
    let is : i - 1 + 1 ≡ i = omega arith in
    subst (λ m. get_or xs (i - 1) 0 < get_or xs m 0) is (up (i - 1) (omega arith))

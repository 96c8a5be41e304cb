-- Which slots of a page are held.
use Rattle.std.proofs.Common.{◌≡◌, ◌≢◌, ℕ, zero, suc, ◌+◌, ◌<◌, Bool, true, false, List, [], ◌∷◌, Contains, length, take, Some, slice_get, slice_set, replicate}
use Rattle.std.proofs.Common.{◌==◌, ◌&&◌, ◌||◌, refl, sym, ap, ◌∙◌, arith, eqb, eq-eqb, ◌⊎◌, inl, inr}
use Rattle.std.proofs.lemmas.Bool.Decides.{eqb_tells}
use Rattle.std.proofs.Math.Bool.{or-true, or-false}
use Rattle.std.proofs.lemmas.Option.{slice_get_within, get_or_from_slice_get}
use Rattle.std.proofs.lemmas.List.Folds.{list_any_more, list_any_at}
use Rattle.record_values.specs.Values.{Place, is_among}
use Rattle.record_values.specs.declared.rid.TheConstants.{SLOTS_PER_PAGE}
use Rattle.heap_pages.proofs.Cells.{at}
use Rattle.heap_pages.proofs.Writes.{get-set, get-set_other}

-- the test finds exactly the places of the list
place_is : (q r : Place) → ((q.page == r.page) && (q.slot == r.slot)) ≡ true → q ≡ r
place_is q r e = by (eqb_tells q.page r.page) (eqb_tells q.slot r.slot) e
  where
    by : ((eqb q.page r.page ≡ true) × (q.page ≡ r.page)) ⊎ ((eqb q.page r.page ≡ false) × (q.page ≢ r.page)) → ((eqb q.slot r.slot ≡ true) × (q.slot ≡ r.slot))
        ⊎ ((eqb q.slot r.slot ≡ false) × (q.slot ≢ r.slot)) → ((q.page == r.page) && (q.slot == r.slot)) ≡ true → q ≡ r
    by (inl p) (inl s) e = λ i. record { page = p.1 i; slot = s.1 i }
    by (inl p) (inr s) e = absurd cc
    by (inr p) s e = absurd cc

itself : (r : Place) → ((r.page == r.page) && (r.slot == r.slot)) ≡ true
itself r = λ i. eq-eqb r.page r.page refl i && eq-eqb r.slot r.slot refl i

pub among_from-Contains : (r : Place) (rs : List Place) → Contains rs r → is_among r rs ≡ true
among_from-Contains r rs at =
    list_any_at (λ q. (q.page == r.page) && (q.slot == r.slot)) rs at.0 r at.1 (ap (λ (q : Place). (q.page == r.page) && (q.slot == r.slot)) at.2 ∙ itself r)

pub not_among : (r : Place) (rs : List Place) → ¬ Contains rs r → is_among r rs ≡ false
not_among r [] apart = refl
not_among r (q ∷ rs) apart = by ((q.page == r.page) && (q.slot == r.slot)) refl
    (not_among r rs (λ at. let within = at.1 in apart (suc at.0, omega arith, at.2)))
  where
    by : (b : Bool) → ((q.page == r.page) && (q.slot == r.slot)) ≡ b → is_among r rs ≡ false → (b || is_among r rs) ≡ false
    by true e rest = absurd (apart (0, omega arith, place_is q r e))
    by false e rest = rest

pub get-replicate : {X : Type 0} → (n i : ℕ) (x : X) → i < n → slice_get (replicate n x) i ≡ Some x
get-replicate zero i x h = absurd (omega arith)
get-replicate (suc n) zero x h = refl
get-replicate (suc n) (suc i) x h = get-replicate n i x (omega arith)

is_among-more : (q : Place) (held : List Place) (i : ℕ) (r : Place) → slice_get held i ≡ Some r
    → is_among q (take (i + 1) held) ≡ (is_among q (take i held) || ((r.page == q.page) && (r.slot == q.slot)))
is_among-more q held i r here =
    list_any_more (λ x. (x.page == q.page) && (x.slot == q.slot)) held i r (slice_get_within held i r here)
    ∙ ap (λ (x : Place). is_among q (take i held) || ((x.page == q.page) && (x.slot == q.slot))) (get_or_from_slice_get held i r r here)

not_equal : (a b : ℕ) → a ≢ b → eqb a b ≡ false
not_equal a b ne = by (eqb_tells a b)
  where
    by : ((eqb a b ≡ true) × (a ≡ b)) ⊎ ((eqb a b ≡ false) × (a ≢ b)) → eqb a b ≡ false
    by (inl p) = absurd (ne p.1)
    by (inr p) = p.0

-- a held place of another page
pub held_elsewhere : (page : ℕ) (slots : List Bool) (held : List Place) (i : ℕ) (r : Place)
    → ((s : ℕ) → s < SLOTS_PER_PAGE → slice_get slots s ≡ Some (is_among (at page s) (take i held))) → slice_get held i ≡ Some r → r.page ≢ page
    → (s : ℕ) → s < SLOTS_PER_PAGE → slice_get slots s ≡ Some (is_among (at page s) (take (i + 1) held))
held_elsewhere page slots held i r before here other s h =
    before s h ∙ ap Some (sym (is_among-more (at page s) held i r here
    ∙ ap (λ b. is_among (at page s) (take i held) || (b && (r.slot == s))) (not_equal r.page page other) ∙ or-false (is_among (at page s) (take i held))))

-- a held place of this page
pub held_here : (page : ℕ) (slots : List Bool) (held : List Place) (i : ℕ) (r : Place)
    → ((s : ℕ) → s < SLOTS_PER_PAGE → slice_get slots s ≡ Some (is_among (at page s) (take i held))) → slice_get held i ≡ Some r → (r.page == page) ≡ true
    → r.slot < length slots
    → (s : ℕ) → s < SLOTS_PER_PAGE → slice_get (slice_set slots r.slot true) s ≡ Some (is_among (at page s) (take (i + 1) held))
held_here page slots held i r before here same inside s h = by (eqb_tells r.slot s)
  where
    more : (b : Bool) → eqb r.slot s ≡ b → is_among (at page s) (take (i + 1) held) ≡ (is_among (at page s) (take i held) || b)
    more b e = is_among-more (at page s) held i r here ∙ ap (λ t. is_among (at page s) (take i held) || (t && (r.slot == s))) same
        ∙ ap (λ t. is_among (at page s) (take i held) || t) e

    by : ((eqb r.slot s ≡ true) × (r.slot ≡ s)) ⊎ ((eqb r.slot s ≡ false) × (r.slot ≢ s))
        → slice_get (slice_set slots r.slot true) s ≡ Some (is_among (at page s) (take (i + 1) held))
    by (inl p) = ap (slice_get (slice_set slots r.slot true)) (sym p.1) ∙ get-set slots r.slot true inside
        ∙ ap Some (sym (more true p.0 ∙ or-true (is_among (at page s) (take i held))))
    by (inr p) = get-set_other slots r.slot s true (λ e. p.1 (sym e)) ∙ before s h
        ∙ ap Some (sym (more false p.0 ∙ or-false (is_among (at page s) (take i held))))

-- The order of places, read at their pages and slots.
use Rattle.std.proofs.Common.{◌≡◌, ◌≢◌, ◌+◌, ◌<◌, ◌≤◌, true, false, sym, ap, ◌∙◌, arith, eqb, ◌⊎◌, inl, inr}
use Rattle.std.proofs.Math.Nat.{lt_of_not-le}
use Rattle.std.proofs.lemmas.Bool.Decides.{eqb_tells}
use Rattle.std.specs.declared.cmp.Ordering.TheVariants.{Less, Equal, Greater}
use Rattle.std.specs.Ordering.{nat_cmp, ordering_then, eq_by_cmp}
use Rattle.std.specs.Cmp.{nat_cmp_is}
use Rattle.record_values.specs.Values.{Place}
use Rattle.record_values.specs.Orders.{rid_cmp}
use Rattle.record_values.specs.Maps.{rid_exact, same_key, other_key}

pub less_page : (q r : Place) → q.page < r.page → rid_cmp q r ≡ Less
less_page q r h = ap (λ o. ordering_then o (nat_cmp q.slot r.slot)) (sym (nat_cmp_is q.page r.page Less h))

pub less_slot : (q r : Place) → q.page ≡ r.page → q.slot < r.slot → rid_cmp q r ≡ Less
less_slot q r e h =
    ap (λ o. ordering_then o (nat_cmp q.slot r.slot)) (sym (nat_cmp_is q.page r.page Equal e)) ∙ sym (nat_cmp_is q.slot r.slot Less h)

same_place : (q r : Place) → q.page ≡ r.page → q.slot ≡ r.slot → q ≡ r
same_place q r e f = λ i. record { page = e i; slot = f i }

pub tied : (q r : Place) → q.page ≡ r.page → q.slot ≡ r.slot → eq_by_cmp rid_cmp q r ≡ true
tied q r e f = ap (eq_by_cmp rid_cmp q) (sym (same_place q r e f)) ∙ same_key rid_exact q

pub untied : (q r : Place) → q ≢ r → eq_by_cmp rid_cmp q r ≡ false
untied q r ne = other_key rid_exact q r ne

later_page : (q r : Place) → r.page < q.page → rid_cmp q r ≡ Greater
later_page q r h = ap (λ o. ordering_then o (nat_cmp q.slot r.slot)) (sym (nat_cmp_is q.page r.page Greater h))

later_slot : (q r : Place) → q.page ≡ r.page → r.slot ≤ q.slot → rid_cmp q r ≢ Less
later_slot q r e h less =
    let slots : nat_cmp q.slot r.slot ≡ Less =
    sym (ap (λ o. ordering_then o (nat_cmp q.slot r.slot)) (sym (nat_cmp_is q.page r.page Equal e))) ∙ less in
    by slots (eqb_tells q.slot r.slot)
  where
    by : nat_cmp q.slot r.slot ≡ Less → ((eqb q.slot r.slot ≡ true) × (q.slot ≡ r.slot)) ⊎ ((eqb q.slot r.slot ≡ false) × (q.slot ≢ r.slot)) → ⊥
    by is (inl p) = let equal = nat_cmp_is q.slot r.slot Equal p.1 in absurd cc
    by is (inr p) =
        let ne = p.1 in
        let greater = nat_cmp_is q.slot r.slot Greater (omega arith) in
        absurd cc

-- what comes before a place is on an earlier page, or on an earlier slot of the same
pub page_before : (q r : Place) → rid_cmp q r ≡ Less → q.page ≤ r.page
page_before q r less =
    let below : q.page < r.page + 1 = lt_of_not-le (λ h. let later = later_page q r (omega arith) in absurd cc) in
    omega arith

pub slot_before : (q r : Place) → rid_cmp q r ≡ Less → q.page ≡ r.page → q.slot < r.slot
slot_before q r less e = lt_of_not-le (λ h. later_slot q r e h less)

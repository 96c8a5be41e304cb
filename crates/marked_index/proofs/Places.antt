-- The entries of a key, place by place.
use Rattle.std.proofs.Common.{◌≡◌, ℕ, Bool, true, false, List, Some, None, ◌⊎◌, inl, inr, refl, sym, ap, ◌∙◌, nat_eq}
use Rattle.std.specs.Bool.{then_some}
use Rattle.std.specs.FinMap as map
use Rattle.std.specs.FinMap.{nat_cmp-IsAntisymmetric, slice_cmp-IsAntisymmetric}
use Rattle.std.specs.declared.cmp.Ordering.{Ordering}
use Rattle.std.specs.declared.cmp.Ordering.TheVariants.{Less, Equal, Greater}
use Rattle.std.specs.Ordering.{nat_cmp, ordering_then}
use Rattle.std.proofs.lemmas.Cmp.{tied_itself, nat_list_cmp_total}
use Rattle.std.specs.Cmp.Lexicographic.{slice_cmp, pointwise, bytes_decides}
use Rattle.record_values.specs.Values.{Place}
use Rattle.record_values.specs.Orders.{rid_cmp, pair_cmp, rid_cmp_total}
use Rattle.record_values.specs.declared.pair.Pair.{Pair}
use Rattle.record_values.specs.declared.pair.Mark.{Mark}
use Rattle.record_values.specs.Entries.{Index}
use Rattle.btree_node.specs.Above.{IsLeastAbove}
use Rattle.marked_index.specs.Shown.{mark_at, IsNextOf}

abbrev pub pair_at : List ℕ → Place → Pair
pair_at key rid = record { key = key; rid = rid }

-- pairs of one key stand in the order of their places
pub pair_cmp-one_key : (key : List ℕ) (r s : Place) → pair_cmp (pair_at key r) (pair_at key s) ≡ rid_cmp r s
pair_cmp-one_key key r s = ap (λ o. ordering_then o (rid_cmp r s)) (tied_itself nat_list_cmp_total key)

by_key : (o x y : Ordering) → (o ≡ Equal → ⊥) → ordering_then o x ≡ Less → ordering_then o y ≡ Less
by_key Less x y apart h = refl
by_key Equal x y apart h = absurd (apart refl)
by_key Greater x y apart h = h

-- a pair of another key comes after all pairs of a key or before all
below_other : (key : List ℕ) (r s : Place) (p : Pair) → (p.key ≡ key → ⊥) → pair_cmp (pair_at key r) p ≡ Less → pair_cmp (pair_at key s) p ≡ Less
below_other key r s p apart h =
    by_key (slice_cmp nat_cmp key p.key) (rid_cmp r p.rid) (rid_cmp s p.rid) (λ e.
    apart (sym (slice_cmp-IsAntisymmetric nat_cmp-IsAntisymmetric key p.key e))) h

pub next_is_none : (m : Index) (key : List ℕ) (r : Place) → IsLeastAbove m (Some (pair_at key r)) None → IsNextOf m key (Some r) None
next_is_none m key r none = λ s h. none (pair_at key s) (pair_cmp-one_key key r s ∙ h)

pub next_is : (m : Index) (key : List ℕ) (r : Place) (p : Pair) (x : Mark) (b : Bool) → IsLeastAbove m (Some (pair_at key r)) (Some (p, x))
    → b ≡ pointwise nat_eq p.key key → IsNextOf m key (Some r) (then_some b (p.rid, x))
next_is m key r p x true least e =
    let same : p.key ≡ key = (bytes_decides p.key key).0 (sym e) in
    let is : p ≡ pair_at key p.rid = λ i. record { key = same i; rid = p.rid } in (
      sym (pair_cmp-one_key key r p.rid) ∙ ap (pair_cmp (pair_at key r)) (sym is) ∙ least.0,
      ap (map.get m) (sym is) ∙ least.1,
      λ s after before. least.2 (pair_at key s) (pair_cmp-one_key key r s ∙ after) (ap (pair_cmp (pair_at key s)) is ∙ pair_cmp-one_key key s p.rid ∙ before),
    )
next_is m key r p x false least e =
    let apart : p.key ≡ key → ⊥ = λ same. absurd (cc ((bytes_decides p.key key).1 same, e)) in
    λ s after. least.2 (pair_at key s) (pair_cmp-one_key key r s ∙ after) (below_other key r s p apart least.0)

-- ---- the first place

abbrev pub first_place : Place
first_place = record { page = 0; slot = 0 }

not_below_itself : (r s : Place) → rid_cmp r s ≡ Less → r ≡ s → ⊥
not_below_itself r s h e = let tied : rid_cmp s s ≡ Equal = tied_itself rid_cmp_total s in let less : rid_cmp s s ≡ Less =
    ap (λ (q : Place). rid_cmp q s) (sym e) ∙ h in absurd (cc)

none_by : (m : Index) (key : List ℕ) (r : Place) → mark_at m key first_place ≡ None → (rid_cmp first_place r ≡ Less → mark_at m key r ≡ None)
    → (r ≡ first_place) ⊎ (rid_cmp first_place r ≡ Less) → mark_at m key r ≡ None
none_by m key r e later (inl is) = ap (mark_at m key) is ∙ e
none_by m key r e later (inr h) = later h

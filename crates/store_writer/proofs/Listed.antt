-- What a map has at the key of one of its entries.
use Rattle.std.proofs.Common.{◌≡◌, ℕ, zero, suc, true, false, cond, Bool, ◌&&◌, List, [], ◌∷◌, length, ◌≤◌, Some, Option, refl, sym, ap, subst, ◌∙◌}
use Rattle.std.specs.Prelude.{slice_get, T, unwrap_or}
use Rattle.std.specs.declared.cmp.Ordering.{Ordering}
use Rattle.std.specs.declared.cmp.Ordering.TheVariants.{Less, Equal, Greater}
use Rattle.std.specs.Ordering.{is_eq, is_lt, ordering_reverse}
use Rattle.std.specs.Cmp.{IsTotalOrder, nat_cmp_total, tied_itself}
use Rattle.std.specs.FinMap.{FinMap, entries, entries_sorted, find, get, get-entries, is_sorted}
use Rattle.std.specs.FinMap.Entries.{below_all}
use Rattle.std.proofs.lemmas.Option.{none-some, same_Some}
use Rattle.records.specs.ChangeValue.{ChangeValue}
use Rattle.model.specs.Cells.{Cells, list_of}

first : (a b : Bool) → T (a && b) → T a
first true b p = tt
first false b p = p

second : (a b : Bool) → T (a && b) → T b
second true b p = p
second false b p = absurd p

less : (r : Ordering) → T (is_lt r) → r ≡ Less
less Less p = refl
less Equal p = absurd p
less Greater p = absurd p

module _ {K X : Type 0} {R : K → K → Ordering} (o : IsTotalOrder R) where
  below_at : (x : K) (es : List (K × X)) (i : ℕ) (e : K × X) → T (below_all R x es) → slice_get es i ≡ Some e → R x e.0 ≡ Less
  below_at x [] i e below is = absurd (none-some e is)
  below_at x (y ∷ es) zero e below is = subst (λ (z : K × X). R x z.0 ≡ Less) (same_Some y e is) (less _ (first _ _ below))
  below_at x (y ∷ es) (suc i) e below is = below_at x es i e (second _ _ below) is

  found_at : (es : List (K × X)) (i : ℕ) (e : K × X) → T (is_sorted R es) → slice_get es i ≡ Some e → find R e.0 es ≡ Some e.1
  found_at [] i e sorted is = absurd (none-some e is)
  found_at (x ∷ es) zero e sorted is = subst (λ (z : K × X). find R z.0 (x ∷ es) ≡ Some z.1) (same_Some x e is)
      (ap (λ r. cond (is_eq r) (Some x.1) (find R x.0 es)) (tied_itself o x.0))
  found_at (x ∷ es) (suc i) e sorted is =
      ap (λ r. cond (is_eq r) (Some x.1) (find R e.0 es)) (o.antisymm e.0 x.0 ∙ ap ordering_reverse (below_at x.0 es i e (first _ _ sorted) is))
      ∙ found_at es i e (second _ _ sorted) is

-- the list of a transaction is one of its map's entries
pub list_at : (cells : Cells) (h : ℕ) (list : ℕ × List ChangeValue) → slice_get (entries cells.pending) h ≡ Some list
    → list_of cells.pending list.0 ≡ list.1
list_at cells h list is = ap (λ (o : Option (List ChangeValue)). unwrap_or o [])
    (get-entries cells.pending list.0 ∙ found_at nat_cmp_total (entries cells.pending) h list (entries_sorted cells.pending) is)

-- A map with more entries, as tree maps make it.
use Rattle.std.proofs.Common.{◌≡◌, Bool, true, false, cond, List, [], ◌∷◌, ◌++◌, Option, Some, None, refl, sym, ap, ◌∙◌}
use Rattle.std.specs.declared.cmp.Ordering.{Ordering}
use Rattle.std.specs.Ordering.{eq_by_cmp}
use Rattle.std.specs.Cmp.{eq_by_cmp_equiv}
use Rattle.std.specs.List.Sorted.{IsStrictlySortedBy}
use Rattle.std.specs.Map.{lookup, keys_of, update, update_all}
use Rattle.std.specs.Option.{option_or}
use Rattle.std.specs.BTreeMap.{is_at}
use Rattle.std.specs.FinMap.{FinMap, get, insert, from_entries, get-insert}
use Rattle.std.proofs.lemmas.Map.Keys.{IsDistinct-from_sorted}
use Rattle.std.proofs.lemmas.Map.Made.{update_all_distinct}
use Rattle.record_values.specs.Maps.{IsExact, alike}
use Rattle.model.specs.Extended.{extended}
use Rattle.model.proofs.MapLaws.{get-entries}

-- one more entry is set last
pub extended_more : {K X : Type 0} {R : K → K → Ordering} (m : FinMap R X) (es : List (K × X)) (k : K) (v : X)
    → extended m (es ++ (k, v) ∷ []) ≡ insert (extended m es) k v
extended_more m [] k v = refl
extended_more m (e ∷ es) k v = extended_more (insert m e.0 e.1) es k v

step : {X : Type 0} (b : Bool) (v : X) (f g h : Option X) → f ≡ option_or g h → cond b (Some v) f ≡ option_or (cond b (Some v) g) h
step true v f g h is = refl
step false v f g h is = is

module _ {K X : Type 0} (e : K → K → Bool) where
  -- what was set last, or else what was there before
  over : (f g h : K → Option X) (xs : List (K × X)) → ((q : K) → f q ≡ option_or (g q) (h q)) → (q : K)
      → update_all e f xs q ≡ option_or (update_all e g xs q) (h q)
  over f g h [] is q = is q
  over f g h (p ∷ xs) is q = over (update e f p.0 (Some p.1)) (update e g p.0 (Some p.1)) h xs (λ x. step (e p.0 x) p.1 (f x) (g x) (h x) (is x)) q

module _ {K X : Type 0} {R : K → K → Ordering} (o : IsExact R) where
  get-extended : (m : FinMap R X) (f : K → Option X) (xs : List (K × X)) → ((q : K) → get m q ≡ f q) → (q : K)
      → get (extended m xs) q ≡ update_all (eq_by_cmp R) f xs q
  get-extended m f [] is q = is q
  get-extended m f (p ∷ xs) is q = get-extended (insert m p.0 p.1) (update (eq_by_cmp R) f p.0 (Some p.1)) xs
      (λ x. get-insert o.total m p.0 p.1 x ∙ ap (λ b. cond b (Some p.1) (get m x)) ((eq_by_cmp_equiv o.total).symm x p.0)
      ∙ ap (cond (eq_by_cmp R p.0 x) (Some p.1)) (is x)) q

  -- a tree map to which another one is appended, which was made of these entries
  pub extended_map : (es others fs xs : List (K × X)) → ((q : K) → lookup (is_at (R q)) others ≡ update_all (eq_by_cmp R) (λ _. None) xs q)
      → IsStrictlySortedBy R (keys_of others)
      → ((q : K) → lookup (is_at (R q)) fs ≡ update_all (eq_by_cmp R) (λ x. lookup (is_at (R x)) es) others q)
      → from_entries {R = R} fs ≡ extended (from_entries es) xs
  extended_map es others fs xs made sorted appended = alike o _ _ (λ q.
      let before = λ (x : K). lookup (is_at (R x)) es in
      get-entries o fs q ∙ appended q
      ∙ update_all_distinct (eq_by_cmp_equiv o.total) (eq_by_cmp R) (λ x y. refl) before others q (IsDistinct-from_sorted R (keys_of others) sorted)
      ∙ ap (λ r. option_or r (before q)) (made q)
      ∙ sym (over (eq_by_cmp R) before (λ _. None) before xs (λ x. refl) q)
      ∙ sym (get-extended (from_entries es) before xs (get-entries o es) q))

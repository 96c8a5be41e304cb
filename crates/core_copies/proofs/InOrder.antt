-- The entries of a map in their order, from one of them on, as a map.
use Rattle.std.proofs.Common.{Bool, None, length, Some, List, [], ◌∷◌, true, false, cond, ap, refl, subst, sym, ◌&&◌, ◌∙◌, ◌≡◌, ◌≢◌}
use Rattle.std.specs.Prelude.{T}
use Rattle.std.specs.Cmp.{tied_itself}
use Rattle.std.specs.FinMap.{FinMap, empty, empty_of_len, entries, entries-from_sorted, entries_sorted, find, from_sorted, get, get-from_sorted, is_sorted}
use Rattle.std.specs.FinMap.{len-entries, same_entries_map}
use Rattle.std.specs.FinMap.Entries.{below_all}
use Rattle.std.specs.Ordering.{eq_by_cmp, is_lt}
use Rattle.std.specs.declared.cmp.Ordering.{Ordering}
use Rattle.record_values.specs.Maps.{IsExact, alike, get-set_at, key_is, other_key, same_key, set_at}

first : (a b : Bool) → T (a && b) → T a
first true b p = tt
first false b p = p

second : (a b : Bool) → T (a && b) → T b
second true b p = p
second false b p = absurd p

-- what is below another is another
apart : {K : Type 0} {R : K → K → Ordering} (o : IsExact R) (k q : K) → T (is_lt (R k q)) → k ≢ q
apart {R = R} o k q below same = subst (λ r. T (is_lt r)) (ap (R k) (sym same) ∙ tied_itself o.total k) below

module _ {K X : Type 0} {R : K → K → Ordering} (o : IsExact R) where
  none_below : (k : K) (es : List (K × X)) → T (below_all R k es) → find R k es ≡ None
  none_below k [] below = refl
  none_below k (e ∷ es) below =
      ap (λ b. cond b (Some e.1) (find R k es)) (other_key o k e.0 (apart o k e.0 (first _ _ below)))
      ∙ none_below k es (second _ _ below)

  rest_sorted : (e : K × X) (es : List (K × X)) → T (is_sorted R (e ∷ es)) → T (is_sorted R es)
  rest_sorted e es sorted = second _ _ sorted

  -- the first of them is there
  first_there : (e : K × X) (es : List (K × X)) → T (is_sorted R (e ∷ es)) → get (from_sorted {R = R} (e ∷ es)) e.0 ≡ Some e.1
  first_there e es sorted = get-from_sorted R (e ∷ es) e.0 sorted ∙ ap (λ b. cond b (Some e.1) (find R e.0 es)) (same_key o e.0)

  -- and without it the others are left
  others_left : (e : K × X) (es : List (K × X)) → T (is_sorted R (e ∷ es)) → from_sorted es ≡ set_at (from_sorted {R = R} (e ∷ es)) e.0 None
  others_left e es sorted = alike o _ _ (λ q.
      get-from_sorted R es q (rest_sorted e es sorted)
      ∙ by q (eq_by_cmp R q e.0) refl
      ∙ sym (get-set_at o (from_sorted (e ∷ es)) e.0 None q ∙ ap (cond (eq_by_cmp R q e.0) None) (get-from_sorted R (e ∷ es) q sorted)))
    where
      by : (q : K) (b : Bool) → eq_by_cmp R q e.0 ≡ b → find R q es ≡ cond (eq_by_cmp R q e.0) None (cond (eq_by_cmp R q e.0) (Some e.1) (find R q es))
      by q true is = ap (λ k. find R k es) (key_is o q e.0 is) ∙ none_below e.0 es (first _ _ sorted)
          ∙ sym (ap (λ b. cond b None (cond b (Some e.1) (find R q es))) is)
      by q false is = sym (ap (λ b. cond b None (cond b (Some e.1) (find R q es))) is)

  module _ (left : List (K × X)) (e : K × X) (es : List (K × X)) (is : left ≡ e ∷ es) (sorted : T (is_sorted R left)) where
    in_order : T (is_sorted R (e ∷ es))
    in_order = subst (λ xs. T (is_sorted R xs)) is sorted

    pub next_sorted : T (is_sorted R es)
    next_sorted = rest_sorted e es in_order

    pub next_there : get (from_sorted {R = R} left) e.0 ≡ Some e.1
    next_there = ap (λ xs. get (from_sorted {R = R} xs) e.0) is ∙ first_there e es in_order

    pub next_left : from_sorted es ≡ set_at (from_sorted {R = R} left) e.0 None
    next_left = others_left e es in_order ∙ ap (λ xs. set_at (from_sorted {R = R} xs) e.0 None) (sym is)

  -- all of them are the map
  pub all_in_order : (m : FinMap R X) → from_sorted (entries m) ≡ m
  all_in_order m = same_entries_map _ m (entries-from_sorted R (entries m) (entries_sorted m))

  -- and none of them is an empty one
  pub none_in_order : (es : List (K × X)) → es ≡ [] → from_sorted {R = R} es ≡ empty
  none_in_order es none = ap from_sorted none ∙ empty_of_len (from_sorted []) (len-entries (from_sorted [])
      ∙ ap (λ xs. length xs) (entries-from_sorted {X = X} R [] tt))

-- Maps that grow at their end, what they have at the key of an entry, and what comes behind it.
use Rattle.std.proofs.Common.{◌≡◌, ℕ, zero, suc, ◌+◌, Bool, true, false, cond, ◌&&◌, List, [], ◌∷◌, ◌++◌, length, drop, Bor, Option, Some, None, refl, sym, ap}
use Rattle.std.proofs.Common.{◌∙◌, subst, arith}
use Rattle.std.specs.Prelude.{slice_get, T}
use Rattle.std.specs.declared.cmp.Ordering.{Ordering}
use Rattle.std.specs.declared.cmp.Ordering.TheVariants.{Less, Equal, Greater}
use Rattle.std.specs.Ordering.{is_eq, is_lt, ordering_reverse}
use Rattle.std.specs.Cmp.{IsTotalOrder, tied_itself}
use Rattle.std.specs.FinMap.{FinMap, entries, entries_sorted, entries-insert, find, get, get-entries, insert, put, is_sorted}
use Rattle.std.specs.FinMap.Entries.{below_all, by_order}
use Rattle.std.specs.List.{filter}
use Rattle.std.proofs.lemmas.Option.{none-some, same_Some}
use Rattle.model.specs.Above.{entries_above}
use Rattle.store_image_half.specs.Source.{IsNextBehind, IsPassed}
use Rattle.std.specs.Option.{MatchOption, option_map}
use Rattle.std.proofs.lemmas.List.{drop-drop}

first : (a b : Bool) → T (a && b) → T a
first true b p = tt
first false b p = p

second : (a b : Bool) → T (a && b) → T b
second true b p = p
second false b p = absurd p

less : (r : Ordering) → T (is_lt r) → r ≡ Less
less Less p = refl
less Equal p = absurd p
less Greater p = absurd p

none_at : (A : Type 0) (i : ℕ) → slice_get {X = A} [] i ≡ None
none_at A zero = refl
none_at A (suc i) = refl

pub behind : {A : Type 0} (n : ℕ) (xs : List A) (j : ℕ) → slice_get (drop n xs) j ≡ slice_get xs (n + j)
behind zero xs j = ap (slice_get xs) (let e : j ≡ 0 + j = omega arith in e)
behind {A} (suc n) [] j = none_at A j ∙ sym (none_at A (suc n + j))
behind (suc n) (x ∷ xs) j = behind n xs j ∙ ap (slice_get (x ∷ xs)) (let e : suc (n + j) ≡ suc n + j = omega arith in e)

-- the first of what is left of a list, and the rest of it
pub first_left : {K X : Type 0} (all rest new : List (K × X)) (n : ℕ) (next : Option (Bor K × Bor X)) → rest ≡ drop n all
    → MatchOption next ((rest ≡ []) × (new ≡ [])) (λ e. rest ≡ (e.0.now, e.1.now) ∷ new)
    → (option_map (λ e. (e.0.now, e.1.now)) next ≡ slice_get all n) × (new ≡ drop (n + 1) all)
first_left all rest new n None is taken = (
  ap (λ (es : List _). slice_get es 0) (sym taken.0 ∙ is) ∙ behind n all 0 ∙ ap (slice_get all) (omega arith),
  taken.1 ∙ ap (drop 1) (sym taken.0 ∙ is) ∙ drop-drop 1 n all,
)
first_left all rest new n (Some e) is taken = (
  ap (λ (es : List _). slice_get es 0) (sym taken ∙ is) ∙ behind n all 0 ∙ ap (slice_get all) (omega arith),
  ap (drop 1) (sym taken ∙ is) ∙ drop-drop 1 n all,
)

module _ {K X : Type 0} {R : K → K → Ordering} (o : IsTotalOrder R) where
  -- each of these keys is below k
  abbrev pub AreBelow : K → List (K × X) → Type 0
  AreBelow k [] = Unit {0}
  AreBelow k (e ∷ es) = (R e.0 k ≡ Less) × AreBelow k es

  put_last : (k : K) (v : X) (es : List (K × X)) → AreBelow k es → put R k v es ≡ es ++ (k, v) ∷ []
  put_last k v [] h = refl
  put_last k v (e ∷ es) h =
      ap (λ r. by_order r ((k, v) ∷ e ∷ es) ((e.0, v) ∷ es) (e ∷ put R k v es)) (o.antisymm k e.0 ∙ ap ordering_reverse h.0)
      ∙ ap (λ (t : List (K × X)). e ∷ t) (put_last k v es h.1)

  -- what is above the last key of a list in order is above each
  above_last : (k : K) (es : List (K × X)) (m : ℕ) (e : K × X) → T (is_sorted R es) → length es ≡ m + 1 → slice_get es m ≡ Some e → R e.0 k ≡ Less
      → AreBelow k es
  above_last k [] m e sorted long is above = tt
  above_last k (x ∷ []) zero e sorted long is above = (subst (λ (y : K × X). R y.0 k ≡ Less) (sym (same_Some x e is)) above, tt)
  above_last k (x ∷ []) (suc m) e sorted long is above = absurd (none-some e is)
  above_last k (x ∷ y ∷ es) zero e sorted long is above = absurd (omega (arith, long))
  above_last k (x ∷ y ∷ es) (suc m) e sorted long is above =
      let rest = above_last k (y ∷ es) m e (second _ _ sorted) (omega (arith, long)) is above in
      (o.trans x.0 y.0 k (less _ (first _ _ (first _ _ sorted))) rest.0, rest)

  -- an entry that is put behind the last one
  pub entries-insert_last : (m : FinMap R X) (k : K) (v : X) → AreBelow k (entries m) → entries (insert m k v) ≡ entries m ++ (k, v) ∷ []
  entries-insert_last m k v below = entries-insert o m k v ∙ put_last k v (entries m) below

  pub below_first : (m : FinMap R X) (k : K) → length (entries m) ≡ 0 → AreBelow k (entries m)
  below_first m k none = none_below (entries m) none
    where
      none_below : (es : List (K × X)) → length es ≡ 0 → AreBelow k es
      none_below [] e = tt
      none_below (x ∷ es) e = absurd (omega (arith, e))

  pub below_next : (m : FinMap R X) (k : K) (n : ℕ) (e : K × X) → length (entries m) ≡ n + 1 → slice_get (entries m) n ≡ Some e → R e.0 k ≡ Less
      → AreBelow k (entries m)
  below_next m k n e long is above = above_last k (entries m) n e (entries_sorted m) long is above

  -- ---- the value of an entry is what the map has at its key

  below_at : (x : K) (es : List (K × X)) (i : ℕ) (e : K × X) → T (below_all R x es) → slice_get es i ≡ Some e → R x e.0 ≡ Less
  below_at x [] i e below is = absurd (none-some e is)
  below_at x (y ∷ es) zero e below is = subst (λ (z : K × X). R x z.0 ≡ Less) (same_Some y e is) (less _ (first _ _ below))
  below_at x (y ∷ es) (suc i) e below is = below_at x es i e (second _ _ below) is

  find_at : (es : List (K × X)) (i : ℕ) (e : K × X) → T (is_sorted R es) → slice_get es i ≡ Some e → find R e.0 es ≡ Some e.1
  find_at [] i e sorted is = absurd (none-some e is)
  find_at (x ∷ es) zero e sorted is = subst (λ (z : K × X). find R z.0 (x ∷ es) ≡ Some z.1) (same_Some x e is)
      (ap (λ r. cond (is_eq r) (Some x.1) (find R x.0 es)) (tied_itself o x.0))
  find_at (x ∷ es) (suc i) e sorted is =
      ap (λ r. cond (is_eq r) (Some x.1) (find R e.0 es)) (o.antisymm e.0 x.0 ∙ ap ordering_reverse (below_at x.0 es i e (first _ _ sorted) is))
      ∙ find_at es i e (second _ _ sorted) is

  pub get_at : (m : FinMap R X) (i : ℕ) (e : K × X) → slice_get (entries m) i ≡ Some e → get m e.0 ≡ Some e.1
  get_at m i e is = get-entries m e.0 ∙ find_at (entries m) i e (entries_sorted m) is

  -- ---- what is above the key of an entry begins with the entry behind it

  -- the entries of this list whose keys are above k
  above : K → List (K × X) → List (K × X)
  above k es = filter (λ e. is_lt (R k e.0)) es

  above_each : (k : K) (es : List (K × X)) → T (below_all R k es) → slice_get (above k es) 0 ≡ slice_get es 0
  unfolding above
  above_each k [] h = refl
  above_each k (e ∷ es) h = ap (λ r. slice_get (cond (is_lt r) (e ∷ above k es) (above k es)) 0) (less _ (first _ _ h))

  above_at : (k : K) (v : X) (es : List (K × X)) (i : ℕ) → T (is_sorted R es) → slice_get es i ≡ Some (k, v) → slice_get (above k es) 0 ≡ slice_get es (suc i)
  unfolding above
  above_at k v [] i sorted is = absurd (none-some (k, v) is)
  above_at k v (e ∷ es) zero sorted is =
      let key : e.0 ≡ k = ap (λ (x : K × X). x.0) (same_Some e (k, v) is) in
      ap (λ r. slice_get (cond (is_lt r) (e ∷ above k es) (above k es)) 0) (ap (R k) key ∙ tied_itself o k)
      ∙ above_each k es (subst (λ x. T (below_all R x es)) key (first _ _ sorted))
  above_at k v (e ∷ es) (suc i) sorted is =
      ap (λ r. slice_get (cond (is_lt r) (e ∷ above k es) (above k es)) 0) (o.antisymm k e.0
      ∙ ap ordering_reverse (below_at e.0 es i (k, v) (first _ _ sorted) is))
      ∙ above_at k v es i (second _ _ sorted) is

  above_whole : (k : K) (es : List (K × X)) → T (below_all R k es) → above k es ≡ es
  unfolding above
  above_whole k [] h = refl
  above_whole k (e ∷ es) h = ap (λ r. cond (is_lt r) (e ∷ above k es) (above k es)) (less _ (first _ _ h))
      ∙ ap (λ (t : List (K × X)). e ∷ t) (above_whole k es (second _ _ h))

  above_behind : (k : K) (v : X) (es : List (K × X)) (i : ℕ) → T (is_sorted R es) → slice_get es i ≡ Some (k, v) → above k es ≡ drop (suc i) es
  unfolding above
  above_behind k v [] i sorted is = absurd (none-some (k, v) is)
  above_behind k v (e ∷ es) zero sorted is =
      let key : e.0 ≡ k = ap (λ (x : K × X). x.0) (same_Some e (k, v) is) in
      ap (λ r. cond (is_lt r) (e ∷ above k es) (above k es)) (ap (R k) key ∙ tied_itself o k)
      ∙ above_whole k es (subst (λ x. T (below_all R x es)) key (first _ _ sorted))
  above_behind k v (e ∷ es) (suc i) sorted is =
      ap (λ r. cond (is_lt r) (e ∷ above k es) (above k es)) (o.antisymm k e.0 ∙ ap ordering_reverse (below_at e.0 es i (k, v) (first _ _ sorted) is))
      ∙ above_behind k v es i (second _ _ sorted) is

  -- what is above a key that so many entries have passed are the entries behind them
  pub passed_above : (m : FinMap R X) (key : Option K) (n j : ℕ) → IsPassed (entries m) n key
      → slice_get (entries_above m key) j ≡ slice_get (entries m) (n + j)
  unfolding above
  passed_above m None n j is = ap (slice_get (entries m)) (omega (arith, is))
  passed_above m (Some k) n j (i, v, count, at) =
      ap (λ (es : List (K × X)). slice_get es j) (above_behind k v (entries m) i (entries_sorted m) at)
      ∙ behind (suc i) (entries m) j ∙ ap (slice_get (entries m)) (omega (arith, count))

  pub next_above : (m : FinMap R X) (key : Option K) (next : Option (K × X)) → next ≡ slice_get (entries_above m key) 0 → IsNextBehind (entries m) key next
  unfolding above
  next_above m None next is = is
  next_above m (Some k) next is = λ i v at. is ∙ above_at k v (entries m) i (entries_sorted m) at ∙ ap (slice_get (entries m)) (omega arith)

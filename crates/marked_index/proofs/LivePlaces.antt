-- Of each index and key there is the list of the places of the key's live entries.
use Rattle.std.proofs.Common.{◌≡◌, ℕ, Bool, true, false, cond, ◌&&◌, List, [], ◌∷◌, Some, None, Contains, inl, inr, refl, sym, ap, subst, arith, ◌∙◌}
use Rattle.std.proofs.lemmas.List.Elements.{Contains-append_cases, Contains-append_left, Contains-append_right, Contains-push, Contains-push_cases}
use Rattle.std.specs.Cmp.Lexicographic.{nat_list_cmp_total, slice_cmp}
use Rattle.std.specs.FinMap as map
use Rattle.std.specs.FinMap.{nat_cmp-IsAntisymmetric, slice_cmp-IsAntisymmetric}
use Rattle.std.specs.FinMap.Entries.{below_all, is_sorted}
use Rattle.std.specs.List.{AllByRecursion}
use Rattle.std.specs.List.Sorted.{IsStrictlySortedBy}
use Rattle.std.specs.Ordering.{eq_by_cmp, is_eq, is_lt, nat_cmp}
use Rattle.std.specs.Prelude.{T, ◌↔◌}
use Rattle.std.specs.declared.cmp.Ordering.{Ordering}
use Rattle.std.specs.declared.cmp.Ordering.TheVariants.{Less, Equal, Greater}
use Rattle.record_values.specs.Maps.{IsExact, key_is, pair_exact, same_key}
use Rattle.record_values.specs.Orders.{pair_cmp, rid_cmp}
use Rattle.record_values.specs.Values.{Place}
use Rattle.record_values.specs.declared.pair.Mark.{Mark}
use Rattle.record_values.specs.declared.pair.Mark.TheVariants.{Live, Marked}
use Rattle.record_values.specs.declared.pair.Pair.{Pair}
use Rattle.record_values.specs.Entries.{Index}
use Rattle.marked_index.specs.Shown.{mark_at}
use Rattle.marked_index.proofs.Places.{pair_at, pair_cmp-one_key}

abbrev Entry : Type 0
Entry = Pair × Mark

first : (a b : Bool) → T (a && b) → T a
first true b h = tt
first false b h = absurd h

second : (a b : Bool) → T (a && b) → T b
second true b h = h
second false b h = absurd h

less_is : (o : Ordering) → T (is_lt o) → o ≡ Less
less_is Less h = refl
less_is Equal h = absurd h
less_is Greater h = absurd h

key_exact : IsExact (slice_cmp nat_cmp)
key_exact = record { total = nat_list_cmp_total; only_equal = slice_cmp-IsAntisymmetric nat_cmp-IsAntisymmetric }

-- ---- the list
abbrev is_live : Mark → Bool
is_live Live = true
is_live Marked = false

live_is : (mark : Mark) → T (is_live mark) → mark ≡ Live
live_is Live h = refl
live_is Marked h = absurd h

-- whether it is a live entry of the key
abbrev is_of : List ℕ → Entry → Bool
is_of key e = eq_by_cmp (slice_cmp nat_cmp) e.0.key key && is_live e.1

abbrev live_in : List ℕ → List Entry → List Place
live_in key [] = []
live_in key (e ∷ es) = cond (is_of key e) (e.0.rid ∷ live_in key es) (live_in key es)

module _ (key : List ℕ) (e : Entry) (is : is_of key e ≡ true) where
  holds : T (is_of key e)
  holds = subst T (sym is) tt

  mark_is : e.1 ≡ Live
  mark_is = live_is e.1 (second (eq_by_cmp (slice_cmp nat_cmp) e.0.key key) (is_live e.1) holds)

  key_same : e.0.key ≡ key
  key_same = key_is key_exact e.0.key key (true_is _ (first (eq_by_cmp (slice_cmp nat_cmp) e.0.key key) (is_live e.1) holds))
    where
      true_is : (b : Bool) → T b → b ≡ true
      true_is true h = refl
      true_is false h = absurd h

  pair_is : e.0 ≡ pair_at key e.0.rid
  pair_is = λ i. record { key = key_same i; rid = e.0.rid }

is_one : (key : List ℕ) (e : Entry) (r : Place) → pair_at key r ≡ e.0 → e.1 ≡ Live → is_of key e ≡ true
is_one key e r same live =
    ap (λ (p : Pair). eq_by_cmp (slice_cmp nat_cmp) p.key key && is_live e.1) (sym same)
    ∙ ap (λ b. b && is_live e.1) (same_key key_exact key)
    ∙ ap is_live live

-- ---- it is in order
above_by : (key : List ℕ) (r : Place) (e : Entry) (es : List Entry) (b : Bool) → is_of key e ≡ b → T (is_lt (pair_cmp (pair_at key r) e.0))
    → AllByRecursion (λ s. rid_cmp r s ≡ Less) (live_in key es)
    → AllByRecursion (λ s. rid_cmp r s ≡ Less) (cond b (e.0.rid ∷ live_in key es) (live_in key es))
above_by key r e es true is h rest = (
  sym (pair_cmp-one_key key r e.0.rid) ∙ ap (pair_cmp (pair_at key r)) (sym (pair_is key e is))
      ∙ less_is (pair_cmp (pair_at key r) e.0) h,
  rest,
)
above_by key r e es false is h rest = rest

all_above : (key : List ℕ) (r : Place) (es : List Entry) → T (below_all pair_cmp (pair_at key r) es) → AllByRecursion (λ s. rid_cmp r s ≡ Less) (live_in key es)
all_above key r [] h = tt
all_above key r (e ∷ es) h = above_by key r e es (is_of key e) refl (first _ _ h) (all_above key r es (second _ _ h))

sorted_by : (key : List ℕ) (e : Entry) (es : List Entry) (b : Bool) → is_of key e ≡ b → T (below_all pair_cmp e.0 es)
    → IsStrictlySortedBy rid_cmp (live_in key es) → IsStrictlySortedBy rid_cmp (cond b (e.0.rid ∷ live_in key es) (live_in key es))
unfolding IsStrictlySortedBy
sorted_by key e es true is h rest = (all_above key e.0.rid es (subst (λ p. T (below_all pair_cmp p es)) (pair_is key e is) h), rest)
sorted_by key e es false is h rest = rest

in_order : (key : List ℕ) (es : List Entry) → T (is_sorted pair_cmp es) → IsStrictlySortedBy rid_cmp (live_in key es)
unfolding IsStrictlySortedBy
in_order key [] h = tt
in_order key (e ∷ es) h = sorted_by key e es (is_of key e) refl (first _ _ h) (in_order key es (second _ _ h))

-- ---- it has each live place, and no other
none_below : (p : Pair) (es : List Entry) → T (below_all pair_cmp p es) → map.find pair_cmp p es ≡ None
none_below p [] h = refl
none_below p (e ∷ es) h = ap (λ o. cond (is_eq o) (Some e.1) (map.find pair_cmp p es)) (less_is (pair_cmp p e.0) (first _ _ h)) ∙ none_below p es (second _ _ h)

-- what is found behind an entry is no entry of its pair
behind : (p : Pair) (e : Entry) (es : List Entry) (x : Mark) (b : Bool) → eq_by_cmp pair_cmp p e.0 ≡ b → T (below_all pair_cmp e.0 es)
    → map.find pair_cmp p es ≡ Some x → cond b (Some e.1) (map.find pair_cmp p es) ≡ Some x
behind p e es x true t h found = absurd (cc (ap (λ q. map.find pair_cmp q es) (key_is pair_exact p e.0 t), found, none_below e.0 es h))
behind p e es x false t h found = found

found_by : (key : List ℕ) (e : Entry) (es : List Entry) (r : Place) (b : Bool) → is_of key e ≡ b → T (below_all pair_cmp e.0 es)
    → (Contains (live_in key es) r → map.find pair_cmp (pair_at key r) es ≡ Some Live)
    → Contains (cond b (e.0.rid ∷ live_in key es) (live_in key es)) r → map.find pair_cmp (pair_at key r) (e ∷ es) ≡ Some Live
found_by key e es r false is h rest c = behind (pair_at key r) e es Live (eq_by_cmp pair_cmp (pair_at key r) e.0) refl h (rest c)
found_by key e es r true is h rest c = elim (Contains-append_cases (e.0.rid ∷ []) (live_in key es) r c) [
  | inl here ↦ elim (Contains-push_cases [] e.0.rid r here) [
    | inl none ↦ absurd (omega (arith, none.1))
    | inr same ↦
        let p : pair_at key r ≡ e.0 = ap (pair_at key) (sym same) ∙ sym (pair_is key e is) in
        ap (λ b. cond b (Some e.1) (map.find pair_cmp (pair_at key r) es)) (ap (λ q. eq_by_cmp pair_cmp q e.0) p ∙ same_key pair_exact e.0)
        ∙ ap Some (mark_is key e is)
  ]
  | inr later ↦ behind (pair_at key r) e es Live (eq_by_cmp pair_cmp (pair_at key r) e.0) refl h (rest later)
]

found : (key : List ℕ) (r : Place) (es : List Entry) → T (is_sorted pair_cmp es) → Contains (live_in key es) r
    → map.find pair_cmp (pair_at key r) es ≡ Some Live
found key r [] h c = absurd (omega (arith, c.1))
found key r (e ∷ es) h c = found_by key e es r (is_of key e) refl (first _ _ h) (found key r es (second _ _ h)) c

listed_by : (key : List ℕ) (e : Entry) (es : List Entry) (r : Place) (b : Bool) → Contains (live_in key es) r
    → Contains (cond b (e.0.rid ∷ live_in key es) (live_in key es)) r
listed_by key e es r true c = Contains-append_right (e.0.rid ∷ []) (live_in key es) r c
listed_by key e es r false c = c

some_is : (x y : Mark) → Some x ≡ Some y → x ≡ y
some_is x y e = cc

listed_here : (key : List ℕ) (e : Entry) (es : List Entry) (r : Place) (b : Bool) → eq_by_cmp pair_cmp (pair_at key r) e.0 ≡ b
    → (map.find pair_cmp (pair_at key r) es ≡ Some Live → Contains (live_in key es) r)
    → cond b (Some e.1) (map.find pair_cmp (pair_at key r) es) ≡ Some Live → Contains (live_in key (e ∷ es)) r
listed_here key e es r false t rest is = listed_by key e es r (is_of key e) (rest is)
listed_here key e es r true t rest is =
    let same : pair_at key r ≡ e.0 = key_is pair_exact (pair_at key r) e.0 t in
    let one : is_of key e ≡ true = is_one key e r same (some_is e.1 Live is) in
    subst (λ b. Contains (cond b (e.0.rid ∷ live_in key es) (live_in key es)) r) (sym one)
    (subst (λ q. Contains (q ∷ live_in key es) r) (ap (λ (p : Pair). p.rid) same) (Contains-append_left (r ∷ []) (live_in key es) r (Contains-push [] r)))

listed : (key : List ℕ) (r : Place) (es : List Entry) → map.find pair_cmp (pair_at key r) es ≡ Some Live → Contains (live_in key es) r
listed key r [] e = absurd (cc (e))
listed key r (e ∷ es) is = listed_here key e es r (eq_by_cmp pair_cmp (pair_at key r) e.0) refl (listed key r es) is

-- the places of the live entries of a key, ascending
pub live_places : (m : Index) (key : List ℕ) → (rids : List Place) × IsStrictlySortedBy rid_cmp rids
    × ((r : Place) → Contains rids r ↔ (mark_at m key r ≡ Some Live))
live_places m key = (
  live_in key (map.entries m),
  in_order key (map.entries m) (map.entries_sorted m),
  λ r. (
    λ c. map.get-entries m (pair_at key r) ∙ found key r (map.entries m) (map.entries_sorted m) c,
    λ live. listed key r (map.entries m) (sym (map.get-entries m (pair_at key r)) ∙ live),
  ),
)

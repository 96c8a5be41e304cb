-- The visible pairs are those of the live entries, in order.
use Rattle.std.proofs.Common.{◌≡◌, Bool, true, false, cond, T, List, [], ◌∷◌, map, filter, Option, Some, None, Contains, inl, inr, refl, ap, sym, subst, ◌∙◌}
use Rattle.std.proofs.lemmas.Bool.{and_from, and_parts, false≢true}
use Rattle.std.specs.Prelude.{◌↔◌}
use Rattle.std.specs.FinMap.{entries, entries_sorted, find, get, get-entries}
use Rattle.std.specs.FinMap.Entries.{below_all, is_sorted}
use Rattle.std.specs.List.{AllByRecursion}
use Rattle.std.specs.List.Sorted.{IsStrictlySortedBy}
use Rattle.std.specs.Ordering.{eq_by_cmp}
use Rattle.std.specs.declared.cmp.Ordering.TheVariants.{Less}
use Rattle.record_values.specs.Maps.{key_is, pair_exact, same_key}
use Rattle.record_values.specs.Orders.{pair_cmp}
use Rattle.record_values.specs.declared.pair.Mark.{Mark}
use Rattle.record_values.specs.declared.pair.Mark.TheVariants.{Live, Marked}
use Rattle.record_values.specs.declared.pair.Pair.{Pair}
use Rattle.record_values.specs.Entries.{Index}
use Rattle.entry_scan.specs.Ranges.{is_within}
use Rattle.entry_scan.specs.Visible.{is_live, is_shown, visible}
use Rattle.entry_scan.specs.declared.range.KeyRange.{KeyRange}
use Rattle.entry_scan.proofs.Filtered.{has_cases, has_first, has_later, none_has}
use Rattle.entry_scan.proofs.Stepped.{Entry, first, less_is, none_below, second}

live_is : (mark : Mark) → is_live mark ≡ true → mark ≡ Live
live_is Live is = refl
live_is Marked is = absurd (false≢true is)

no_mark : (x : Mark) → (◌≡◌ {A = Option Mark} None (Some x)) → ⊥
no_mark x e = absurd cc

same_mark : (x y : Mark) → (◌≡◌ {A = Option Mark} (Some x) (Some y)) → x ≡ y
same_mark x y e = cc

module _ (range : KeyRange) where
  -- the visible pairs of these entries
  abbrev pub shown_in : List Entry → List Pair
  shown_in es = map (λ (e : Entry). e.0) (filter (is_shown range) es)

  -- ---- in order
  all_above : (p : Pair) (es : List Entry) → T (below_all pair_cmp p es) → AllByRecursion (λ q. pair_cmp p q ≡ Less) (shown_in es)
  all_above p [] h = tt
  all_above p (e ∷ es) h = by (is_shown range e) (all_above p es (second _ _ h))
    where
      by : (b : Bool) → AllByRecursion (λ q. pair_cmp p q ≡ Less) (shown_in es)
          → AllByRecursion (λ q. pair_cmp p q ≡ Less) (map (λ (x : Entry). x.0) (cond b (e ∷ filter (is_shown range) es) (filter (is_shown range) es)))
      by true rest = (less_is (pair_cmp p e.0) (first _ _ h), rest)
      by false rest = rest

  sorted_by : (e : Entry) (es : List Entry) (b : Bool) → AllByRecursion (λ q. pair_cmp e.0 q ≡ Less) (shown_in es) → IsStrictlySortedBy pair_cmp (shown_in es)
      → IsStrictlySortedBy pair_cmp (map (λ (x : Entry). x.0) (cond b (e ∷ filter (is_shown range) es) (filter (is_shown range) es)))
  unfolding IsStrictlySortedBy
  sorted_by e es true above rest = (above, rest)
  sorted_by e es false above rest = rest

  in_order : (es : List Entry) → T (is_sorted pair_cmp es) → IsStrictlySortedBy pair_cmp (shown_in es)
  unfolding IsStrictlySortedBy
  in_order [] h = tt
  in_order (e ∷ es) h = sorted_by e es (is_shown range e) (all_above e.0 es (first _ _ h)) (in_order es (second _ _ h))

  -- ---- each live entry, and no other
  abbrev pub IsSeen : List Entry → Pair → Type 0
  IsSeen es p = (find pair_cmp p es ≡ Some Live) × (is_within range p.key ≡ true)

  -- what is found behind an entry is no entry of its pair
  behind : (p : Pair) (e : Entry) (es : List Entry) (b : Bool) → eq_by_cmp pair_cmp p e.0 ≡ b → T (below_all pair_cmp e.0 es) → find pair_cmp p es ≡ Some Live
      → cond b (Some e.1) (find pair_cmp p es) ≡ Some Live
  behind p e es true tie h found = absurd (no_mark Live (sym (none_below e.0 es h) ∙ ap (λ q. find pair_cmp q es) (sym (key_is pair_exact p e.0 tie)) ∙ found))
  behind p e es false tie h found = found

  seen : (p : Pair) (es : List Entry) → T (is_sorted pair_cmp es) → Contains (shown_in es) p → IsSeen es p
  seen p [] h c = absurd (none_has p c)
  seen p (e ∷ es) h c = by (seen p es (second _ _ h)) (is_shown range e) refl c
    where
      later : IsSeen es p → IsSeen (e ∷ es) p
      later rest = (behind p e es (eq_by_cmp pair_cmp p e.0) refl (first _ _ h) rest.0, rest.1)

      here : is_shown range e ≡ true → e.0 ≡ p → IsSeen (e ∷ es) p
      here shown same =
          let parts = and_parts (is_live e.1) (is_within range e.0.key) shown in (
            ap (λ b. cond b (Some e.1) (find pair_cmp p es)) (ap (eq_by_cmp pair_cmp p) same ∙ same_key pair_exact p) ∙ ap Some (live_is e.1 parts.0),
            ap (λ (q : Pair). is_within range q.key) (sym same) ∙ parts.1,
          )

      by : (Contains (shown_in es) p → IsSeen es p) → (b : Bool) → is_shown range e ≡ b
          → Contains (map (λ (x : Entry). x.0) (cond b (e ∷ filter (is_shown range) es) (filter (is_shown range) es))) p → IsSeen (e ∷ es) p
      by all true shown c = elim (has_cases e.0 (shown_in es) p c) [ inl same ↦ here shown same | inr rest ↦ later (all rest) ]
      by all false shown c = later (all c)

  listed : (p : Pair) (es : List Entry) → find pair_cmp p es ≡ Some Live → is_within range p.key ≡ true → Contains (shown_in es) p
  listed p [] found within = absurd (no_mark Live found)
  listed p (e ∷ es) found within = by (λ is. listed p es is within) (eq_by_cmp pair_cmp p e.0) refl found
    where
      later : (b : Bool) → Contains (shown_in es) p
          → Contains (map (λ (x : Entry). x.0) (cond b (e ∷ filter (is_shown range) es) (filter (is_shown range) es))) p
      later true rest = has_later e.0 (shown_in es) p rest
      later false rest = rest

      here : (b : Bool) → b ≡ true → e.0 ≡ p → Contains (map (λ (x : Entry). x.0) (cond b (e ∷ filter (is_shown range) es) (filter (is_shown range) es))) p
      here true is same = subst (Contains (e.0 ∷ shown_in es)) same (has_first e.0 (shown_in es))
      here false is same = absurd (false≢true is)

      by : (find pair_cmp p es ≡ Some Live → Contains (shown_in es) p) → (b : Bool) → eq_by_cmp pair_cmp p e.0 ≡ b
          → cond b (Some e.1) (find pair_cmp p es) ≡ Some Live → Contains (shown_in (e ∷ es)) p
      by all true tie is =
          let same : p ≡ e.0 = key_is pair_exact p e.0 tie in
          here (is_shown range e)
          (and_from (is_live e.1) (is_within range e.0.key) (ap is_live (same_mark e.1 Live is)) (ap (λ (q : Pair). is_within range q.key) (sym same) ∙ within))
          (sym same)
      by all false tie is = later (is_shown range e) (all is)

-- ---- of an index

pub visible_sorted : (index : Index) (range : KeyRange) → IsStrictlySortedBy pair_cmp (visible index range)
visible_sorted index range = in_order range (entries index) (entries_sorted index)

pub visible_each : (index : Index) (range : KeyRange) (p : Pair)
    → Contains (visible index range) p ↔ ((get index p ≡ Some Live) × (is_within range p.key ≡ true))
visible_each index range p = (
  λ c. let s = seen range p (entries index) (entries_sorted index) c in (get-entries index p ∙ s.0, s.1),
  λ s. listed range p (entries index) (sym (get-entries index p) ∙ s.0) s.1,
)

-- A walk over an index from its end, one entry after another.
use Rattle.std.proofs.Common.{◌≡◌, ◌<◌, Bool, true, false, cond, not, T, List, [], ◌∷◌, ◌++◌, length, map, filter, Option, Some, None}
use Rattle.std.proofs.Common.{inl, inr, refl, ap, sym, ◌∙◌, arith, length-append}
use Rattle.std.proofs.lemmas.Bool.{and_left, and_parts, and_right, cases_Bool}
use Rattle.std.proofs.lemmas.List.Elements.{filter-append}
use Rattle.std.proofs.lemmas.List.{map-append}
use Rattle.std.specs.BTreeMap.Range.{is_from_start, is_past_end}
use Rattle.std.specs.FinMap.{entries, entries_sorted, find, get-entries}
use Rattle.std.specs.FinMap.Entries.{below_all, is_sorted}
use Rattle.std.specs.Ordering.{eq_by_cmp, is_eq, is_lt, ordering_reverse}
use Rattle.std.specs.Prelude.{reverse}
use Rattle.std.specs.declared.cmp.Ordering.{Ordering}
use Rattle.std.specs.declared.cmp.Ordering.TheVariants.{Equal, Greater, Less}
use Rattle.record_values.specs.Maps.{pair_exact}
use Rattle.record_values.specs.Orders.{pair_cmp, pair_cmp_total}
use Rattle.record_values.specs.declared.pair.Pair.{Pair}
use Rattle.record_values.specs.Entries.{Index}
use Rattle.btree_node.specs.Below.{IsBefore, IsGreatestBelow}
use Rattle.entry_scan.specs.Backward.{is_before, left_before}
use Rattle.entry_scan.specs.Ranges.{is_within}
use Rattle.entry_scan.specs.Visible.{is_live, is_shown}
use Rattle.entry_scan.specs.declared.range.KeyRange.{KeyRange}
use Rattle.entry_scan.proofs.Filtered.{filter-map, filter_apart, filter_swap, filter_under}
use Rattle.entry_scan.proofs.KeyOrder.{before_earlier, is_less, key_cmp, not_before_itself, unbegun_earlier}
use Rattle.entry_scan.proofs.Reversed.{last_is_first}
use Rattle.entry_scan.proofs.Stepped.{Entry, below_more, first, found_first, later_none, less_is, no_mark, none_below, same_mark, second}

-- ---- the entries of a list that come before a pair

abbrev pub ahead : Option Pair → List Entry → List Entry
ahead end es = filter (λ e. is_before end e.0) es

keep_one : (end : Option Pair) (x : Entry) (es : List Entry) (b : Bool) → is_before end x.0 ≡ b
    → ahead end (x ∷ es) ≡ cond b (x ∷ ahead end es) (ahead end es)
keep_one end x es b is = ap (λ t. cond t (x ∷ ahead end es) (ahead end es)) is

-- none of those behind a pair is before it
none_ahead : (p : Pair) (es : List Entry) → T (below_all pair_cmp p es) → ahead (Some p) es ≡ []
none_ahead p [] h = refl
none_ahead p (e ∷ es) h =
    keep_one (Some p) e es false (ap is_lt (pair_cmp_total.antisymm e.0 p ∙ ap ordering_reverse (less_is (pair_cmp p e.0) (first _ _ h))))
    ∙ none_ahead p es (second _ _ h)

-- where no pair before the end has an entry, none is ahead
nothing_ahead : (end : Option Pair) (es : List Entry) → ((q : Pair) → is_before end q ≡ true → find pair_cmp q es ≡ None) → ahead end es ≡ []
nothing_ahead end [] none = refl
nothing_ahead end (e ∷ es) none =
    elim (cases_Bool (is_before end e.0)) [
      | inl before ↦ absurd (no_mark e.1 (sym (found_first e es) ∙ none e.0 before))
      | inr behind ↦ keep_one end e es false behind
          ∙ nothing_ahead end es (λ q before. later_none (eq_by_cmp pair_cmp q e.0) e.1 (find pair_cmp q es) (none q before))
    ]

-- nor where none of those that are behind a pair has one
nothing_between : (end : Option Pair) (p : Pair) (es : List Entry) → T (below_all pair_cmp p es)
    → ((q : Pair) → is_before end q ≡ true → pair_cmp p q ≡ Less → find pair_cmp q es ≡ None) → ahead end es ≡ []
nothing_between end p [] h none = refl
nothing_between end p (e ∷ es) h none =
    elim (cases_Bool (is_before end e.0)) [
      | inl before ↦ absurd (no_mark e.1 (sym (found_first e es) ∙ none e.0 before (less_is (pair_cmp p e.0) (first _ _ h))))
      | inr behind ↦ keep_one end e es false behind ∙ nothing_between end p es (second _ _ h) (λ q before less.
          later_none (eq_by_cmp pair_cmp q e.0) e.1 (find pair_cmp q es) (none q before less))
    ]

module _ (end : Option Pair) (e : Entry) (before : is_before end e.0 ≡ true) where
  abbrev IsGreatestIn : List Entry → Type 0
  IsGreatestIn es = (q : Pair) → is_before end q ≡ true → pair_cmp e.0 q ≡ Less → find pair_cmp q es ≡ None

  -- the entries before the end have the greatest of them last
  last_ahead : (es : List Entry) → T (is_sorted pair_cmp es) → find pair_cmp e.0 es ≡ Some e.1 → IsGreatestIn es
      → ahead end es ≡ ahead (Some e.0) es ++ e ∷ []
  last_ahead [] sorted here none = absurd (no_mark e.1 (sym here))
  last_ahead (x ∷ es) sorted here none = by (last_ahead es (second _ _ sorted)) (pair_cmp e.0 x.0) refl
    where
      here_by : (o : Ordering) → pair_cmp e.0 x.0 ≡ o → cond (is_eq o) (Some x.1) (find pair_cmp e.0 es) ≡ Some e.1
      here_by o is = ap (λ t. cond (is_eq t) (Some x.1) (find pair_cmp e.0 es)) (sym is) ∙ here

      by : (find pair_cmp e.0 es ≡ Some e.1 → IsGreatestIn es → ahead end es ≡ ahead (Some e.0) es ++ e ∷ []) → (o : Ordering) → pair_cmp e.0 x.0 ≡ o
          → ahead end (x ∷ es) ≡ ahead (Some e.0) (x ∷ es) ++ e ∷ []
      by rest Less is = absurd (no_mark e.1 (sym (here_by Less is) ∙ none_below e.0 es (below_more e.0 x.0 is es (first _ _ sorted))))
      by rest Equal is =
          let same : e.0 ≡ x.0 = pair_exact.only_equal e.0 x.0 is in
          let mark : x.1 ≡ e.1 = same_mark x.1 e.1 (here_by Equal is) in
          let back : x.0 ≡ e.0 = sym same in
          let one : x ≡ e = λ i. (back i, mark i) in
          keep_one end x es true (ap (is_before end) back ∙ before)
          ∙ ap (λ (ys : List Entry). x ∷ ys) (nothing_between end x.0 es (first _ _ sorted) (λ q ahead_of less.
          later_none (eq_by_cmp pair_cmp q x.0) x.1 (find pair_cmp q es) (none q ahead_of (ap (λ p. pair_cmp p q) same ∙ less))))
          ∙ ap (λ (y : Entry). y ∷ []) one
          ∙ ap (λ (ys : List Entry). ys ++ e ∷ []) (sym (keep_one (Some e.0) x es false (ap (is_before (Some e.0)) back ∙ not_before_itself e.0)
          ∙ ap (λ p. ahead (Some p) es) same ∙ none_ahead x.0 es (first _ _ sorted)))
      by rest Greater is =
          let less : pair_cmp x.0 e.0 ≡ Less = pair_cmp_total.antisymm x.0 e.0 ∙ ap ordering_reverse is in
          keep_one end x es true (before_earlier end e.0 x.0 before less)
          ∙ ap (λ (ys : List Entry). x ∷ ys) (rest (here_by Greater is) (λ q ahead_of behind.
          later_none (eq_by_cmp pair_cmp q x.0) x.1 (find pair_cmp q es) (none q ahead_of behind)))
          ∙ ap (λ (ys : List Entry). ys ++ e ∷ []) (sym (keep_one (Some e.0) x es true (ap is_lt less)))

-- ---- what is left of a range

before_is : (end : Option Pair) (q : Pair) → IsBefore end q → is_before end q ≡ true
before_is None q before = refl
before_is (Some l) q before = ap is_lt before

is_before_it : (end : Option Pair) (q : Pair) → is_before end q ≡ true → IsBefore end q
is_before_it None q is = tt
is_before_it (Some l) q is = is_less (pair_cmp q l) is

module _ (index : Index) (range : KeyRange) where
  -- it is that of the entries which come before the pair, from the end
  left_is : (end : Option Pair) → left_before index range end ≡ reverse (map (λ (e : Entry). e.0) (filter (is_shown range) (ahead end (entries index))))
  left_is end = ap reverse (filter-map (is_before end) (λ (e : Entry). e.0) (filter (is_shown range) (entries index))
      ∙ ap (map (λ (e : Entry). e.0)) (filter_swap (λ (e : Entry). is_before end e.0) (is_shown range) (entries index)))

  -- of two pairs that are behind the same pairs of the range the same is left
  pub same_left : (one other : Option Pair) → ((p : Pair) → is_within range p.key ≡ true → is_before one p ≡ is_before other p)
      → left_before index range one ≡ left_before index range other
  same_left one other same = left_is one
      ∙ ap (λ (es : List Entry). reverse (map (λ (e : Entry). e.0) es))
      (filter_under (is_shown range) (λ (e : Entry). is_before one e.0) (λ (e : Entry). is_before other e.0) (λ e shown.
      same e.0 ((and_parts (is_live e.1) (is_within range e.0.key) shown).1)) (entries index))
      ∙ sym (left_is other)

  -- where no entry is left, no visible pair is
  pub none_left : (end : Option Pair) → IsGreatestBelow index end None → left_before index range end ≡ []
  none_left end none = left_is end ∙ ap (λ (es : List Entry). reverse (map (λ (e : Entry). e.0) (filter (is_shown range) es)))
      (nothing_ahead end (entries index) (λ q before. sym (get-entries index q) ∙ none q (is_before_it end q before)))

  module _ (end : Option Pair) (e : Entry) (greatest : IsGreatestBelow index end (Some e)) where
    next_ahead : ahead end (entries index) ≡ ahead (Some e.0) (entries index) ++ e ∷ []
    next_ahead = last_ahead end e (before_is end e.0 greatest.0) (entries index) (entries_sorted index) (sym (get-entries index e.0) ∙ greatest.1)
        (λ q before less. sym (get-entries index q) ∙ greatest.2 q (is_before_it end q before) less)

    -- one entry fewer is left to look at
    pub fewer_ahead : length (ahead (Some e.0) (entries index)) < length (ahead end (entries index))
    fewer_ahead = let n = ap length next_ahead ∙ length-append (ahead (Some e.0) (entries index)) (e ∷ []) in omega (arith, n)

    abbrev rest : List Pair
    rest = map (λ (x : Entry). x.0) (filter (is_shown range) (ahead (Some e.0) (entries index)))

    left_next : left_before index range end ≡ cond (is_shown range e) (e.0 ∷ left_before index range (Some e.0)) (left_before index range (Some e.0))
    left_next = left_is end
        ∙ ap (λ (es : List Entry). reverse (map (λ (x : Entry). x.0) (filter (is_shown range) es))) next_ahead
        ∙ ap (λ (es : List Entry). reverse (map (λ (x : Entry). x.0) es)) (filter-append (is_shown range) (ahead (Some e.0) (entries index)) (e ∷ []))
        ∙ ap reverse (map-append (λ (x : Entry). x.0) (filter (is_shown range) (ahead (Some e.0) (entries index))) (filter (is_shown range) (e ∷ [])))
        ∙ by (is_shown range e)
      where
        nothing_more : (ps : List Pair) → ps ++ [] ≡ ps
        nothing_more [] = refl
        nothing_more (p ∷ ps) = ap (λ (qs : List Pair). p ∷ qs) (nothing_more ps)

        by : (b : Bool) → reverse (rest ++ map (λ (x : Entry). x.0) (cond b (e ∷ []) []))
            ≡ cond b (e.0 ∷ left_before index range (Some e.0)) (left_before index range (Some e.0))
        by true = last_is_first rest e.0 ∙ ap (λ (ps : List Pair). e.0 ∷ ps) (sym (left_is (Some e.0)))
        by false = ap reverse (nothing_more rest) ∙ sym (left_is (Some e.0))

    -- a visible pair comes first
    pub shown_left : true ≡ is_shown range e → left_before index range end ≡ e.0 ∷ left_before index range (Some e.0)
    shown_left shown = left_next ∙ ap (λ b. cond b (e.0 ∷ left_before index range (Some e.0)) (left_before index range (Some e.0))) (sym shown)

    -- any other is passed over
    pub hidden_left : false ≡ is_shown range e → left_before index range end ≡ left_before index range (Some e.0)
    hidden_left hidden = left_next ∙ ap (λ b. cond b (e.0 ∷ left_before index range (Some e.0)) (left_before index range (Some e.0))) (sym hidden)

    -- and where the next one is before the beginning, nothing is left
    pub unbegun_left : false ≡ is_from_start key_cmp range.from e.0.key → left_before index range end ≡ []
    unbegun_left unbegun = hidden_left (sym (hidden e (sym unbegun))) ∙ left_is (Some e.0)
        ∙ ap (λ (es : List Entry). reverse (map (λ (x : Entry). x.0) es))
        (filter_apart (is_shown range) (λ (x : Entry). is_before (Some e.0) x.0) (λ x earlier.
        hidden x (unbegun_earlier range.from e.0 x.0 (is_less (pair_cmp x.0 e.0) earlier) (sym unbegun))) (entries index))
      where
        hidden : (x : Entry) → is_from_start key_cmp range.from x.0.key ≡ false → is_shown range x ≡ false
        hidden x is = and_right (is_live x.1) (is_within range x.0.key)
            (and_left (is_from_start key_cmp range.from x.0.key) (not (is_past_end key_cmp range.to x.0.key)) is)

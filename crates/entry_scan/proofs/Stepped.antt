-- A walk over an index, one entry after another.
use Rattle.std.proofs.Common.{◌≡◌, ◌<◌, Bool, true, false, cond, ◌&&◌, not, T, List, [], ◌∷◌, length, map, filter, Option, Some, None}
use Rattle.std.proofs.lemmas.Bool.{and_parts, and_right, cases_Bool, not_from_true}
use Rattle.std.proofs.Common.{inl, inr, refl, ap, sym, subst, ◌∙◌, arith}
use Rattle.std.specs.BTreeMap.Range.{is_from_start, is_past_end}
use Rattle.std.specs.Cmp.{tied_itself}
use Rattle.std.specs.FinMap.{entries, entries_sorted, find, get-entries}
use Rattle.std.specs.FinMap.Entries.{below_all, is_sorted}
use Rattle.std.specs.Ordering.{eq_by_cmp, is_eq, is_lt, ordering_reverse}
use Rattle.std.specs.declared.cmp.Ordering.{Ordering}
use Rattle.std.specs.declared.cmp.Ordering.TheVariants.{Equal, Greater, Less}
use Rattle.record_values.specs.Maps.{pair_exact}
use Rattle.record_values.specs.Orders.{pair_cmp, pair_cmp_total, is_above}
use Rattle.record_values.specs.declared.pair.Mark.{Mark}
use Rattle.record_values.specs.declared.pair.Pair.{Pair}
use Rattle.record_values.specs.Entries.{Index}
use Rattle.btree_node.specs.Above.{IsAfter, IsLeastAbove}
use Rattle.entry_scan.specs.Ranges.{is_within}
use Rattle.entry_scan.specs.Visible.{is_live, is_shown, left_of, visible}
use Rattle.entry_scan.specs.declared.range.KeyRange.{KeyRange}
use Rattle.entry_scan.proofs.Filtered.{filter-map, filter_apart, filter_swap, filter_under}
use Rattle.entry_scan.proofs.KeyOrder.{above_later, is_less, key_cmp, past_later}

abbrev pub Entry : Type 0
Entry = Pair × Mark

pub first : (a b : Bool) → T (a && b) → T a
first true b h = tt
first false b h = absurd h

pub second : (a b : Bool) → T (a && b) → T b
second true b h = h
second false b h = absurd h

both : (a b : Bool) → T a → T b → T (a && b)
both true b h k = k
both false b h k = absurd h

pub less_is : (o : Ordering) → T (is_lt o) → o ≡ Less
less_is Less h = refl
less_is Equal h = absurd h
less_is Greater h = absurd h

pub no_mark : (x : Mark) → (◌≡◌ {A = Option Mark} (Some x) None) → ⊥
no_mark x e = absurd cc

pub same_mark : (x y : Mark) → (◌≡◌ {A = Option Mark} (Some x) (Some y)) → x ≡ y
same_mark x y e = cc

pub no_more : {X : Type 0} (xs : List X) → length xs ≡ 0 → xs ≡ []
no_more [] e = refl
no_more (x ∷ xs) e = absurd (omega (arith, e))

-- ---- the entries of a list that come after a pair

abbrev pub past : Option Pair → List Entry → List Entry
past last es = filter (λ e. is_above last e.0) es

-- no entry of a pair before all of them
pub none_below : (p : Pair) (es : List Entry) → T (below_all pair_cmp p es) → find pair_cmp p es ≡ None
none_below p [] h = refl
none_below p (e ∷ es) h = ap (λ o. cond (is_eq o) (Some e.1) (find pair_cmp p es)) (less_is (pair_cmp p e.0) (first _ _ h)) ∙ none_below p es (second _ _ h)

pub below_more : (p q : Pair) → pair_cmp p q ≡ Less → (es : List Entry) → T (below_all pair_cmp q es) → T (below_all pair_cmp p es)
below_more p q less [] h = tt
below_more p q less (e ∷ es) h =
    let rise : pair_cmp p e.0 ≡ Less = pair_cmp_total.trans p q e.0 less (less_is (pair_cmp q e.0) (first _ _ h)) in
    both (is_lt (pair_cmp p e.0)) (below_all pair_cmp p es) (subst (λ o. T (is_lt o)) (sym rise) tt) (below_more p q less es (second _ _ h))

-- all of them come after a pair before which none is
all_past : (last : Option Pair) (p : Pair) → ((q : Pair) → pair_cmp p q ≡ Less → is_above last q ≡ true) → (es : List Entry) → T (below_all pair_cmp p es)
    → past last es ≡ es
all_past last p after [] h = refl
all_past last p after (e ∷ es) h =
    ap (λ b. cond b (e ∷ past last es) (past last es)) (after e.0 (less_is (pair_cmp p e.0) (first _ _ h)))
    ∙ ap (λ (rest : List Entry). e ∷ rest) (all_past last p after es (second _ _ h))

-- what has no entry has none behind the first
pub later_none : (b : Bool) (x : Mark) (rest : Option Mark) → cond b (Some x) rest ≡ None → rest ≡ None
later_none true x rest none = absurd (no_mark x none)
later_none false x rest none = none

-- the first entry is found
pub found_first : (e : Entry) (es : List Entry) → find pair_cmp e.0 (e ∷ es) ≡ Some e.1
found_first e es = ap (λ o. cond (is_eq o) (Some e.1) (find pair_cmp e.0 es)) (tied_itself pair_cmp_total e.0)

-- where no pair after the last one has an entry, none is left
nothing_past : (last : Option Pair) (es : List Entry) → ((q : Pair) → is_above last q ≡ true → find pair_cmp q es ≡ None) → past last es ≡ []
nothing_past last [] none = refl
nothing_past last (e ∷ es) none =
    elim (cases_Bool (is_above last e.0)) [
      | inl after ↦ absurd (no_mark e.1 (sym (found_first e es) ∙ none e.0 after))
      | inr before ↦ ap (λ b. cond b (e ∷ past last es) (past last es)) before
          ∙ nothing_past last es (λ q after. later_none (eq_by_cmp pair_cmp q e.0) e.1 (find pair_cmp q es) (none q after))
    ]

module _ (last : Option Pair) (e : Entry) (after : is_above last e.0 ≡ true) where
  abbrev IsLeastIn : List Entry → Type 0
  IsLeastIn es = (q : Pair) → is_above last q ≡ true → pair_cmp q e.0 ≡ Less → find pair_cmp q es ≡ None

  -- the entries after the last one begin with the least of them
  first_past : (es : List Entry) → T (is_sorted pair_cmp es) → find pair_cmp e.0 es ≡ Some e.1 → IsLeastIn es → past last es ≡ e ∷ past (Some e.0) es
  first_past [] sorted here none = absurd (no_mark e.1 (sym here))
  first_past (x ∷ es) sorted here none = by (first_past es (second _ _ sorted)) (pair_cmp e.0 x.0) refl
    where
      keep : (o : Option Pair) (b : Bool) → is_above o x.0 ≡ b → past o (x ∷ es) ≡ cond b (x ∷ past o es) (past o es)
      keep o b is = ap (λ t. cond t (x ∷ past o es) (past o es)) is

      here_by : (o : Ordering) → pair_cmp e.0 x.0 ≡ o → cond (is_eq o) (Some x.1) (find pair_cmp e.0 es) ≡ Some e.1
      here_by o is = ap (λ t. cond (is_eq t) (Some x.1) (find pair_cmp e.0 es)) (sym is) ∙ here

      by : (find pair_cmp e.0 es ≡ Some e.1 → IsLeastIn es → past last es ≡ e ∷ past (Some e.0) es) → (o : Ordering) → pair_cmp e.0 x.0 ≡ o
          → past last (x ∷ es) ≡ e ∷ past (Some e.0) (x ∷ es)
      by rest Less is = absurd (no_mark e.1 (sym (here_by Less is) ∙ none_below e.0 es (below_more e.0 x.0 is es (first _ _ sorted))))
      by rest Equal is =
          let same : e.0 ≡ x.0 = pair_exact.only_equal e.0 x.0 is in
          let mark : x.1 ≡ e.1 = same_mark x.1 e.1 (here_by Equal is) in
          let back : x.0 ≡ e.0 = sym same in
          let one : x ≡ e = λ i. (back i, mark i) in
          let after_x : is_above last x.0 ≡ true = ap (is_above last) back ∙ after in
          keep last true after_x
          ∙ ap (λ (y : Entry). y ∷ past last es) one
          ∙ ap (λ (ys : List Entry). e ∷ ys) (all_past last x.0 (λ q less. above_later last x.0 q after_x less) es (first _ _ sorted))
          ∙ ap (λ (ys : List Entry). e ∷ ys)
          (sym (all_past (Some e.0) x.0 (λ q less. ap (λ p. is_lt (pair_cmp p q)) same ∙ ap is_lt less) es (first _ _ sorted)))
          ∙ ap (λ (ys : List Entry). e ∷ ys) (sym (keep (Some e.0) false (ap is_lt is)))
      by rest Greater is =
          let less : pair_cmp x.0 e.0 ≡ Less = pair_cmp_total.antisymm x.0 e.0 ∙ ap ordering_reverse is in
          elim (cases_Bool (is_above last x.0)) [
            | inl past_it ↦ absurd (no_mark x.1 (sym (found_first x es) ∙ none x.0 past_it less))
            | inr before ↦ keep last false before
                ∙ rest (here_by Greater is) (λ q past_it before_it. later_none (eq_by_cmp pair_cmp q x.0) x.1 (find pair_cmp q es) (none q past_it before_it))
                ∙ ap (λ (ys : List Entry). e ∷ ys) (sym (keep (Some e.0) false (ap is_lt is)))
          ]

-- ---- what is left of a range

pub after_is : (last : Option Pair) (q : Pair) → IsAfter last q → is_above last q ≡ true
after_is None q after = refl
after_is (Some l) q after = ap is_lt after

is_after : (last : Option Pair) (q : Pair) → is_above last q ≡ true → IsAfter last q
is_after None q is = tt
is_after (Some l) q is = is_less (pair_cmp l q) is

module _ (index : Index) (range : KeyRange) where
  -- it is that of the entries which come after the pair
  left_is : (last : Option Pair) → left_of index range last ≡ map (λ (e : Entry). e.0) (filter (is_shown range) (past last (entries index)))
  left_is last = filter-map (is_above last) (λ (e : Entry). e.0) (filter (is_shown range) (entries index))
      ∙ ap (map (λ (e : Entry). e.0)) (filter_swap (λ (e : Entry). is_above last e.0) (is_shown range) (entries index))

  -- of two pairs that are before the same pairs of the range the same is left
  pub same_left : (one other : Option Pair) → ((p : Pair) → is_within range p.key ≡ true → is_above one p ≡ is_above other p)
      → left_of index range one ≡ left_of index range other
  same_left one other same = left_is one
      ∙ ap (map (λ (e : Entry). e.0)) (filter_under (is_shown range) (λ (e : Entry). is_above one e.0) (λ (e : Entry). is_above other e.0) (λ e shown.
      same e.0 ((and_parts (is_live e.1) (is_within range e.0.key) shown).1)) (entries index))
      ∙ sym (left_is other)

  -- where no entry is left, no visible pair is
  pub none_left : (last : Option Pair) → IsLeastAbove index last None → left_of index range last ≡ []
  none_left last none = left_is last ∙ ap (λ (es : List Entry). map (λ (e : Entry). e.0) (filter (is_shown range) es))
      (nothing_past last (entries index) (λ q after. sym (get-entries index q) ∙ none q (is_after last q after)))

  module _ (last : Option Pair) (e : Entry) (least : IsLeastAbove index last (Some e)) where
    next_past : past last (entries index) ≡ e ∷ past (Some e.0) (entries index)
    next_past = first_past last e (after_is last e.0 least.0) (entries index) (entries_sorted index) (sym (get-entries index e.0) ∙ least.1)
        (λ q after less. sym (get-entries index q) ∙ least.2 q (is_after last q after) less)

    -- one entry fewer is left to look at
    pub fewer_past : length (past (Some e.0) (entries index)) < length (past last (entries index))
    fewer_past = let n = ap length next_past in omega (arith, n)

    abbrev rest : List Entry
    rest = filter (is_shown range) (past (Some e.0) (entries index))

    left_next : left_of index range last ≡ cond (is_shown range e) (e.0 ∷ left_of index range (Some e.0)) (left_of index range (Some e.0))
    left_next = left_is last ∙ ap (λ (es : List Entry). map (λ (x : Entry). x.0) (filter (is_shown range) es)) next_past ∙ by (is_shown range e)
      where
        by : (b : Bool) → map (λ (x : Entry). x.0) (cond b (e ∷ rest) rest)
            ≡ cond b (e.0 ∷ left_of index range (Some e.0)) (left_of index range (Some e.0))
        by true = ap (λ (ps : List Pair). e.0 ∷ ps) (sym (left_is (Some e.0)))
        by false = sym (left_is (Some e.0))

    -- a visible pair comes first
    pub shown_left : true ≡ is_shown range e → left_of index range last ≡ e.0 ∷ left_of index range (Some e.0)
    shown_left shown = left_next ∙ ap (λ b. cond b (e.0 ∷ left_of index range (Some e.0)) (left_of index range (Some e.0))) (sym shown)

    -- any other is passed over
    pub hidden_left : false ≡ is_shown range e → left_of index range last ≡ left_of index range (Some e.0)
    hidden_left hidden = left_next ∙ ap (λ b. cond b (e.0 ∷ left_of index range (Some e.0)) (left_of index range (Some e.0))) (sym hidden)

    -- and where the next one is past the end, nothing is left
    pub past_left : true ≡ is_past_end key_cmp range.to e.0.key → left_of index range last ≡ []
    past_left past_end = hidden_left (sym (hidden e (sym past_end))) ∙ left_is (Some e.0)
        ∙ ap (map (λ (x : Entry). x.0)) (filter_apart (is_shown range) (λ (x : Entry). is_above (Some e.0) x.0) (λ x later.
        hidden x (past_later range.to e.0 x.0 (is_less (pair_cmp e.0 x.0) later) (sym past_end))) (entries index))
      where
        hidden : (x : Entry) → is_past_end key_cmp range.to x.0.key ≡ true → is_shown range x ≡ false
        hidden x is = and_right (is_live x.1) (is_within range x.0.key)
            (and_right (is_from_start key_cmp range.from x.0.key) (not (is_past_end key_cmp range.to x.0.key))
            (not_from_true (is_past_end key_cmp range.to x.0.key) is))

-- all of a range is left where no pair is given
every_pair : (ps : List Pair) → filter (is_above None) ps ≡ ps
every_pair [] = refl
every_pair (p ∷ ps) = ap (λ (rest : List Pair). p ∷ rest) (every_pair ps)

pub all_left : (index : Index) (range : KeyRange) → left_of index range None ≡ visible index range
all_left index range = every_pair (visible index range)

-- What a core holds, tested entry by entry and row by row.
use Rattle.std.proofs.Common.{◌≡◌, ℕ, ◌+◌, ◌<◌, ◌≤◌, Bool, true, false, cond, List, [], ◌∷◌, Option, Some, None, inl, inr, refl, sym, ap, subst, ◌∙◌, arith}
use Rattle.std.proofs.Math.Bridge.{le_prop}
use Rattle.std.proofs.Math.Logic.{∥∥₁_elim}
use Rattle.std.proofs.lemmas.Bool.{cases_Bool, false≢true}
use Rattle.std.specs.FinMap.{entries, find, get, get-entries, len}
use Rattle.std.specs.Cmp.{tied_itself}
use Rattle.std.specs.Ordering.{eq_by_cmp, is_lt, ordering_reverse}
use Rattle.std.specs.declared.cmp.Ordering.{Ordering}
use Rattle.std.specs.declared.cmp.Ordering.TheVariants.{Equal, Greater, Less}
use Rattle.record_values.specs.Maps.{key_is, pair_exact}
use Rattle.record_values.specs.Orders.{pair_cmp, pair_cmp_total, is_above}
use Rattle.record_values.specs.declared.pair.Mark.{Mark}
use Rattle.record_values.specs.declared.pair.Mark.TheVariants.{Live}
use Rattle.record_values.specs.declared.pair.Pair.{Pair}
use Rattle.model.specs.declared.life.Life.{Life}
use Rattle.model.specs.declared.life.Life.TheVariants.{Absent, Building, Complete}
use Rattle.model.specs.Pairs.{is_indexed}
use Rattle.model.specs.Table.{Table}
use Rattle.record_values.specs.Entries.{Index}
use Rattle.marked_index.specs.Above.{IsAfter, IsLeastAbove}
use Rattle.core_model.specs.Histories.{CanOpen, FitsStore}
use Rattle.core_parts.specs.Opening.{EachIsShown, EachMayStand, opened_of}
use Rattle.core_parts.specs.View.{CoreValue, IsSafe}

-- ---- a walk over the entries

is_less : (o : Ordering) → is_lt o ≡ true → o ≡ Less
is_less Less is = refl
is_less Equal is = absurd (false≢true is)
is_less Greater is = absurd (false≢true is)

is_after : (last : Option Pair) (q : Pair) → is_above last q ≡ true → IsAfter last q
is_after None q is = tt
is_after (Some l) q is = is_less (pair_cmp l q) is

after_is : (last : Option Pair) (q : Pair) → IsAfter last q → is_above last q ≡ true
after_is None q after = refl
after_is (Some l) q after = ap is_lt after

some_none : (m : Mark) → (◌≡◌ {A = Option Mark} None (Some m)) → ⊥
some_none m e = absurd cc

module _ (all : Index) (P : Pair → Mark → Type 0) where
  -- each entry that is not is_above the last one is so
  abbrev pub AreChecked : Option Pair → Type 0
  AreChecked last = (p : Pair) (x : Mark) → is_above last p ≡ false → get all p ≡ Some x → P p x

  pub none_checked : AreChecked None
  none_checked p x before here = absurd (false≢true (sym before))

  pub one_checked : (last : Option Pair) → AreChecked last → (e : Pair × Mark) → IsLeastAbove all last (Some e) → P e.0 e.1 → AreChecked (Some e.0)
  one_checked last h e least good p x before here =
      elim (cases_Bool (is_above last p)) [
        | inl after ↦ by after (pair_cmp p e.0) refl
        | inr old ↦ h p x old here
      ]
    where
      mark_is : p ≡ e.0 → x ≡ e.1
      mark_is same = let both : Some x ≡ Some e.1 = sym here ∙ ap (get all) same ∙ least.1 in cc

      by : is_above last p ≡ true → (o : Ordering) → pair_cmp p e.0 ≡ o → P p x
      by after Less is = absurd (some_none x (sym (least.2 p (is_after last p after) is) ∙ here))
      by after Equal is =
          let same : p ≡ e.0 = pair_exact.only_equal p e.0 is in
          subst (P p) (sym (mark_is same)) (subst (λ q. P q e.1) (sym same) good)
      by after Greater is =
          let less : pair_cmp e.0 p ≡ Less = pair_cmp_total.antisymm e.0 p ∙ ap ordering_reverse is in
          absurd (false≢true (sym before ∙ ap is_lt less))

  pub all_checked : (last : Option Pair) → AreChecked last → IsLeastAbove all last None → (p : Pair) (x : Mark) → get all p ≡ Some x → P p x
  all_checked last h none p x here =
      elim (cases_Bool (is_above last p)) [
        | inl after ↦ absurd (some_none x (sym (none p (is_after last p after)) ∙ here))
        | inr old ↦ h p x old here
      ]

-- how many of these entries pass the test
abbrev passing : (Pair → Bool) → List (Pair × Mark) → ℕ
passing test [] = 0
passing test (e ∷ es) = cond (test e.0) 1 0 + passing test es

weaker_here : (a b : Bool) (m n : ℕ) → (a ≡ true → b ≡ true) → m ≤ n → cond a 1 0 + m ≤ cond b 1 0 + n
weaker_here true true m n weaker le = omega (arith, le)
weaker_here true false m n weaker le = absurd (false≢true (weaker refl))
weaker_here false true m n weaker le = omega (arith, le)
weaker_here false false m n weaker le = omega (arith, le)

fewer_here : (a b : Bool) (m n : ℕ) → a ≡ false → b ≡ true → m ≤ n → cond a 1 0 + m < cond b 1 0 + n
fewer_here true b m n out within le = absurd (false≢true (sym out))
fewer_here false true m n out within le = omega (arith, le)
fewer_here false false m n out within le = absurd (false≢true within)

fewer_later : (a b : Bool) (m n : ℕ) → (a ≡ true → b ≡ true) → m < n → cond a 1 0 + m < cond b 1 0 + n
fewer_later true true m n weaker lt = omega (arith, lt)
fewer_later true false m n weaker lt = absurd (false≢true (weaker refl))
fewer_later false true m n weaker lt = omega (arith, lt)
fewer_later false false m n weaker lt = omega (arith, lt)

module _ (f g : Pair → Bool) (weaker : (q : Pair) → f q ≡ true → g q ≡ true) (p : Pair) (out : f p ≡ false) (within : g p ≡ true) where
  no_more : (es : List (Pair × Mark)) → passing f es ≤ passing g es
  no_more [] = omega arith
  no_more (e ∷ es) = weaker_here (f e.0) (g e.0) (passing f es) (passing g es) (weaker e.0) (no_more es)

  fewer : (es : List (Pair × Mark)) (m : Mark) → find pair_cmp p es ≡ Some m → passing f es < passing g es
  fewer [] m found = absurd (some_none m found)
  fewer (e ∷ es) m found = by (fewer es m) (eq_by_cmp pair_cmp p e.0) refl found
    where
      by : (find pair_cmp p es ≡ Some m → passing f es < passing g es) → (b : Bool) → eq_by_cmp pair_cmp p e.0 ≡ b
          → cond b (Some e.1) (find pair_cmp p es) ≡ Some m → passing f (e ∷ es) < passing g (e ∷ es)
      by rest true is found =
          let same : p ≡ e.0 = key_is pair_exact p e.0 is in
          fewer_here (f e.0) (g e.0) (passing f es) (passing g es) (ap f (sym same) ∙ out) (ap g (sym same) ∙ within) (no_more es)
      by rest false is found = fewer_later (f e.0) (g e.0) (passing f es) (passing g es) (weaker e.0) (rest found)

-- how many entries come after a pair
abbrev pub left_above : Index → Option Pair → ℕ
left_above all last = passing (is_above last) (entries all)

pub fewer_left : (all : Index) (last : Option Pair) (e : Pair × Mark) → IsLeastAbove all last (Some e) → left_above all (Some e.0) < left_above all last
fewer_left all last e least = fewer (is_above (Some e.0)) (is_above last) (λ q later. weaker last least.0 q (is_less (pair_cmp e.0 q) later)) e.0
    (ap is_lt (tied_itself pair_cmp_total e.0)) (after_is last e.0 least.0) (entries all) e.1 (sym (get-entries all e.0) ∙ least.1)
  where
    weaker : (last : Option Pair) → IsAfter last e.0 → (q : Pair) → pair_cmp e.0 q ≡ Less → is_above last q ≡ true
    weaker None after q later = refl
    weaker (Some l) after q later = ap is_lt (pair_cmp_total.trans l e.0 q after later)

-- ---- all of it

module _ (v : CoreValue) (safe : ∥ IsSafe v ∥₁) where
  fits : FitsStore (opened_of v)
  fits = record {
    rows = λ r row is. ∥∥₁_elim safe le_prop (λ at. let h = at.is.fit.rows r row (ap (λ (t : Table). get t r) at.is.shown.rows ∙ is) in
        let e = at.is.shown.pages in omega (arith, h, e));
    entries = λ p here. ∥∥₁_elim safe le_prop (λ at. let h = at.is.fit.inside.entries p (λ none.
        here (ap (λ (m : Index). get m p) (sym at.is.shown.entries) ∙ none)) in let e = at.is.shown.pages in omega (arith, h, e));
    highest = λ p is. ∥∥₁_elim safe le_prop (λ at. let h = at.is.fit.inside.highest p (at.is.shown.life ∙ is) in let e = at.is.shown.pages in
        omega (arith, h, e));
    room = ∥∥₁_elim safe le_prop (λ at. let h = at.is.fit.places.fits in let e = ap len at.is.shown.entries in let f = at.is.shown.places in
        omega (arith, h, e, f));
  }

  pub opens : EachMayStand v → EachIsShown v → CanOpen (opened_of v)
  opens stand shown = record {
    fits = fits;
    sound = λ p here. (stand p Live here).sound refl;
    complete = λ r row is covered. (shown r row is).complete covered;
    unmarked = λ r row is. (shown r row is).unmarked;
    empty = λ absent p. none absent p (get v.index.entries p) refl;
  }
    where
      none : v.life ≡ Absent → (p : Pair) (o : Option Mark) → get v.index.entries p ≡ o → o ≡ None
      none absent p None is = refl
      none absent p (Some x) is = absurd (false≢true (ap is_indexed (sym absent) ∙ (stand p x is).indexed))

module _ (v : CoreValue) (opens : CanOpen (opened_of v)) where
  pub stands : EachMayStand v
  stands p x here = record {
    indexed = by v.life refl;
    sound = λ live. opens.sound p (here ∙ ap (λ (m : Mark). Some m) live);
  }
    where
      by : (life : Life) → v.life ≡ life → is_indexed life ≡ true
      by Absent is = absurd (some_none x (sym (opens.empty is p) ∙ here))
      by (Building highest) is = refl
      by Complete is = refl

  pub shows : EachIsShown v
  shows r row is = record {
    complete = opens.complete r row is;
    unmarked = opens.unmarked r row is;
  }

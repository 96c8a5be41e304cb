-- Why a build comes to its end: an attempt leaves one entry is_above it less, or one free place less.
use Rattle.std.proofs.Common.{Bool, List, None, Option, Some, [], ap, arith, cond, false, is_some, nat_le, refl, subst, sym, true, ℕ, ◌*◌, ◌+◌, ◌-◌, ◌<◌, ◌∙◌}
use Rattle.std.proofs.Common.{◌∷◌, ◌≡◌, ◌≤◌}
use Rattle.std.proofs.Math.Nat.{mul-le-mul_left}
use Rattle.std.proofs.lemmas.Bool.{false≢true, le-leb}
use Rattle.std.specs.Cmp.{tied_itself}
use Rattle.std.specs.FinMap.{entries, entries-insert, find, get, get-entries, insert, len, len-insert, put}
use Rattle.std.specs.FinMap.Entries.{by_order}
use Rattle.std.specs.Ordering.{eq_by_cmp, is_lt}
use Rattle.std.specs.declared.cmp.Ordering.{Ordering}
use Rattle.std.specs.declared.cmp.Ordering.TheVariants.{Equal, Greater, Less}
use Rattle.record_values.specs.Maps.{key_is, pair_exact, set_at}
use Rattle.record_values.specs.Orders.{pair_cmp, pair_cmp_total, is_above}
use Rattle.record_values.specs.declared.limits.TheConstants.{ATTEMPTS_PER_CHECKPOINT}
use Rattle.record_values.specs.declared.pair.Mark.{Mark}
use Rattle.record_values.specs.declared.pair.Mark.TheVariants.{Live, Marked}
use Rattle.record_values.specs.declared.pair.Pair.{Pair}
use Rattle.record_values.specs.KeyActions.{after_action}
use Rattle.record_values.specs.Entries.{Index}
use Rattle.record_values.specs.declared.key_action.KeyAction.TheVariants.{BuildPut}

less_is : (o : Ordering) → is_lt o ≡ true → o ≡ Less
less_is Less e = refl
less_is Equal e = absurd (false≢true e)
less_is Greater e = absurd (false≢true e)

above_both : (b : Option Pair) (p q : Pair) → is_above b p ≡ true → is_above (Some p) q ≡ true → is_above b q ≡ true
above_both None p q h k = refl
above_both (Some b) p q h k = ap is_lt (pair_cmp_total.trans b p q (less_is _ h) (less_is _ k))

-- how many of these entries pass the test
abbrev pub passing : (Pair → Bool) → List (Pair × Mark) → ℕ
passing test [] = 0
passing test (e ∷ es) = cond (test e.0) 1 0 + passing test es

-- how many entries lie is_above a pair
abbrev pub entries_above : Index → Option Pair → ℕ
entries_above index bound = passing (is_above bound) (entries index)

weaker_test : (a b : Bool) (m n : ℕ) → (a ≡ true → b ≡ true) → m ≤ n → cond a 1 0 + m ≤ cond b 1 0 + n
weaker_test true true m n h le = omega (arith, le)
weaker_test true false m n h le = absurd (false≢true (h refl))
weaker_test false true m n h le = omega (arith, le)
weaker_test false false m n h le = omega (arith, le)

less_here : (a b : Bool) (m n : ℕ) → a ≡ false → b ≡ true → m ≤ n → cond a 1 0 + m < cond b 1 0 + n
less_here a b m n p q le = subst (λ x. cond x 1 0 + m < cond b 1 0 + n) (sym p) (subst (λ y. 0 + m < cond y 1 0 + n) (sym q) (omega (arith, le)))

less_later : (a b : Bool) (m n : ℕ) → (a ≡ true → b ≡ true) → m < n → cond a 1 0 + m < cond b 1 0 + n
less_later true true m n h lt = omega (arith, lt)
less_later true false m n h lt = absurd (false≢true (h refl))
less_later false true m n h lt = omega (arith, lt)
less_later false false m n h lt = omega (arith, lt)

module _ (f g : Pair → Bool) (weaker : (q : Pair) → f q ≡ true → g q ≡ true) where
  fewer : (es : List (Pair × Mark)) → passing f es ≤ passing g es
  fewer [] = omega arith
  fewer (e ∷ es) = weaker_test (f e.0) (g e.0) (passing f es) (passing g es) (weaker e.0) (fewer es)

  module _ (p : Pair) (out : f p ≡ false) (within : g p ≡ true) where
    one_fewer_at : (e : Pair × Mark) (es : List (Pair × Mark)) (mark : Mark) → find pair_cmp p (e ∷ es) ≡ Some mark
        → (find pair_cmp p es ≡ Some mark → passing f es < passing g es) → (b : Bool) → eq_by_cmp pair_cmp p e.0 ≡ b → passing f (e ∷ es) < passing g (e ∷ es)
    one_fewer_at e es mark found rest true is =
        let same : p ≡ e.0 = key_is pair_exact p e.0 is in
        less_here (f e.0) (g e.0) (passing f es) (passing g es) (ap f (sym same) ∙ out) (ap g (sym same) ∙ within) (fewer es)
    one_fewer_at e es mark found rest false is =
        let later : find pair_cmp p es ≡ Some mark = sym (ap (λ b. cond b (Some e.1) (find pair_cmp p es)) is) ∙ found in
        less_later (f e.0) (g e.0) (passing f es) (passing g es) (weaker e.0) (rest later)

    one_fewer : (es : List (Pair × Mark)) (mark : Mark) → find pair_cmp p es ≡ Some mark → passing f es < passing g es
    one_fewer [] mark found = absurd cc
    one_fewer (e ∷ es) mark found = one_fewer_at e es mark found (one_fewer es mark) (eq_by_cmp pair_cmp p e.0) refl

-- an entry that is put in and doesn't pass adds none
put_apart_at : (f : Pair → Bool) (p : Pair) (mark : Mark) → f p ≡ false → (e : Pair × Mark) (es : List (Pair × Mark))
    → passing f (put pair_cmp p mark es) ≤ passing f es → (o : Ordering)
    → passing f (by_order o ((p, mark) ∷ e ∷ es) ((e.0, mark) ∷ es) (e ∷ put pair_cmp p mark es)) ≤ passing f (e ∷ es)
put_apart_at f p mark out e es rest Less = subst (λ b. cond b 1 0 + passing f (e ∷ es) ≤ passing f (e ∷ es)) (sym out) (omega arith)
put_apart_at f p mark out e es rest Equal = omega arith
put_apart_at f p mark out e es rest Greater = weaker_test (f e.0) (f e.0) (passing f (put pair_cmp p mark es)) (passing f es) (λ t. t) rest

put_apart : (f : Pair → Bool) (p : Pair) (mark : Mark) → f p ≡ false → (es : List (Pair × Mark)) → passing f (put pair_cmp p mark es) ≤ passing f es
put_apart f p mark out [] = subst (λ b. cond b 1 0 + 0 ≤ 0) (sym out) (omega arith)
put_apart f p mark out (e ∷ es) = put_apart_at f p mark out e es (put_apart f p mark out es) (pair_cmp p e.0)

-- ---- an attempt

module _ (index : Index) (bound : Option Pair) (p : Pair) (rising : is_above bound p ≡ true) where
  passed : (q : Pair) → is_above (Some p) q ≡ true → is_above bound q ≡ true
  passed q later = above_both bound p q rising later

  itself : is_above (Some p) p ≡ false
  itself = ap is_lt (tied_itself pair_cmp_total p)

  put_in : (mark : Mark) → entries_above (insert index p mark) (Some p) ≤ passing (is_above (Some p)) (entries index)
  put_in mark = subst (λ es. passing (is_above (Some p)) es ≤ passing (is_above (Some p)) (entries index)) (sym (entries-insert pair_cmp_total index p mark))
      (put_apart (is_above (Some p)) p mark itself (entries index))

  len_new : (mark : Mark) → len (insert index p mark) ≡ cond (is_some (get index p)) (len index) (len index + 1)
  len_new mark = len-insert pair_cmp_total index p mark

  attempt_falls_by : (places : ℕ) (o : Option Mark) → get index p ≡ o → (o ≡ None → len index < places)
      → (places - len (set_at index p (after_action BuildPut o))) + entries_above (set_at index p (after_action BuildPut o)) (Some p) <
      (places - len index) + entries_above index bound
  attempt_falls_by places None none room =
      let longer : len (insert index p Live) ≡ len index + 1 = len_new Live ∙ ap (λ o. cond (is_some o) (len index) (len index + 1)) none in
      omega (arith, longer, room refl, put_in Live, fewer (is_above (Some p)) (is_above bound) passed (entries index))
  attempt_falls_by places (Some Live) there room =
      let same : len (insert index p Live) ≡ len index = len_new Live ∙ ap (λ o. cond (is_some o) (len index) (len index + 1)) there in
      omega (
        arith,
        same,
        put_in Live,
        one_fewer (is_above (Some p)) (is_above bound) passed p itself rising (entries index) Live
            (sym (get-entries index p) ∙ there),
      )
  attempt_falls_by places (Some Marked) there room =
      let same : len (insert index p Marked) ≡ len index = len_new Marked ∙ ap (λ o. cond (is_some o) (len index) (len index + 1)) there in
      omega (
        arith,
        same,
        put_in Marked,
        one_fewer (is_above (Some p)) (is_above bound) passed p itself rising (entries index) Marked (sym (get-entries index p)
            ∙ there),
      )

-- ---- the work that is left

-- the attempts that may come, each with a checkpoint and a taking of every page, and what comes before the next one
abbrev pub work : (pages places : ℕ) → Index → Option Pair → (tried scanned : ℕ) → ℕ
work pages places index bound tried scanned = (2 * pages + 2) * ((places - len index) + entries_above index bound) +
    (cond (nat_le ATTEMPTS_PER_CHECKPOINT tried) (pages + 1) 0 + (pages - scanned))

fewer_attempts : (width less more extra rest : ℕ) → less < more → extra < width → width * less + extra < width * more + rest
fewer_attempts width less more extra rest lt small = omega (arith, small, mul-le-mul_left width (suc_le less more lt))
  where
    suc_le : (a b : ℕ) → a < b → a + 1 ≤ b
    suc_le a b h = omega (arith, h)

at_most : (b : Bool) (n : ℕ) → cond b n 0 ≤ n
at_most true n = omega arith
at_most false n = omega arith

module _ (pages places : ℕ) (index : Index) (bound : Option Pair) (tried scanned : ℕ) where
  pub scan_falls : (page : ℕ) → scanned ≤ page → page < pages → work pages places index bound tried (page + 1) < work pages places index bound tried scanned
  scan_falls page later inside = omega (arith, later, inside)

  pub mark_falls : ATTEMPTS_PER_CHECKPOINT ≤ tried → work pages places index bound 0 scanned < work pages places index bound tried scanned
  mark_falls many =
      subst (λ b. (2 * pages + 2) * ((places - len index) + entries_above index bound) + (0 + (pages - scanned)) < (2 * pages + 2) *
      ((places - len index) + entries_above index bound) + (cond b (pages + 1) 0 + (pages - scanned)))
      (sym (le-leb ATTEMPTS_PER_CHECKPOINT tried many)) (omega arith)

  pub attempt_falls : (p : Pair) → is_above bound p ≡ true → (get index p ≡ None → len index < places)
      → work pages places (set_at index p (after_action BuildPut (get index p))) (Some p) (tried + 1) 0 < work pages places index bound tried scanned
  attempt_falls p rising room =
      fewer_attempts (2 * pages + 2) _ _ _ _ (attempt_falls_by index bound p rising places (get index p) refl room)
      (omega (arith, at_most (nat_le ATTEMPTS_PER_CHECKPOINT (tried + 1)) (pages + 1)))

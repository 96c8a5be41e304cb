-- A page and what it leaves.
use Rattle.std.proofs.Common.{◌≡◌, ℕ, zero, suc, ◌<◌, ◌≤◌, Bool, true, false, cond, List, [], ◌∷◌, ◌++◌, length, take, drop, Option, Some, None, if◌then◌else◌}
use Rattle.std.proofs.Common.{nat_lt, refl, ap, sym, ◌∙◌, arith, append-nil, append_assoc, length-append, take-append-drop, take_all}
use Rattle.std.proofs.lemmas.Bool.{le-ltb, lt-ltb, ltb-false}
use Rattle.std.proofs.lemmas.List.{take_at}
use Rattle.std.proofs.lemmas.List.Kept.{IsStrictlySortedBy-filter}
use Rattle.std.specs.List.{AllByRecursion}
use Rattle.std.specs.List.Sorted.{IsStrictlySortedBy}
use Rattle.std.specs.Ordering.{is_lt}
use Rattle.std.specs.declared.cmp.Ordering.TheVariants.{Less}
use Rattle.std.specs.Prelude.{filter}
use Rattle.record_values.specs.Orders.{pair_cmp, is_above}
use Rattle.record_values.specs.declared.pair.Pair.{Pair}
use Rattle.record_values.specs.Entries.{Index}
use Rattle.entry_scan.specs.Visible.{last_or, left_of, next_after, visible}
use Rattle.entry_scan.specs.declared.range.KeyRange.{KeyRange}
use Rattle.entry_scan.proofs.Filtered.{all_pass, all_take, all_weaker, filter_all, filter_within}
use Rattle.entry_scan.proofs.KeyOrder.{above_later, is_less, not_above_itself, not_above_later}
use Rattle.entry_scan.proofs.Listed.{visible_sorted}

-- ---- the last of some pairs

pub last_is : (P : Option Pair → Type 0) (o : Option Pair) (ps : List Pair) → P o → AllByRecursion (λ p. P (Some p)) ps → P (last_or o ps)
last_is P o [] h all = h
last_is P o (p ∷ ps) h all = last_is P (Some p) ps all.0 all.1

pub last_more : (o : Option Pair) (ps : List Pair) (p : Pair) → last_or o (ps ++ p ∷ []) ≡ Some p
last_more o [] p = refl
last_more o (q ∷ ps) p = last_more (Some q) ps p

no_pair : (p : Pair) → (◌≡◌ {A = Option Pair} (Some p) None) → ⊥
no_pair p e = absurd cc

last_some : (p : Pair) (ps : List Pair) → last_or (Some p) ps ≡ None → ⊥
last_some p [] none = no_pair p none
last_some p (q ∷ ps) none = last_some q ps none

-- ---- pairs in order is_above a pair

abbrev pub Rising : Option Pair → List Pair → Type 0
Rising o ps = AllByRecursion (λ p. is_above o p ≡ true) ps × IsStrictlySortedBy pair_cmp ps

-- behind the last of the first ones are the others
rest_behind : (o : Option Pair) (n : ℕ) (ps : List Pair) → Rising o ps → filter (is_above (last_or o (take n ps))) ps ≡ drop n ps
unfolding IsStrictlySortedBy
rest_behind o zero ps rising = filter_all (is_above o) ps rising.0
rest_behind o (suc n) [] rising = refl
rest_behind o (suc n) (p ∷ ps) rising =
    ap (λ b. cond b (p ∷ filter (is_above (last_or (Some p) (take n ps))) ps) (filter (is_above (last_or (Some p) (take n ps))) ps))
    (last_is (λ l. is_above l p ≡ false) (Some p) (take n ps) (not_above_itself p)
    (all_take (λ q. is_above (Some q) p ≡ false) n ps
    (all_weaker (λ q. pair_cmp p q ≡ Less) (λ q. is_above (Some q) p ≡ false) (λ q less. not_above_later p q less) ps rising.1.0)))
    ∙ rest_behind (Some p) n ps (all_weaker (λ q. pair_cmp p q ≡ Less) (λ q. is_above (Some p) q ≡ true) (λ q less. ap is_lt less) ps rising.1.0, rising.1.1)

-- pairs in order, and further ones behind their last, are in order
pub rising_append : (o : Option Pair) (ps qs : List Pair) → Rising o ps → Rising (last_or o ps) qs → Rising o (ps ++ qs)
unfolding IsStrictlySortedBy
rising_append o [] qs first further = further
rising_append o (p ∷ ps) qs first further =
    let rest = rising_append (Some p) ps qs
    (all_weaker (λ q. pair_cmp p q ≡ Less) (λ q. is_above (Some p) q ≡ true) (λ q less. ap is_lt less) ps first.1.0, first.1.1) further in (
      (
        first.0.0,
        all_weaker (λ q. is_above (Some p) q ≡ true) (λ q. is_above o q ≡ true) (λ q later. above_later o p q first.0.0 (is_less (pair_cmp p q) later))
            (ps ++ qs) rest.0,
      ),
      (
        all_weaker (λ q. is_above (Some p) q ≡ true) (λ q. pair_cmp p q ≡ Less) (λ q later. is_less (pair_cmp p q) later) (ps ++ qs) rest.0,
        rest.1,
      ),
    )

take_sorted : (n : ℕ) (ps : List Pair) → IsStrictlySortedBy pair_cmp ps → IsStrictlySortedBy pair_cmp (take n ps)
unfolding IsStrictlySortedBy
take_sorted zero ps sorted = tt
take_sorted (suc n) [] sorted = tt
take_sorted (suc n) (p ∷ ps) sorted = (all_take (λ q. pair_cmp p q ≡ Less) n ps sorted.0, take_sorted n ps sorted.1)

pub rising_take : (o : Option Pair) (n : ℕ) (ps : List Pair) → Rising o ps → Rising o (take n ps)
rising_take o n ps rising = (all_take (λ p. is_above o p ≡ true) n ps rising.0, take_sorted n ps rising.1)

-- ---- what is left of a range

module _ (index : Index) (range : KeyRange) (after : Option Pair) where
  pub rising_left : Rising after (left_of index range after)
  rising_left = (
    all_pass (is_above after) (visible index range),
    IsStrictlySortedBy-filter pair_cmp (is_above after) (visible index range) (visible_sorted index range),
  )

  module _ (limit : ℕ) where
    further : (p : Pair) → is_above (last_or after (take limit (left_of index range after))) p ≡ true → is_above after p ≡ true
    further = last_is (λ o. (p : Pair) → is_above o p ≡ true → is_above after p ≡ true) after (take limit (left_of index range after)) (λ p later. later)
        (all_take (λ q. (p : Pair) → is_above (Some q) p ≡ true → is_above after p ≡ true) limit (left_of index range after)
        (all_weaker (λ q. is_above after q ≡ true) (λ q. (p : Pair) → is_above (Some q) p ≡ true → is_above after p ≡ true) (λ q here p later.
        above_later after q p here (is_less (pair_cmp q p) later)) (left_of index range after) rising_left.0))

    -- behind the last pair of a page is left what the page left
    left_behind : left_of index range (last_or after (take limit (left_of index range after))) ≡ drop limit (left_of index range after)
    left_behind = sym (filter_within (is_above (last_or after (take limit (left_of index range after)))) (is_above after) further (visible index range))
        ∙ rest_behind after limit (left_of index range after) rising_left

-- ---- the pair behind which to go on

next_by : (b : Bool) (o : Option Pair) (next : Pair) → (if b then o else None) ≡ Some next → o ≡ Some next
next_by true o next is = is
next_by false o next is = absurd (no_pair next (sym is))

pub next_is : (after : Option Pair) (limit : ℕ) (left : List Pair) (next : Pair) → next_after after limit left ≡ Some next
    → last_or after (take limit left) ≡ Some next
next_is after limit left next = next_by (nat_lt limit (length left)) (last_or after (take limit left)) next

-- what was left is the page, and what is left behind its last pair
pub page_more : (index : Index) (range : KeyRange) (after : Option Pair) (limit : ℕ) (next : Pair)
    → next_after after limit (left_of index range after) ≡ Some next
    → left_of index range after ≡ take limit (left_of index range after) ++ left_of index range (Some next)
page_more index range after limit next is =
    let left = left_of index range after in
    sym (take-append-drop limit left)
    ∙ ap (λ (rest : List Pair). take limit left ++ rest)
    (sym (left_behind index range after limit) ∙ ap (left_of index range) (next_is after limit left next is))

-- with no pair behind which to go on, a page that may have pairs is all
pub page_last : (after : Option Pair) (limit : ℕ) (left : List Pair) → 0 < limit → next_after after limit left ≡ None → left ≡ take limit left
page_last after zero left some none = absurd (omega (arith, some))
page_last after (suc n) [] some none = refl
page_last after (suc n) (p ∷ ps) some none = by (nat_lt (suc n) (length (p ∷ ps))) refl none
  where
    by : (b : Bool) → nat_lt (suc n) (length (p ∷ ps)) ≡ b → (if b then last_or (Some p) (take n ps) else None) ≡ None → p ∷ ps ≡ take (suc n) (p ∷ ps)
    by true more none = absurd (last_some p (take n ps) none)
    by false few none = sym (take_all (suc n) (p ∷ ps) (ltb-false (suc n) (length (p ∷ ps)) few))

-- ---- the page that the code makes

-- these pairs are of the page, and behind the last one no other was passed over
pub record IsPart (index : Index) (range : KeyRange) (after last next : Option Pair) (limit : ℕ) (pairs : List Pair) : Type 0 where
  pub split : left_of index range after ≡ pairs ++ left_of index range last
  pub few : length pairs ≤ limit
  pub ends : next ≡ last_or after pairs

module _ (index : Index) (range : KeyRange) (after : Option Pair) (limit : ℕ) where
  pub none_yet : (last : Option Pair) (pairs : List Pair) → left_of index range last ≡ left_of index range after → pairs ≡ []
      → IsPart index range after last after limit pairs
  none_yet last pairs same none = record {
    split = sym same ∙ ap (λ (ps : List Pair). ps ++ left_of index range last) (sym none);
    few = let e = ap length none in omega (arith, e);
    ends = ap (last_or after) (sym none);
  }

  module _ (last next : Option Pair) (pairs : List Pair) (part : IsPart index range after last next limit pairs) where
    pub one_more : (p : Pair) (new : List Pair) → left_of index range last ≡ p ∷ left_of index range (Some p) → (length pairs ≡ limit → ⊥)
        → new ≡ pairs ++ p ∷ [] → IsPart index range after (Some p) (Some p) limit new
    one_more p new first not_full is = record {
      split = part.split ∙ ap (λ (ps : List Pair). pairs ++ ps) first ∙ sym (append_assoc pairs (p ∷ []) (left_of index range (Some p)))
          ∙ ap (λ (ps : List Pair). ps ++ left_of index range (Some p)) (sym is);
      few = let e = ap length is ∙ length-append pairs (p ∷ []) in let f = part.few in omega (arith, e, f, not_full);
      ends = sym (ap (last_or after) is ∙ last_more after pairs p);
    }

    -- it is full, and more is left
    module _ (p : Pair) (rest : List Pair) (first : left_of index range last ≡ p ∷ rest) (full : length pairs ≡ limit) where
      split : left_of index range after ≡ pairs ++ p ∷ rest
      split = part.split ∙ ap (λ (ps : List Pair). pairs ++ ps) first

      pub full_pairs : pairs ≡ take limit (left_of index range after)
      full_pairs = sym (ap (take limit) split ∙ take_at pairs (p ∷ rest) limit full)

      more_left : limit < length (left_of index range after)
      more_left = let e = ap length split in let f = length-append pairs (p ∷ rest) in omega (arith, e, f, full)

      pub full_next : next ≡ next_after after limit (left_of index range after)
      full_next = part.ends ∙ ap (last_or after) full_pairs
          ∙ sym (ap (λ b. if b then last_or after (take limit (left_of index range after)) else None)
          (lt-ltb limit (length (left_of index range after)) more_left))

    -- nothing is left
    module _ (none : left_of index range last ≡ []) where
      all_there : left_of index range after ≡ pairs
      all_there = part.split ∙ ap (λ (ps : List Pair). pairs ++ ps) none ∙ append-nil pairs

      few_left : length (left_of index range after) ≤ limit
      few_left = let e = ap length all_there in let f = part.few in omega (arith, e, f)

      pub last_pairs : pairs ≡ take limit (left_of index range after)
      last_pairs = sym (take_all limit (left_of index range after) few_left ∙ all_there)

      pub last_next : None ≡ next_after after limit (left_of index range after)
      last_next = sym (ap (λ b. if b then last_or after (take limit (left_of index range after)) else None)
          (le-ltb limit (length (left_of index range after)) few_left))

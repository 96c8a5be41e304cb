-- A page backward and what it leaves.
use Rattle.std.proofs.Common.{◌≡◌, ℕ, zero, suc, ◌<◌, ◌≤◌, true, false, cond, List, [], ◌∷◌, ◌++◌, length, take, drop, Option, Some, None, if◌then◌else◌}
use Rattle.std.proofs.Common.{refl, ap, sym, subst, ◌∙◌, arith, append-nil, append_assoc, length-append, take-append-drop, take_all}
use Rattle.std.proofs.lemmas.Bool.{le-ltb, lt-ltb}
use Rattle.std.proofs.lemmas.List.{take_at}
use Rattle.std.proofs.lemmas.List.Kept.{IsStrictlySortedBy-filter}
use Rattle.std.specs.List.{AllByRecursion}
use Rattle.std.specs.List.Sorted.{IsStrictlySortedBy}
use Rattle.std.specs.Ordering.{is_lt}
use Rattle.std.specs.Prelude.{filter, reverse}
use Rattle.std.specs.declared.cmp.Ordering.{Ordering}
use Rattle.std.specs.declared.cmp.Ordering.TheVariants.{Less}
use Rattle.record_values.specs.Orders.{pair_cmp}
use Rattle.record_values.specs.declared.pair.Pair.{Pair}
use Rattle.record_values.specs.Entries.{Index}
use Rattle.entry_scan.specs.Backward.{is_before, left_before}
use Rattle.entry_scan.specs.Visible.{last_or, next_after, visible}
use Rattle.entry_scan.specs.declared.range.KeyRange.{KeyRange}
use Rattle.entry_scan.proofs.Filtered.{all_pass, all_take, all_weaker, filter_all, filter_within}
use Rattle.entry_scan.proofs.KeyOrder.{before_earlier, is_less, not_before_earlier, not_before_itself}
use Rattle.entry_scan.proofs.Listed.{visible_sorted}
use Rattle.entry_scan.proofs.Paged.{last_is, last_more, next_is}
use Rattle.entry_scan.proofs.Reversed.{filter_reverse, sorted_reverse}

-- the order of pairs from the end
abbrev pub back_cmp : Pair → Pair → Ordering
back_cmp p q = pair_cmp q p

-- ---- pairs in order from the end, before a pair

abbrev pub Falling : Option Pair → List Pair → Type 0
Falling o ps = AllByRecursion (λ p. is_before o p ≡ true) ps × IsStrictlySortedBy back_cmp ps

-- before the last of the first ones are the others
rest_before : (o : Option Pair) (n : ℕ) (ps : List Pair) → Falling o ps → filter (is_before (last_or o (take n ps))) ps ≡ drop n ps
unfolding IsStrictlySortedBy
rest_before o zero ps falling = filter_all (is_before o) ps falling.0
rest_before o (suc n) [] falling = refl
rest_before o (suc n) (p ∷ ps) falling =
    ap (λ b. cond b (p ∷ filter (is_before (last_or (Some p) (take n ps))) ps) (filter (is_before (last_or (Some p) (take n ps))) ps))
    (last_is (λ l. is_before l p ≡ false) (Some p) (take n ps) (not_before_itself p)
    (all_take (λ q. is_before (Some q) p ≡ false) n ps
    (all_weaker (λ q. back_cmp p q ≡ Less) (λ q. is_before (Some q) p ≡ false) (λ q less. not_before_earlier p q less) ps falling.1.0)))
    ∙ rest_before (Some p) n ps (all_weaker (λ q. back_cmp p q ≡ Less) (λ q. is_before (Some p) q ≡ true) (λ q less. ap is_lt less) ps falling.1.0, falling.1.1)

-- pairs in order, and further ones behind their last, are in order
pub falling_append : (o : Option Pair) (ps qs : List Pair) → Falling o ps → Falling (last_or o ps) qs → Falling o (ps ++ qs)
unfolding IsStrictlySortedBy
falling_append o [] qs first further = further
falling_append o (p ∷ ps) qs first further =
    let rest = falling_append (Some p) ps qs
    (all_weaker (λ q. back_cmp p q ≡ Less) (λ q. is_before (Some p) q ≡ true) (λ q less. ap is_lt less) ps first.1.0, first.1.1) further in (
      (
        first.0.0,
        all_weaker (λ q. is_before (Some p) q ≡ true) (λ q. is_before o q ≡ true) (λ q later. before_earlier o p q first.0.0 (is_less (back_cmp p q) later))
            (ps ++ qs) rest.0,
      ),
      (
        all_weaker (λ q. is_before (Some p) q ≡ true) (λ q. back_cmp p q ≡ Less) (λ q later. is_less (back_cmp p q) later) (ps ++ qs) rest.0,
        rest.1,
      ),
    )

take_sorted : (n : ℕ) (ps : List Pair) → IsStrictlySortedBy back_cmp ps → IsStrictlySortedBy back_cmp (take n ps)
unfolding IsStrictlySortedBy
take_sorted zero ps sorted = tt
take_sorted (suc n) [] sorted = tt
take_sorted (suc n) (p ∷ ps) sorted = (all_take (λ q. back_cmp p q ≡ Less) n ps sorted.0, take_sorted n ps sorted.1)

pub falling_take : (o : Option Pair) (n : ℕ) (ps : List Pair) → Falling o ps → Falling o (take n ps)
falling_take o n ps falling = (all_take (λ p. is_before o p ≡ true) n ps falling.0, take_sorted n ps falling.1)

-- ---- what is left of a range

module _ (index : Index) (range : KeyRange) (before : Option Pair) where
  pub falling_left : Falling before (left_before index range before)
  falling_left = subst (λ (ps : List Pair). Falling before ps) (filter_reverse (is_before before) (visible index range)) (
    all_pass (is_before before) (reverse (visible index range)),
    IsStrictlySortedBy-filter back_cmp (is_before before) (reverse (visible index range))
        (sorted_reverse pair_cmp (visible index range) (visible_sorted index range)),
  )

  module _ (limit : ℕ) where
    further : (p : Pair) → is_before (last_or before (take limit (left_before index range before))) p ≡ true → is_before before p ≡ true
    further = last_is (λ o. (p : Pair) → is_before o p ≡ true → is_before before p ≡ true) before (take limit (left_before index range before))
        (λ p later. later)
        (all_take (λ q. (p : Pair) → is_before (Some q) p ≡ true → is_before before p ≡ true) limit (left_before index range before)
        (all_weaker (λ q. is_before before q ≡ true) (λ q. (p : Pair) → is_before (Some q) p ≡ true → is_before before p ≡ true) (λ q here p later.
        before_earlier before q p here (is_less (back_cmp q p) later)) (left_before index range before) falling_left.0))

    -- before the last pair of a page is left what the page left
    left_beyond : left_before index range (last_or before (take limit (left_before index range before))) ≡ drop limit (left_before index range before)
    left_beyond =
        let end = last_or before (take limit (left_before index range before)) in
        sym (filter_reverse (is_before end) (visible index range))
        ∙ sym (filter_within (is_before end) (is_before before) further (reverse (visible index range)))
        ∙ ap (filter (is_before end)) (filter_reverse (is_before before) (visible index range))
        ∙ rest_before before limit (left_before index range before) falling_left

-- what was left is the page, and what is left before its last pair
pub page_back_more : (index : Index) (range : KeyRange) (before : Option Pair) (limit : ℕ) (next : Pair)
    → next_after before limit (left_before index range before) ≡ Some next
    → left_before index range before ≡ take limit (left_before index range before) ++ left_before index range (Some next)
page_back_more index range before limit next is =
    let left = left_before index range before in
    sym (take-append-drop limit left)
    ∙ ap (λ (rest : List Pair). take limit left ++ rest)
    (sym (left_beyond index range before limit) ∙ ap (left_before index range) (next_is before limit left next is))

-- ---- the page that the code makes

-- these pairs are of the page, and no other was passed over
pub record IsPartBack (index : Index) (range : KeyRange) (before last next : Option Pair) (limit : ℕ) (pairs : List Pair) : Type 0 where
  pub split : left_before index range before ≡ pairs ++ left_before index range last
  pub few : length pairs ≤ limit
  pub ends : next ≡ last_or before pairs

module _ (index : Index) (range : KeyRange) (before : Option Pair) (limit : ℕ) where
  pub none_yet : (last : Option Pair) (pairs : List Pair) → left_before index range last ≡ left_before index range before → pairs ≡ []
      → IsPartBack index range before last before limit pairs
  none_yet last pairs same none = record {
    split = sym same ∙ ap (λ (ps : List Pair). ps ++ left_before index range last) (sym none);
    few = let e = ap length none in omega (arith, e);
    ends = ap (last_or before) (sym none);
  }

  module _ (last next : Option Pair) (pairs : List Pair) (part : IsPartBack index range before last next limit pairs) where
    pub one_more : (p : Pair) (new : List Pair) → left_before index range last ≡ p ∷ left_before index range (Some p) → (length pairs ≡ limit → ⊥)
        → new ≡ pairs ++ p ∷ [] → IsPartBack index range before (Some p) (Some p) limit new
    one_more p new first not_full is = record {
      split = part.split ∙ ap (λ (ps : List Pair). pairs ++ ps) first ∙ sym (append_assoc pairs (p ∷ []) (left_before index range (Some p)))
          ∙ ap (λ (ps : List Pair). ps ++ left_before index range (Some p)) (sym is);
      few = let e = ap length is ∙ length-append pairs (p ∷ []) in let f = part.few in omega (arith, e, f, not_full);
      ends = sym (ap (last_or before) is ∙ last_more before pairs p);
    }

    -- it is full, and more is left
    module _ (p : Pair) (rest : List Pair) (first : left_before index range last ≡ p ∷ rest) (full : length pairs ≡ limit) where
      split : left_before index range before ≡ pairs ++ p ∷ rest
      split = part.split ∙ ap (λ (ps : List Pair). pairs ++ ps) first

      pub full_pairs : pairs ≡ take limit (left_before index range before)
      full_pairs = sym (ap (take limit) split ∙ take_at pairs (p ∷ rest) limit full)

      more_left : limit < length (left_before index range before)
      more_left = let e = ap length split in let f = length-append pairs (p ∷ rest) in omega (arith, e, f, full)

      pub full_next : next ≡ next_after before limit (left_before index range before)
      full_next = part.ends ∙ ap (last_or before) full_pairs
          ∙ sym (ap (λ b. if b then last_or before (take limit (left_before index range before)) else None)
          (lt-ltb limit (length (left_before index range before)) more_left))

    -- nothing is left
    module _ (none : left_before index range last ≡ []) where
      all_there : left_before index range before ≡ pairs
      all_there = part.split ∙ ap (λ (ps : List Pair). pairs ++ ps) none ∙ append-nil pairs

      few_left : length (left_before index range before) ≤ limit
      few_left = let e = ap length all_there in let f = part.few in omega (arith, e, f)

      pub last_pairs : pairs ≡ take limit (left_before index range before)
      last_pairs = sym (take_all limit (left_before index range before) few_left ∙ all_there)

      pub last_next : None ≡ next_after before limit (left_before index range before)
      last_next = sym (ap (λ b. if b then last_or before (take limit (left_before index range before)) else None)
          (le-ltb limit (length (left_before index range before)) few_left))

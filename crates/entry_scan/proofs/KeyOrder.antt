-- The order of keys and of pairs.
use Rattle.std.proofs.Common.{◌≡◌, ℕ, zero, suc, ◌+◌, ◌<◌, ◌≤◌, Bool, true, false, cond, ◌&&◌, not, List, [], ◌∷◌, ◌++◌, length, set, replicate, get_or}
use Rattle.std.proofs.Common.{Option, Some, None, IfSome, ◌⊎◌, inl, inr, refl, ap, sym, ◌∙◌, arith, nat_eq, nat_lt}
use Rattle.std.proofs.lemmas.Bool.{and_parts, false≢true, lt-ltb, le-ltb, ltb-true, ne_eqb, true≢false}
use Rattle.std.specs.BTreeMap.Range.{is_from_start, is_past_end, range_contains}
use Rattle.std.specs.Cmp.{nat_cmp_total, tied_itself}
use Rattle.std.specs.Cmp.Lexicographic.{nat_list_cmp_total, slice_cmp}
use Rattle.std.specs.FinMap.{nat_cmp-IsAntisymmetric, slice_cmp-IsAntisymmetric}
use Rattle.std.specs.List.{starts_with}
use Rattle.std.specs.Prelude.{◌↔◌}
use Rattle.std.specs.Ordering.{is_le, is_lt, nat_cmp, ordering_reverse, ordering_then}
use Rattle.std.specs.declared.cmp.Ordering.{Ordering}
use Rattle.std.specs.declared.cmp.Ordering.TheVariants.{Equal, Greater, Less}
use Rattle.std.specs.declared.ops.Bound.{Bound}
use Rattle.std.specs.declared.ops.Bound.TheVariants.{Excluded, Included, Unbounded}
use Rattle.record_values.specs.Orders.{pair_cmp, pair_cmp_total, rid_cmp, is_above}
use Rattle.record_values.specs.declared.pair.Pair.{Pair}
use Rattle.entry_scan.specs.Backward.{is_before}

abbrev pub Bytes : Type 0
Bytes = List ℕ

abbrev pub key_cmp : Bytes → Bytes → Ordering
key_cmp = slice_cmp nat_cmp

-- ---- answers of a comparison

pub is_less : (o : Ordering) → is_lt o ≡ true → o ≡ Less
is_less Less is = refl
is_less Equal is = absurd (false≢true is)
is_less Greater is = absurd (false≢true is)

less_or_equal : (o : Ordering) → is_le o ≡ true → (o ≡ Less) ⊎ (o ≡ Equal)
less_or_equal Less is = inl refl
less_or_equal Equal is = inr refl
less_or_equal Greater is = absurd (false≢true is)

same_keys : (a b : Bytes) → key_cmp a b ≡ Equal → a ≡ b
same_keys = slice_cmp-IsAntisymmetric nat_cmp-IsAntisymmetric

-- a range of one key has that key alone
pub only_key : (key other : Bytes) → (range_contains key_cmp (Included key) (Included key) other ≡ true) ↔ (other ≡ key)
only_key key other = (
  by (key_cmp key other) refl,
  λ same. ap (range_contains key_cmp (Included key) (Included key)) same
      ∙ ap (λ o. is_le o && not (is_lt o)) (tied_itself nat_list_cmp_total key),
)
  where
    by : (o : Ordering) → key_cmp key other ≡ o → (is_le (key_cmp key other) && not (is_lt (key_cmp key other))) ≡ true → other ≡ key
    by Less is within = absurd (false≢true (ap (λ o. is_le o && not (is_lt o)) (sym is) ∙ within))
    by Equal is within = sym (same_keys key other is)
    by Greater is within = absurd (false≢true (ap (λ o. is_le o && not (is_lt o)) (sym is) ∙ within))

-- ---- pairs

pub not_above_itself : (p : Pair) → is_above (Some p) p ≡ false
not_above_itself p = ap is_lt (tied_itself pair_cmp_total p)

pub not_above_later : (p q : Pair) → pair_cmp p q ≡ Less → is_above (Some q) p ≡ false
not_above_later p q less = ap is_lt (pair_cmp_total.antisymm q p ∙ ap ordering_reverse less)

pub above_later : (o : Option Pair) (p q : Pair) → is_above o p ≡ true → pair_cmp p q ≡ Less → is_above o q ≡ true
above_later None p q after less = refl
above_later (Some l) p q after less = ap is_lt (pair_cmp_total.trans l p q (is_less (pair_cmp l p) after) less)

-- a pair of a lesser key is before
pub before_by_key : (p q : Pair) → key_cmp p.key q.key ≡ Less → pair_cmp p q ≡ Less
before_by_key p q less = ap (λ o. ordering_then o (rid_cmp p.rid q.rid)) less

-- the keys of two pairs in order are in order
keys_rise : (p q : Pair) → pair_cmp p q ≡ Less → (key_cmp p.key q.key ≡ Less) ⊎ (p.key ≡ q.key)
keys_rise p q less = by (key_cmp p.key q.key) refl less
  where
    by : (o : Ordering) → key_cmp p.key q.key ≡ o → ordering_then o (rid_cmp p.rid q.rid) ≡ Less → (key_cmp p.key q.key ≡ Less) ⊎ (p.key ≡ q.key)
    by Less is less = inl is
    by Equal is less = inr (same_keys p.key q.key is)
    by Greater is less = absurd (false≢true (ap is_lt less))

-- ---- the end of a range

past_by : (to : Bound Bytes) (a b : Bytes) → key_cmp a b ≡ Less → is_past_end key_cmp to a ≡ true → is_past_end key_cmp to b ≡ true
past_by (Included k) a b less past = ap is_lt (nat_list_cmp_total.trans k a b (is_less (key_cmp k a) past) less)
past_by (Excluded k) a b less past =
    elim (less_or_equal (key_cmp k a) past) [
      | inl is ↦ ap is_le (nat_list_cmp_total.trans k a b is less)
      | inr is ↦ ap is_le (nat_list_cmp_total.congr k a b is ∙ less)
    ]
past_by Unbounded a b less past = absurd (false≢true past)

-- what comes after a pair past the end is past the end
pub past_later : (to : Bound Bytes) (p q : Pair) → pair_cmp p q ≡ Less → is_past_end key_cmp to p.key ≡ true → is_past_end key_cmp to q.key ≡ true
past_later to p q less past =
    elim (keys_rise p q less) [
      | inl rise ↦ past_by to p.key q.key rise past
      | inr same ↦ ap (is_past_end key_cmp to) (sym same) ∙ past
    ]

-- ---- the beginning of a range

-- a pair of a key before the bound is before the range
pub before_included : (from to : Bound Bytes) (bound : Bytes) (l p : Pair) → from ≡ Included bound → key_cmp l.key bound ≡ Less
    → range_contains key_cmp from to p.key ≡ true → is_above (Some l) p ≡ true
before_included from to bound l p is less within =
    ap is_lt (before_by_key l p (by (less_or_equal (key_cmp bound p.key)
    (ap (λ f. is_from_start key_cmp f p.key) (sym is) ∙ (and_parts (is_from_start key_cmp from p.key) (not (is_past_end key_cmp to p.key)) within).0))))
  where
    by : (key_cmp bound p.key ≡ Less) ⊎ (key_cmp bound p.key ≡ Equal) → key_cmp l.key p.key ≡ Less
    by (inl rise) = nat_list_cmp_total.trans l.key bound p.key less rise
    by (inr tie) = ap (key_cmp l.key) (sym (same_keys bound p.key tie)) ∙ less

pub before_some : (from to : Bound Bytes) (bound : Bytes) (o : Option Pair) (p : Pair) → from ≡ Included bound → IfSome o (λ l. key_cmp l.key bound ≡ Less)
    → range_contains key_cmp from to p.key ≡ true → is_above o p ≡ true
before_some from to bound None p is less within = refl
before_some from to bound (Some l) p is less within = before_included from to bound l p is less within

-- and so is one of an excluded bound
pub before_excluded : (from to : Bound Bytes) (l p : Pair) → from ≡ Excluded l.key → range_contains key_cmp from to p.key ≡ true → is_above (Some l) p ≡ true
before_excluded from to l p is within =
    ap is_lt (before_by_key l p (is_less (key_cmp l.key p.key)
    (ap (λ f. is_from_start key_cmp f p.key) (sym is) ∙ (and_parts (is_from_start key_cmp from p.key) (not (is_past_end key_cmp to p.key)) within).0)))

-- ---- behind the end of a range

not_less : (o : Ordering) → not (is_lt o) ≡ true → (o ≡ Equal) ⊎ (o ≡ Greater)
not_less Less is = absurd (false≢true is)
not_less Equal is = inl refl
not_less Greater is = inr refl

greater : (o : Ordering) → not (is_le o) ≡ true → o ≡ Greater
greater Less is = absurd (false≢true is)
greater Equal is = absurd (false≢true is)
greater Greater is = refl

-- a pair of a key behind the bound is behind the range
pub behind_included : (from to : Bound Bytes) (bound : Bytes) (l p : Pair) → to ≡ Included bound → key_cmp bound l.key ≡ Less
    → range_contains key_cmp from to p.key ≡ true → is_before (Some l) p ≡ true
behind_included from to bound l p is less within =
    ap is_lt (before_by_key p l (by (not_less (key_cmp bound p.key)
    (ap (λ t. not (is_past_end key_cmp t p.key)) (sym is) ∙ (and_parts (is_from_start key_cmp from p.key) (not (is_past_end key_cmp to p.key)) within).1))))
  where
    by : (key_cmp bound p.key ≡ Equal) ⊎ (key_cmp bound p.key ≡ Greater) → key_cmp p.key l.key ≡ Less
    by (inl tie) = ap (λ (k : Bytes). key_cmp k l.key) (sym (same_keys bound p.key tie)) ∙ less
    by (inr behind) = nat_list_cmp_total.trans p.key bound l.key (nat_list_cmp_total.antisymm p.key bound ∙ ap ordering_reverse behind) less

pub behind_some : (from to : Bound Bytes) (bound : Bytes) (o : Option Pair) (p : Pair) → to ≡ Included bound → IfSome o (λ l. key_cmp bound l.key ≡ Less)
    → range_contains key_cmp from to p.key ≡ true → is_before o p ≡ true
behind_some from to bound None p is less within = refl
behind_some from to bound (Some l) p is less within = behind_included from to bound l p is less within

-- and so is one of an excluded bound
pub behind_excluded : (from to : Bound Bytes) (l p : Pair) → to ≡ Excluded l.key → range_contains key_cmp from to p.key ≡ true → is_before (Some l) p ≡ true
behind_excluded from to l p is within =
    ap is_lt (before_by_key p l (nat_list_cmp_total.antisymm p.key l.key ∙ ap ordering_reverse (greater (key_cmp l.key p.key)
    (ap (λ t. not (is_past_end key_cmp t p.key)) (sym is) ∙ (and_parts (is_from_start key_cmp from p.key) (not (is_past_end key_cmp to p.key)) within).1))))

-- what comes before a pair before the beginning is before it
unbegun_by : (from : Bound Bytes) (a b : Bytes) → key_cmp b a ≡ Less → is_from_start key_cmp from a ≡ false → is_from_start key_cmp from b ≡ false
unbegun_by (Included k) a b less is = by (key_cmp k b) refl
  where
    begun : key_cmp k a ≡ Less → is_le (key_cmp k b) ≡ false
    begun before = absurd (true≢false (ap is_le (sym before) ∙ is))

    by : (o : Ordering) → key_cmp k b ≡ o → is_le (key_cmp k b) ≡ false
    by Less e = begun (nat_list_cmp_total.trans k b a e less)
    by Equal e = begun (nat_list_cmp_total.congr k b a e ∙ less)
    by Greater e = ap is_le e
unbegun_by (Excluded k) a b less is = by (key_cmp k b) refl
  where
    by : (o : Ordering) → key_cmp k b ≡ o → is_lt (key_cmp k b) ≡ false
    by Less e = absurd (true≢false (ap is_lt (sym (nat_list_cmp_total.trans k b a e less)) ∙ is))
    by Equal e = ap is_lt e
    by Greater e = ap is_lt e
unbegun_by Unbounded a b less is = absurd (true≢false is)

pub unbegun_earlier : (from : Bound Bytes) (p q : Pair) → pair_cmp q p ≡ Less → is_from_start key_cmp from p.key ≡ false
    → is_from_start key_cmp from q.key ≡ false
unbegun_earlier from p q less unbegun =
    elim (keys_rise q p less) [
      | inl rise ↦ unbegun_by from p.key q.key rise unbegun
      | inr same ↦ ap (is_from_start key_cmp from) same ∙ unbegun
    ]

-- ---- pairs before a pair

pub not_before_itself : (p : Pair) → is_before (Some p) p ≡ false
not_before_itself p = ap is_lt (tied_itself pair_cmp_total p)

pub not_before_earlier : (p q : Pair) → pair_cmp q p ≡ Less → is_before (Some q) p ≡ false
not_before_earlier p q less = ap is_lt (pair_cmp_total.antisymm p q ∙ ap ordering_reverse less)

pub before_earlier : (o : Option Pair) (p q : Pair) → is_before o p ≡ true → pair_cmp q p ≡ Less → is_before o q ≡ true
before_earlier None p q before less = refl
before_earlier (Some l) p q before less = ap is_lt (pair_cmp_total.trans q p l less (is_less (pair_cmp p l) before))

-- ---- the later of two pairs

second_alone : (a b : Bool) → (b ≡ true → a ≡ true) → b ≡ (a && b)
second_alone true b weaker = refl
second_alone false true weaker = absurd (false≢true (weaker refl))
second_alone false false weaker = refl

first_alone : (a b : Bool) → (a ≡ true → b ≡ true) → a ≡ (a && b)
first_alone true true weaker = refl
first_alone true false weaker = absurd (false≢true (weaker refl))
first_alone false b weaker = refl

-- what is is_above the later one is is_above both
pub above_second : (a b p : Pair) → is_lt (pair_cmp a b) ≡ true → is_above (Some b) p ≡ (is_above (Some a) p && is_above (Some b) p)
above_second a b p less = second_alone (is_above (Some a) p) (is_above (Some b) p) (λ after.
    ap is_lt (pair_cmp_total.trans a b p (is_less (pair_cmp a b) less) (is_less (pair_cmp b p) after)))

pub above_first : (a b p : Pair) → is_lt (pair_cmp a b) ≡ false → is_above (Some a) p ≡ (is_above (Some a) p && is_above (Some b) p)
above_first a b p not_less = first_alone (is_above (Some a) p) (is_above (Some b) p) (by (pair_cmp a b) refl)
  where
    by : (o : Ordering) → pair_cmp a b ≡ o → is_above (Some a) p ≡ true → is_above (Some b) p ≡ true
    by Less is after = absurd (true≢false (sym (ap is_lt is) ∙ not_less))
    by Equal is after = ap is_lt (sym (pair_cmp_total.congr a b p is)) ∙ after
    by Greater is after = ap is_lt (pair_cmp_total.trans b a p (pair_cmp_total.antisymm b a ∙ ap ordering_reverse is) (is_less (pair_cmp a p) after))

pub above_alone : (o : Option Pair) (p : Pair) → is_above o p ≡ (is_above o p && true)
above_alone o p = first_alone (is_above o p) true (λ after. refl)

-- ---- the earlier of two pairs

-- what is before the earlier one is before both
pub before_second : (a b p : Pair) → is_lt (pair_cmp b a) ≡ true → is_before (Some b) p ≡ (is_before (Some a) p && is_before (Some b) p)
before_second a b p less = second_alone (is_before (Some a) p) (is_before (Some b) p) (λ before.
    ap is_lt (pair_cmp_total.trans p b a (is_less (pair_cmp p b) before) (is_less (pair_cmp b a) less)))

pub before_first : (a b p : Pair) → is_lt (pair_cmp b a) ≡ false → is_before (Some a) p ≡ (is_before (Some a) p && is_before (Some b) p)
before_first a b p not_less = first_alone (is_before (Some a) p) (is_before (Some b) p) (by (pair_cmp b a) refl)
  where
    by : (o : Ordering) → pair_cmp b a ≡ o → is_before (Some a) p ≡ true → is_before (Some b) p ≡ true
    by Less is before = absurd (true≢false (sym (ap is_lt is) ∙ not_less))
    by Equal is before = ap is_lt (pair_cmp_total.antisymm p b ∙ ap ordering_reverse (pair_cmp_total.congr b a p is)
        ∙ sym (pair_cmp_total.antisymm p a)) ∙ before
    by Greater is before = ap is_lt (pair_cmp_total.trans p a b (is_less (pair_cmp p a) before) (pair_cmp_total.antisymm a b ∙ ap ordering_reverse is))

pub before_alone : (o : Option Pair) (p : Pair) → is_before o p ≡ (is_before o p && true)
before_alone o p = first_alone (is_before o p) true (λ before. refl)

-- ---- keys before a key

tied_front : (x : ℕ) (o : Ordering) → ordering_then (nat_cmp x x) o ≡ o
tied_front x o = ap (λ a. ordering_then a o) (tied_itself nat_cmp_total x)

lesser : (a b : ℕ) → a < b → nat_cmp a b ≡ Less
lesser a b less = ap (λ t. cond t Less (cond (nat_eq a b) Equal Greater)) (lt-ltb a b less)

-- a key without its last byte is before it
pub shorter_before : (front : Bytes) (last : ℕ) → key_cmp front (front ++ last ∷ []) ≡ Less
shorter_before [] last = refl
shorter_before (x ∷ front) last = tied_front x (key_cmp front (front ++ last ∷ [])) ∙ shorter_before front last

-- and so is one that has a lesser byte there
pub lesser_before : (front back : Bytes) (byte last : ℕ) → byte < last → 0 < length back
    → key_cmp (set (front ++ back) (length front) byte) (front ++ last ∷ []) ≡ Less
lesser_before [] [] byte last less some = absurd (omega (arith, some))
lesser_before [] (b ∷ back) byte last less some = ap (λ o. ordering_then o (key_cmp back [])) (lesser byte last less)
lesser_before (x ∷ front) back byte last less some =
    tied_front x (key_cmp (set (front ++ back) (length front) byte) (front ++ last ∷ [])) ∙ lesser_before front back byte last less some

-- ---- keys behind a key

-- a key with a greater byte is behind all that have the lesser one there
pub greater_behind : (front rest : Bytes) (last byte : ℕ) → last < byte → key_cmp ((front ++ last ∷ []) ++ rest) (front ++ byte ∷ []) ≡ Less
greater_behind [] rest last byte less = ap (λ o. ordering_then o (key_cmp rest [])) (lesser last byte less)
greater_behind (x ∷ front) rest last byte less = tied_front x (key_cmp ((front ++ last ∷ []) ++ rest) (front ++ byte ∷ []))
    ∙ greater_behind front rest last byte less

-- ---- keys with a prefix

abbrev pub AreBytes : Bytes → Type 0
AreBytes key = (i : ℕ) → get_or key i 0 < 256

rest_bytes : (b : ℕ) (key : Bytes) → AreBytes (b ∷ key) → AreBytes key
rest_bytes b key bytes i = bytes (suc i)

-- no key is behind one that has the greatest bytes as far as keys go
none_greater : (n : ℕ) (key : Bytes) → AreBytes key → length key ≤ n → is_lt (key_cmp (replicate n 255) key) ≡ false
none_greater zero [] bytes fits = refl
none_greater (suc n) [] bytes fits = refl
none_greater zero (b ∷ key) bytes fits = absurd (omega (arith, fits))
none_greater (suc n) (b ∷ key) bytes fits = by (nat_lt 255 b) (nat_eq 255 b) (le-ltb 255 b (let most = bytes 0 in omega (arith, most)))
    (none_greater n key (rest_bytes b key bytes) (omega (arith, fits)))
  where
    by : (less same : Bool) → less ≡ false → is_lt (key_cmp (replicate n 255) key) ≡ false
        → is_lt (ordering_then (cond less Less (cond same Equal Greater)) (key_cmp (replicate n 255) key)) ≡ false
    by true same greater rest = absurd (true≢false greater)
    by false true greater rest = rest
    by false false greater rest = refl

prefix_by : (from to : Ordering) (rest less same : Bool) → (less ≡ true → same ≡ false) → (is_le from && not (is_lt to)) ≡ rest
    → (is_le (ordering_then (cond less Less (cond same Equal Greater)) from) && not (is_lt (ordering_then (cond less Less (cond same Equal Greater)) to)))
    ≡ (same && rest)
prefix_by from to rest true true apart is = absurd (true≢false (apart refl))
prefix_by from to rest true false apart is = refl
prefix_by from to rest false true apart is = is
prefix_by from to rest false false apart is = refl

-- the keys from a prefix on up to the last one that begins with it are those that begin with it
pub prefix_range : (prefix key : Bytes) (n : ℕ) → AreBytes key → length key ≤ length prefix + n
    → range_contains key_cmp (Included prefix) (Included (prefix ++ replicate n 255)) key ≡ starts_with nat_eq key prefix
prefix_range [] [] n bytes fits = ap (λ b. true && not b) (none_greater n [] bytes (omega (arith, fits)))
prefix_range [] (b ∷ key) n bytes fits = ap (λ b. true && not b) (none_greater n (b ∷ key) bytes (omega (arith, fits)))
prefix_range (p ∷ prefix) [] n bytes fits = refl
prefix_range (p ∷ prefix) (b ∷ key) n bytes fits = prefix_by (key_cmp prefix key) (key_cmp (prefix ++ replicate n 255) key) (starts_with nat_eq key prefix)
    (nat_lt p b) (nat_eq p b) (λ less. ne_eqb p b (λ same. let l = ltb-true p b less in omega (arith, l, same)))
    (prefix_range prefix key n (rest_bytes b key bytes) (omega (arith, fits)))

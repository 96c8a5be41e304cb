-- How many entries are marked, after a change of one.
use Rattle.std.proofs.Common.{◌≡◌, ◌<◌, ◌≤◌, ◌+◌, ℕ, Bool, true, false, cond, filter, ◌&&◌, T, List, [], ◌∷◌, length, Option, Some, None}
use Rattle.std.proofs.Common.{refl, sym, ap, subst, ◌∙◌, arith}
use Rattle.std.proofs.lemmas.List.Filters.{length-filter_both}
use Rattle.std.specs.FinMap as map
use Rattle.std.specs.FinMap.Entries.{below_all, by_order, find, is_sorted, put}
use Rattle.std.specs.Ordering.{is_eq, is_lt}
use Rattle.std.specs.Prelude.{not}
use Rattle.std.specs.declared.cmp.Ordering.{Ordering}
use Rattle.std.specs.declared.cmp.Ordering.TheVariants.{Equal, Greater, Less}
use Rattle.record_values.specs.Maps.{get-set_at_same, pair_exact, set_at, set_at-again, set_at-get}
use Rattle.record_values.specs.Orders.{pair_cmp, pair_cmp_total}
use Rattle.btree_node.specs.declared.limits.TheConstants.{ENTRIES_MAX}
use Rattle.record_values.specs.declared.pair.Mark.{Mark}
use Rattle.record_values.specs.declared.pair.Mark.TheVariants.{Live, Marked}
use Rattle.record_values.specs.declared.pair.Pair.{Pair}
use Rattle.record_values.specs.Entries.{Index}
use Rattle.marked_index.specs.Counts.{IsCounted, is_marked, live_in, marked_in, marked_of}
use Rattle.marked_index.proofs.Actions.{by_mark, len_added, len_changed, len_removed}

abbrev Entry : Type 0
Entry = Pair × Mark

abbrev kept : List Entry → List Entry
kept es = filter (λ (e : Entry). is_marked e.1) es

-- how many of these are marked
total : List Entry → ℕ
total es = length (kept es)

total_none : total [] ≡ 0
unfolding total
total_none = refl

one_kept : (x : Mark) (e : Entry) (es : List Entry) → length (cond (is_marked x) (e ∷ es) es) ≡ marked_of (Some x) + length es
one_kept Live e es = omega arith
one_kept Marked e es = omega arith

total_cons : (e : Entry) (es : List Entry) → total (e ∷ es) ≡ marked_of (Some e.1) + total es
unfolding total
total_cons e es = one_kept e.1 e (kept es)

marked_is : (m : Index) → marked_in m ≡ total (map.entries m)
unfolding marked_in total
marked_is m = refl

first : (a b : Bool) → T (a && b) → T a
first true b h = tt
first false b h = absurd h

second : (a b : Bool) → T (a && b) → T b
second true b h = h
second false b h = absurd h

less_is : (o : Ordering) → T (is_lt o) → o ≡ Less
less_is Less h = refl
less_is Equal h = absurd h
less_is Greater h = absurd h

-- what is below all of them is not among them
not_found : (p q : Pair) (es : List Entry) → pair_cmp p q ≡ Less → T (below_all pair_cmp q es) → find pair_cmp p es ≡ None
not_found p q [] less h = refl
not_found p q (e ∷ es) less h =
    ap (λ o. cond (is_eq o) (Some e.1) (find pair_cmp p es)) (pair_cmp_total.trans p q e.0 less (less_is (pair_cmp q e.0) (first _ _ h)))
    ∙ not_found p q es less (second _ _ h)

module _ (p : Pair) (x : Mark) where
  total_by : (e : Entry) (es : List Entry) (o : Ordering) → pair_cmp p e.0 ≡ o → T (below_all pair_cmp e.0 es)
      → total (put pair_cmp p x es) + marked_of (find pair_cmp p es) ≡ total es + marked_of (Some x)
      → total (by_order o ((p, x) ∷ e ∷ es) ((e.0, x) ∷ es) (e ∷ put pair_cmp p x es)) + marked_of (cond (is_eq o) (Some e.1) (find pair_cmp p es))
      ≡ total (e ∷ es) + marked_of (Some x)
  total_by e es Less is h rest = omega (arith, total_cons (p, x) (e ∷ es), ap marked_of (not_found p e.0 es is h))
  total_by e es Equal is h rest = omega (arith, total_cons (e.0, x) es, total_cons e es)
  total_by e es Greater is h rest = omega (arith, total_cons e (put pair_cmp p x es), total_cons e es, rest)

  total_put : (es : List Entry) → T (is_sorted pair_cmp es) → total (put pair_cmp p x es) + marked_of (find pair_cmp p es) ≡ total es + marked_of (Some x)
  total_put [] h = omega (arith, total_cons (p, x) [], total_none)
  total_put (e ∷ es) h = total_by e es (pair_cmp p e.0) refl (first _ _ h) (total_put es (second _ _ h))

marked_insert : (m : Index) (p : Pair) (x : Mark) → marked_in (map.insert m p x) + marked_of (map.get m p) ≡ marked_in m + marked_of (Some x)
marked_insert m p x =
    ap (λ n. n + marked_of (map.get m p)) (marked_is (map.insert m p x) ∙ ap total (map.entries-insert pair_cmp_total m p x))
    ∙ ap (λ o. total (put pair_cmp p x (map.entries m)) + marked_of o) (map.get-entries m p)
    ∙ total_put p x (map.entries m) (map.entries_sorted m)
    ∙ ap (λ n. n + marked_of (Some x)) (sym (marked_is m))

removed_by : (m : Index) (p : Pair) (o : Option Mark) → map.get m p ≡ o → marked_in (map.remove m p) + marked_of o ≡ marked_in m
removed_by m p None is =
    let same : map.remove m p ≡ m = ap (set_at m p) (sym is) ∙ set_at-get pair_exact m p in
    omega (arith, ap marked_in same)
removed_by m p (Some x) is =
    let back : map.insert (map.remove m p) p x ≡ m = set_at-again pair_exact m p None (Some x) ∙ ap (set_at m p) (sym is) ∙ set_at-get pair_exact m p in
    let gone : map.get (map.remove m p) p ≡ None = get-set_at_same pair_exact m p None in
    omega (arith, marked_insert (map.remove m p) p x, ap marked_in back, ap marked_of gone)

marked_remove : (m : Index) (p : Pair) → marked_in (map.remove m p) + marked_of (map.get m p) ≡ marked_in m
marked_remove m p = removed_by m p (map.get m p) refl

-- each entry is marked or live
pub each_counted : (m : Index) → marked_in m + live_in m ≡ map.len m
unfolding marked_in live_in
each_counted m = length-filter_both (λ (e : Entry). is_marked e.1) (λ (e : Entry). not (is_marked e.1)) (λ e. refl) (map.entries m) ∙ sym (map.len-entries m)

none_marked : marked_in map.empty ≡ 0
none_marked = omega (arith, each_counted map.empty, map.len-empty pair_cmp Mark)

-- ---- the number that is kept

pub counted_none : (m : Index) → m ≡ map.empty → IsCounted m 0
counted_none m is = record {
  number = sym (ap marked_in is ∙ none_marked);
  most = omega (arith, ap map.len is, map.len-empty pair_cmp Mark);
}

-- the entry of a pair is no more than all
pub among_all : (m : Index) (k : ℕ) (p : Pair) (o : Option Mark) → IsCounted m k → map.get m p ≡ o → marked_of o ≤ k
among_all m k p o is here = omega (arith, removed_by m p o here, is.number)

pub few_marked : (m : Index) (k : ℕ) → IsCounted m k → k ≤ ENTRIES_MAX
few_marked m k is = omega (arith, each_counted m, is.number, is.most)

module _ (m n : Index) (p : Pair) (o : Option Mark) (k j : ℕ) (is : IsCounted m k) (here : map.get m p ≡ o) where
  within : (x : Mark) → (o ≡ None → map.len m < ENTRIES_MAX) → map.len (map.insert m p x) ≤ ENTRIES_MAX
  within x room = by_mark (map.len (map.insert m p x) ≤ ENTRIES_MAX) (map.get m p)
      (λ none. let left : map.len m < ENTRIES_MAX = room (sym here ∙ none) in omega (arith, len_added m p x none, left))
      (λ there. omega (arith, len_changed m p x there, is.most))

  pub counted_insert : (x : Mark) → (o ≡ None → map.len m < ENTRIES_MAX) → n ≡ map.insert m p x → j + marked_of o ≡ k + marked_of (Some x)
      → IsCounted n j
  counted_insert x room new sum = record {
    number = omega (arith, marked_insert m p x, ap marked_of here, ap marked_in new, is.number, sum);
    most = omega (arith, within x room, ap map.len new);
  }

  pub counted_remove : n ≡ map.remove m p → j + marked_of o ≡ k + marked_of None → IsCounted n j
  counted_remove new sum = record {
    number = omega (arith, marked_remove m p, ap marked_of here, ap marked_in new, is.number, sum);
    most = omega (arith, len_removed m p, ap map.len new, is.most);
  }

pub counted_same : (m n : Index) (k : ℕ) → IsCounted m k → n ≡ m → IsCounted n k
counted_same m n k is same = subst (λ i. IsCounted i k) (sym same) is

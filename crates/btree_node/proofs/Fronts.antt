-- Lemmas on runs of entries.
use Rattle.std.proofs.Common.{◌≡◌, ℕ, ◌+◌, ◌<◌, Bool, true, false, not, cond, ◌==◌, List, [], ◌∷◌, ◌++◌, length, take, drop, get_or, Some, None, refl, sym, ap}
use Rattle.std.proofs.Common.{subst, ◌∙◌, arith, zero, suc, append_assoc, length-append}
use Rattle.std.proofs.lemmas.Bool.Decides.{nat_tests}
use Rattle.std.proofs.lemmas.List.{append-nil}
use Rattle.std.proofs.Math.Seq.{drop-cons}
use Rattle.std.specs.Cmp.{tied_itself}
use Rattle.std.specs.Ordering.{is_lt}
use Rattle.record_values.specs.declared.pair.Pair.{Pair}
use Rattle.node_parts.specs.declared.Entry.{Entry}
use Rattle.node_parts.specs.declared.Child.{Child}
use Rattle.node_parts.specs.Order.{is_below, AllAbove, IsAscending}
use Rattle.node_parts.specs.Tree.{Tree, entries}
use Rattle.node_parts.proofs.Order.{AllBelow, below_trans, pairs_total}
use Rattle.node_parts.proofs.Children.{all_entries}
use Rattle.btree_node.specs.Above.{IsLeastAbove, first_of, first_above}
use Rattle.btree_node.specs.Contents.{contents}
use Rattle.btree_node.specs.Runs.{IsFront, IsRunAbove, all_above}
use Rattle.btree_node.proofs.Above.{around}
use Rattle.btree_node.proofs.At.{IsAt}
use Rattle.btree_node.proofs.Contents.{least-after, least-first, least-none}
use Rattle.btree_node.proofs.Found.{place_after}
use Rattle.btree_node.proofs.Insert.{around-left, around-right, below_not_above}

-- ---- the entries above a pair
above-first : (es : List Entry) (p : Pair) → first_above es p ≡ first_of (all_above es p)
above-first [] p = refl
above-first (x ∷ xs) p = pick (above-first xs p) (is_below p x.pair)
  where
    pick : first_above xs p ≡ first_of (all_above xs p) → (b : Bool) → cond b (Some x) (first_above xs p) ≡ first_of (cond b (x ∷ xs) (all_above xs p))
    pick r true = refl
    pick r false = r

past_below : (xs ys : List Entry) (p : Pair) → AllBelow xs p → all_above (xs ++ ys) p ≡ all_above ys p
past_below [] ys p h = refl
past_below (x ∷ xs) ys p h = let b : is_below p x.pair ≡ false = below_not_above x.pair p h.0 in rw b (past_below xs ys p h.1)

of_all : (ys : List Entry) (p : Pair) → AllAbove p ys → all_above ys p ≡ ys
of_all [] p h = refl
of_all (y ∷ ys) p h = rw h.0 refl

found_here : (xs ys : List Entry) (p : Pair) → 0 < length (all_above xs p) → all_above (xs ++ ys) p ≡ all_above xs p ++ ys
found_here [] ys p h = absurd (omega arith)
found_here (x ∷ xs) ys p h = pick (is_below p x.pair) h (found_here xs ys p)
  where
    pick : (b : Bool) → 0 < length (cond b (x ∷ xs) (all_above xs p)) → (0 < length (all_above xs p) → all_above (xs ++ ys) p ≡ all_above xs p ++ ys)
        → cond b (x ∷ (xs ++ ys)) (all_above (xs ++ ys) p) ≡ cond b (x ∷ xs) (all_above xs p) ++ ys
    pick true h r = refl
    pick false h r = r h

not_here : (xs ys : List Entry) (p : Pair) → all_above xs p ≡ [] → all_above (xs ++ ys) p ≡ all_above ys p
not_here [] ys p h = refl
not_here (x ∷ xs) ys p h = pick (is_below p x.pair) h (not_here xs ys p)
  where
    pick : (b : Bool) → cond b (x ∷ xs) (all_above xs p) ≡ [] → (all_above xs p ≡ [] → all_above (xs ++ ys) p ≡ all_above ys p)
        → cond b (x ∷ (xs ++ ys)) (all_above (xs ++ ys) p) ≡ all_above ys p
    pick true h r = cc
    pick false h r = r h

pub above-dropped : (es : List Entry) (p : Pair) → drop (place_after es p) es ≡ all_above es p
above-dropped [] p = refl
above-dropped (x ∷ xs) p = pick (above-dropped xs p) (is_below p x.pair)
  where
    pick : drop (place_after xs p) xs ≡ all_above xs p → (b : Bool) → drop (cond (not b) (1 + place_after xs p) 0) (x ∷ xs) ≡ cond b (x ∷ xs) (all_above xs p)
    pick r true = refl
    pick r false =
        let one : 1 + place_after xs p ≡ suc (place_after xs p) = omega arith in
        rw one r

-- ---- what a row begins with
nothing : (es : List Entry) → length es ≡ 0 → es ≡ []
nothing [] e = refl
nothing (x ∷ es) e = absurd (omega (arith, e))

-- what a test for no entry tells
pub is_some : (es : List Entry) (b : Bool) → b ≡ (length es == 0) → b ≡ false → 0 < length es
is_some es b e h = grind (arith, nat_tests)

pub is_none : (es : List Entry) (b : Bool) → b ≡ (length es == 0) → b ≡ true → length es ≡ 0
is_none es b e h = grind (arith, nat_tests)

none_long : (es : List Entry) → es ≡ [] → length es ≡ 0
none_long es e = ap length e

pub front_whole : (es : List Entry) → IsFront es es
front_whole es = record { rest = []; whole = sym (append-nil es); none = λ e. e }

pub front_longer : (all front more : List Entry) → IsFront all front → 0 < length front → IsFront (all ++ more) front
front_longer all front more f some = record {
  rest = f.rest ++ more;
  whole = ap (λ es. es ++ more) f.whole ∙ append_assoc front f.rest more;
  none = λ e. absurd (omega (arith, some, none_long front e));
}

front_some : (all front : List Entry) → IsFront all front → 0 < length front → 0 < length all
front_some all front f some = omega (arith, some, ap length f.whole ∙ length-append front f.rest)

-- ---- around a child
module _ {A : Type 0} {t u : Tree} {cs : List (Child A)} {k : ℕ} {c : Child A} {p : Pair} (a : IsAt t u cs k c p) (found : List Entry)
    (f : IsFront (all_above (entries u) p) found) where
  abbrev behind : List Entry
  behind = all_entries (drop (suc k) cs)

  from_child : all_above (entries t) p ≡ all_above (entries u ++ behind) p
  from_child = ap (λ es. all_above es p) (around a)
      ∙ past_below (all_entries (take k cs)) (entries u ++ behind) p (around-left cs p k a.labelled a.ascending a.place)

  from_next : length found ≡ 0 → all_above (entries t) p ≡ behind
  from_next none = from_child ∙ not_here (entries u) behind p (f.none (nothing found none))
      ∙ of_all behind p (around-right cs p k a.labelled a.ascending a.place)

  pub front_found : 0 < length found → IsFront (all_above (entries t) p) found
  front_found some =
      let here : all_above (entries t) p ≡ all_above (entries u) p ++ behind = from_child ∙ found_here (entries u) behind p (front_some _ _ f some) in
      subst (λ es. IsFront es found) (sym here) (front_longer _ found behind f some)

  pub front_last : length found ≡ 0 → k + 1 ≡ length cs → IsFront (all_above (entries t) p) found
  front_last none l =
      let past : behind ≡ [] = all_past cs k (omega (arith, l)) in
      let same : all_above (entries t) p ≡ found = from_next none ∙ past ∙ sym (nothing found none) in
      subst (λ es. IsFront es found) (sym same) (front_whole found)
    where
      all_past : (cs : List (Child A)) (k : ℕ) → suc k ≡ length cs → all_entries (drop (suc k) cs) ≡ []
      all_past [] k h = absurd (omega arith)
      all_past (c ∷ []) zero h = refl
      all_past (c ∷ d ∷ cs) zero h = absurd (omega arith)
      all_past (c ∷ cs) (suc k) h = all_past cs k (omega arith)

  pub front_next : (v : Tree) (b : Child A) (run : List Entry) → length found ≡ 0 → k + 1 < length cs → b ≡ get_or cs (k + 1) b → v ≡ b.node.value
      → 0 < length (entries v) → IsFront (entries v) run → IsFront (all_above (entries t) p) run
  front_next v b run none l is tree some r =
      let one : k + 1 ≡ suc k = omega arith in
      let is' : b ≡ get_or cs (suc k) b = rw one at is in
      let first : behind ≡ entries (get_or cs (suc k) b).node.value ++ all_entries (drop (suc (suc k)) cs) =
      ap all_entries (drop-cons cs (suc k) b (omega (arith, l))) in
      let own : entries (get_or cs (suc k) b).node.value ≡ entries v = ap (λ (x : Child A). entries x.node.value) (sym is') ∙ ap entries (sym tree) in
      let whole : all_above (entries t) p ≡ entries v ++ all_entries (drop (suc (suc k)) cs) = from_next none ∙ first
      ∙ ap (λ es. es ++ all_entries (drop (suc (suc k)) cs)) own in
      subst (λ es. IsFront es run) (sym whole) (front_longer (entries v) run _ r (run_some run r))
    where
      run_some : (run : List Entry) → IsFront (entries v) run → 0 < length run
      run_some [] r = absurd (omega (arith, some, ap length (r.none refl)))
      run_some (e ∷ es) r = omega arith

-- ---- the entries that follow one another
below_first : (es : List Entry) (p : Pair) (e : Entry) (tail : List Entry) → all_above es p ≡ e ∷ tail → is_below p e.pair ≡ true
below_first [] p e tail h = cc
below_first (x ∷ xs) p e tail h = pick (below_first xs p e tail) (is_below p x.pair) refl h
  where
    pick : (all_above xs p ≡ e ∷ tail → is_below p e.pair ≡ true) → (b : Bool) → is_below p x.pair ≡ b → cond b (x ∷ xs) (all_above xs p) ≡ e ∷ tail
        → is_below p e.pair ≡ true
    pick r true b h = let same : x ≡ e = cc in subst (λ y. is_below p y.pair ≡ true) same b
    pick r false b h = r h

not_below_itself : (p : Pair) → is_below p p ≡ false
not_below_itself p = ap is_lt (tied_itself pairs_total p)

above-itself : (x : Entry) (xs : List Entry) → AllAbove x.pair xs → all_above (x ∷ xs) x.pair ≡ xs
above-itself x xs a = rw (not_below_itself x.pair) (of_all xs x.pair a)

-- what is above the first entry above a pair is what follows it
above-next : (es : List Entry) (p : Pair) (e : Entry) (tail : List Entry) → IsAscending es → all_above es p ≡ e ∷ tail → all_above es e.pair ≡ tail
above-next [] p e tail a h = cc
above-next (x ∷ xs) p e tail a h = pick (above-next xs p e tail a.1) (is_below p x.pair) refl h
  where
    not_above : is_below p x.pair ≡ false → is_below p e.pair ≡ true → (b : Bool) → is_below e.pair x.pair ≡ b → b ≡ false
    not_above n up true is = let no : is_below p x.pair ≡ true = below_trans p e.pair x.pair up is in cc
    not_above n up false is = refl

    pick : (all_above xs p ≡ e ∷ tail → all_above xs e.pair ≡ tail) → (b : Bool) → is_below p x.pair ≡ b → cond b (x ∷ xs) (all_above xs p) ≡ e ∷ tail
        → all_above (x ∷ xs) e.pair ≡ tail
    pick r true b h =
        let same : x ≡ e = cc in
        let rest : xs ≡ tail = cc in
        subst (λ (y : Entry). all_above (x ∷ xs) y.pair ≡ tail) same (above-itself x xs a.0 ∙ rest)
    pick r false b h =
        let n : is_below e.pair x.pair ≡ false = not_above b (below_first xs p e tail h) (is_below e.pair x.pair) refl in
        rw n (r h)

run_after : (t : Tree) (p : Pair) (run rest : List Entry) → IsAscending (entries t) → all_above (entries t) p ≡ run ++ rest
    → IsRunAbove (contents t) (Some p) run
run_after t p [] rest a h = tt
run_after t p (e ∷ es) rest a h = (
  least-after t p e a (above-first (entries t) p ∙ ap first_of h),
  run_after t e.pair es rest a (above-next (entries t) p e (es ++ rest) a h),
)

pub run-after : (t : Tree) (p : Pair) (run : List Entry) → IsAscending (entries t) → IsFront (all_above (entries t) p) run
    → IsRunAbove (contents t) (Some p) run
run-after t p run a f = run_after t p run f.rest a f.whole

pub none-after : (t : Tree) (p : Pair) (run : List Entry) → IsFront (all_above (entries t) p) run → run ≡ [] → IsLeastAbove (contents t) (Some p) None
none-after t p run f e = least-none t p (above-first (entries t) p ∙ ap first_of (f.none e))

pub run-first : (t : Tree) (run : List Entry) → IsAscending (entries t) → IsFront (entries t) run → IsRunAbove (contents t) None run
run-first t [] a f = tt
run-first t (e ∷ es) a f =
    let whole : entries t ≡ e ∷ (es ++ f.rest) = f.whole in
    let up : IsAscending (e ∷ (es ++ f.rest)) = subst IsAscending whole a in
    let next : all_above (entries t) e.pair ≡ es ++ f.rest = rw whole (above-itself e (es ++ f.rest) up.0) in
    (least-first t e a (ap first_of whole), run_after t e.pair es f.rest a next)

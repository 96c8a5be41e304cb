-- What happens to the map of a tree as its entries change.
use Rattle.std.proofs.Common.{◌≡◌, ℕ, ◌+◌, Bool, true, false, cond, List, [], ◌∷◌, length, is_some, Option, Some, None, refl, sym, ap, subst, ◌∙◌, arith, suc}
use Rattle.std.specs.Prelude.{IsSome}
use Rattle.std.specs.FinMap as map
use Rattle.std.specs.FinMap.{get-from_entries, get-insert, get-remove, len-insert, len-empty, same_map, empty_of_len}
use Rattle.std.specs.Ordering.{is_lt, is_eq, eq_by_cmp, ordering_reverse}
use Rattle.std.specs.declared.cmp.Ordering.{Ordering}
use Rattle.std.specs.declared.cmp.Ordering.TheVariants.{Less, Equal, Greater}
use Rattle.std.proofs.lemmas.Cmp.{tied_itself}
use Rattle.record_values.specs.Orders.{pair_cmp, pair_cmp_total, pair_cmp-IsAntisymmetric}
use Rattle.record_values.specs.declared.pair.Pair.{Pair}
use Rattle.record_values.specs.declared.pair.Mark.{Mark}
use Rattle.node_parts.specs.declared.Entry.{Entry}
use Rattle.node_parts.specs.Order.{order, is_below, mark_in, with_mark, insert_entry, IsAscending}
use Rattle.node_parts.specs.Tree.{Tree, leaf, entries}
use Rattle.node_parts.proofs.Order.{pairs_total, same_pair, less_of, mark_in-above, AllAbove-from}
use Rattle.btree_node.specs.Contents.{contents, marks_of}
use Rattle.btree_node.specs.Without.{without}
use Rattle.btree_node.specs.Above.{IsLeastAbove, first_of, first_above}

equal_of : (o : Ordering) → is_eq o ≡ true → o ≡ Equal
equal_of Less e = cc
equal_of Equal e = refl
equal_of Greater e = cc

tied : (a b : Pair) → is_eq (order a b) ≡ true → a ≡ b
tied a b e = same_pair a b (equal_of (order a b) e)

ties_itself : (a : Pair) → is_eq (order a a) ≡ true
ties_itself a = ap is_eq (tied_itself pairs_total a)

-- a test of two pairs, by cases: they are one pair, or they do not tie
pub by_tie : (P : Bool → Type 0) (a b : Pair) → (a ≡ b → P true) → (is_eq (order a b) ≡ false → P false) → P (is_eq (order a b))
by_tie P a b same other = pick (is_eq (order a b)) refl
  where
    pick : (v : Bool) → is_eq (order a b) ≡ v → P v
    pick true e = same (tied a b e)
    pick false e = other e

differ : (a b : Pair) → is_eq (order a b) ≡ false → a ≡ b → ⊥
differ a b e f = let x : is_eq (order a b) ≡ true = subst (λ c. is_eq (order a c) ≡ true) f (ties_itself a) in cc

reverse_eq : (o : Ordering) → is_eq (ordering_reverse o) ≡ is_eq o
reverse_eq Less = refl
reverse_eq Equal = refl
reverse_eq Greater = refl

tie-sym : (a b : Pair) → is_eq (order a b) ≡ is_eq (order b a)
tie-sym a b = ap is_eq (pairs_total.antisymm a b) ∙ reverse_eq (order b a)

tie-cmp : (a b : Pair) → eq_by_cmp pair_cmp a b ≡ is_eq (order a b)
unfolding order
tie-cmp a b = refl

neither : (b : Bool) → ◌≡◌ {A = Option Mark} None (cond b None None)
neither true = refl
neither false = refl

-- ---- what the map answers
find-mark_in : (es : List Entry) (p : Pair) → map.find pair_cmp p (marks_of es) ≡ mark_in es p
find-mark_in [] p = refl
find-mark_in (e ∷ es) p = rw (tie-cmp p e.pair, tie-sym p e.pair, find-mark_in es p) refl

pub get-contents : (t : Tree) (p : Pair) → map.get (contents t) p ≡ mark_in (entries t) p
unfolding contents
get-contents t p = get-from_entries pair_cmp_total (marks_of (entries t)) p ∙ find-mark_in (entries t) p

one_more : (b : Bool) (n m : ℕ) → b ≡ false → n ≡ m → cond b n (n + 1) ≡ suc m
one_more true n m e f = cc
one_more false n m e f = omega (arith, f)

len-marks : (es : List Entry) → IsAscending es → map.len (map.from_entries {R = pair_cmp} (marks_of es)) ≡ length es
len-marks [] h = len-empty pair_cmp Mark
len-marks (e ∷ es) h =
    let absent : map.get (map.from_entries {R = pair_cmp} (marks_of es)) e.pair ≡ None = get-from_entries pair_cmp_total (marks_of es) e.pair
    ∙ find-mark_in es e.pair ∙ mark_in-above es e.pair h.0 in
    len-insert pair_cmp_total (map.from_entries (marks_of es)) e.pair e.mark ∙ one_more _ _ _ (ap is_some absent) (len-marks es h.1)

pub len-contents : (t : Tree) → IsAscending (entries t) → map.len (contents t) ≡ length (entries t)
unfolding contents
len-contents t h = len-marks (entries t) h

pub contents-empty : contents (leaf []) ≡ map.empty
unfolding contents
contents-empty = refl

pub empty_of-contents : (t : Tree) → IsAscending (entries t) → length (entries t) ≡ 0 → contents t ≡ map.empty
empty_of-contents t h e = empty_of_len (contents t) (len-contents t h ∙ e)

pub length_of-empty : (t : Tree) → IsAscending (entries t) → contents t ≡ map.empty → length (entries t) ≡ 0
length_of-empty t h e = sym (len-contents t h) ∙ ap map.len e ∙ len-empty pair_cmp Mark

-- ---- one entry more
mark_in-insert : (es : List Entry) (e : Entry) (q : Pair) → mark_in es e.pair ≡ None
    → mark_in (insert_entry es e) q ≡ cond (is_eq (order e.pair q)) (Some e.mark) (mark_in es q)
mark_in-insert [] e q h = refl
mark_in-insert (x ∷ xs) e q h = pick (mark_in-insert xs e q) (is_below x.pair e.pair)
  where
    not_here : (b : Bool) (m : Mark) (r : Option Mark) → cond b (Some m) r ≡ None → (b ≡ false) × (r ≡ None)
    not_here true m r h = cc
    not_here false m r h = (refl, h)

    skip : (mark_in xs e.pair ≡ None → mark_in (insert_entry xs e) q ≡ cond (is_eq (order e.pair q)) (Some e.mark) (mark_in xs q))
        → mark_in (x ∷ insert_entry xs e) q ≡ cond (is_eq (order e.pair q)) (Some e.mark) (mark_in (x ∷ xs) q)
    skip rest =
        let n : (is_eq (order x.pair e.pair) ≡ false) × (mark_in xs e.pair ≡ None) = not_here (is_eq (order x.pair e.pair)) x.mark (mark_in xs e.pair) h in
        ap (cond (is_eq (order x.pair q)) (Some x.mark)) (rest n.1)
        ∙ by_tie (λ b. cond b (Some x.mark) (cond (is_eq (order e.pair q)) (Some e.mark) (mark_in xs q))
        ≡ cond (is_eq (order e.pair q)) (Some e.mark) (cond b (Some x.mark) (mark_in xs q))) x.pair q
        (λ s. by_tie (λ c. Some x.mark ≡ cond c (Some e.mark) (Some x.mark)) e.pair q (λ f. absurd (differ x.pair e.pair n.0 (s ∙ sym f))) (λ _. refl))
        (λ _. refl)

    pick : (mark_in xs e.pair ≡ None → mark_in (insert_entry xs e) q ≡ cond (is_eq (order e.pair q)) (Some e.mark) (mark_in xs q)) → (b : Bool)
        → mark_in (cond b (x ∷ insert_entry xs e) (e ∷ x ∷ xs)) q ≡ cond (is_eq (order e.pair q)) (Some e.mark) (mark_in (x ∷ xs) q)
    pick rest true = skip rest
    pick rest false = refl

pub contents-insert : (t u : Tree) (p : Pair) (m : Mark) → map.get (contents t) p ≡ None → entries u ≡ insert_entry (entries t) (record { pair = p; mark = m })
    → contents u ≡ map.insert (contents t) p m
contents-insert t u p m h e =
    let absent : mark_in (entries t) p ≡ None = sym (get-contents t p) ∙ h in
    same_map pair_cmp_total pair_cmp-IsAntisymmetric (contents u) (map.insert (contents t) p m) (λ q.
    get-contents u q ∙ ap (λ es. mark_in es q) e ∙ mark_in-insert (entries t) (record { pair = p; mark = m }) q absent
    ∙ ap (λ b. cond b (Some m) (mark_in (entries t) q)) (tie-sym p q ∙ sym (tie-cmp q p))
    ∙ ap (cond (eq_by_cmp pair_cmp q p) (Some m)) (sym (get-contents t q))
    ∙ sym (get-insert pair_cmp_total (contents t) p m q))

-- ---- another mark
mark_in-with_mark : (es : List Entry) (p : Pair) (m : Mark) (q : Pair)
    → mark_in (with_mark es p m) q ≡ cond (is_eq (order p q)) (cond (is_some (mark_in es q)) (Some m) None) (mark_in es q)
mark_in-with_mark [] p m q = neither (is_eq (order p q))
mark_in-with_mark (e ∷ es) p m q =
    rw (ap (λ (x : Pair). is_eq (order x q)) (kept (is_eq (order e.pair p))), mark_in-with_mark es p m q)
    (by_tie (λ b. cond b (Some (cond (is_eq (order e.pair p)) (record { pair = e.pair; mark = m }) e).mark)
    (cond (is_eq (order p q)) (cond (is_some (mark_in es q)) (Some m) None) (mark_in es q))
    ≡ cond (is_eq (order p q)) (cond (is_some (cond b (Some e.mark) (mark_in es q))) (Some m) None) (cond b (Some e.mark) (mark_in es q))) e.pair q
    (λ s. here (is_eq (order e.pair p)) (is_eq (order p q)) (ap (λ x. is_eq (order x p)) s ∙ tie-sym q p))
    (λ _. refl))
  where
    kept : (b : Bool) → (cond b (record { pair = e.pair; mark = m }) e).pair ≡ e.pair
    kept true = refl
    kept false = refl

    here : (a b : Bool) → a ≡ b → Some (cond a (record { pair = e.pair; mark = m }) e).mark ≡ cond b (Some m) (Some e.mark)
    here true true f = refl
    here true false f = cc
    here false true f = cc
    here false false f = refl

present_mark : (o : Option Mark) (m : Mark) → IsSome o → cond (is_some o) (Some m) None ≡ Some m
present_mark None m h = cc
present_mark (Some n) m h = refl

pub contents-with_mark : (t u : Tree) (p : Pair) (m : Mark) → IsSome (map.get (contents t) p) → entries u ≡ with_mark (entries t) p m
    → contents u ≡ map.insert (contents t) p m
contents-with_mark t u p m h e =
    let present : IsSome (mark_in (entries t) p) = subst IsSome (get-contents t p) h in
    same_map pair_cmp_total pair_cmp-IsAntisymmetric (contents u) (map.insert (contents t) p m) (λ q.
    get-contents u q ∙ ap (λ es. mark_in es q) e ∙ mark_in-with_mark (entries t) p m q
    ∙ by_tie (λ b. cond b (cond (is_some (mark_in (entries t) q)) (Some m) None) (mark_in (entries t) q) ≡ cond b (Some m) (mark_in (entries t) q)) p q (λ s.
    present_mark (mark_in (entries t) q) m (subst (λ x. IsSome (mark_in (entries t) x)) s present)) (λ _. refl)
    ∙ ap (λ b. cond b (Some m) (mark_in (entries t) q)) (tie-sym p q ∙ sym (tie-cmp q p))
    ∙ ap (cond (eq_by_cmp pair_cmp q p) (Some m)) (sym (get-contents t q))
    ∙ sym (get-insert pair_cmp_total (contents t) p m q))

-- ---- one entry less
mark_in-without : (es : List Entry) (p q : Pair) → mark_in (without es p) q ≡ cond (is_eq (order p q)) None (mark_in es q)
mark_in-without [] p q = neither (is_eq (order p q))
mark_in-without (e ∷ es) p q =
    by_tie (λ b. mark_in (cond b (without es p) (e ∷ without es p)) q
    ≡ cond (is_eq (order p q)) None (cond (is_eq (order e.pair q)) (Some e.mark) (mark_in es q))) e.pair p
    (λ s. mark_in-without es p q ∙ gone (is_eq (order p q)) (is_eq (order e.pair q)) (ap (λ x. is_eq (order x q)) (sym s)))
    (λ d. ap (cond (is_eq (order e.pair q)) (Some e.mark)) (mark_in-without es p q)
    ∙ stays (is_eq (order e.pair q)) (is_eq (order p q)) (λ a b. differ e.pair p d (tied e.pair q a ∙ sym (tied p q b))))
  where
    gone : (a b : Bool) → a ≡ b → cond a None (mark_in es q) ≡ cond a None (cond b (Some e.mark) (mark_in es q))
    gone true b f = refl
    gone false true f = cc
    gone false false f = refl

    stays : (a b : Bool) → (a ≡ true → b ≡ true → ⊥) → cond a (Some e.mark) (cond b None (mark_in es q)) ≡ cond b None (cond a (Some e.mark) (mark_in es q))
    stays true true f = absurd (f refl refl)
    stays true false f = refl
    stays false b f = refl

pub contents-without : (t u : Tree) (p : Pair) → entries u ≡ without (entries t) p → contents u ≡ map.remove (contents t) p
contents-without t u p e =
    same_map pair_cmp_total pair_cmp-IsAntisymmetric (contents u) (map.remove (contents t) p) (λ q.
    get-contents u q ∙ ap (λ es. mark_in es q) e ∙ mark_in-without (entries t) p q
    ∙ ap (λ b. cond b None (mark_in (entries t) q)) (tie-sym p q ∙ sym (tie-cmp q p))
    ∙ ap (cond (eq_by_cmp pair_cmp q p) None) (sym (get-contents t q))
    ∙ sym (get-remove pair_cmp_total (contents t) p q))

-- ---- the least entry above
pub below_of : (p q : Pair) → pair_cmp p q ≡ Less → is_below p q ≡ true
unfolding order
below_of p q e = ap is_lt e

pub less_pair : (p q : Pair) → is_below p q ≡ true → pair_cmp p q ≡ Less
unfolding order
less_pair p q e = less_of (pair_cmp p q) e

none_after : (es : List Entry) (p q : Pair) → first_above es p ≡ None → is_below p q ≡ true → mark_in es q ≡ None
none_after [] p q h b = refl
none_after (e ∷ es) p q h b =
    let n : (is_below p e.pair ≡ false) × (first_above es p ≡ None) = not_first (is_below p e.pair) h in
    let rest : mark_in es q ≡ None = none_after es p q n.1 b in
    by_tie (λ c. cond c (Some e.mark) (mark_in es q) ≡ None) e.pair q
    (λ s. let x : is_below p e.pair ≡ true = subst (λ y. is_below p y ≡ true) (sym s) b in let y : is_below p e.pair ≡ false = n.0 in cc)
    (λ _. rest)
  where
    not_first : (c : Bool) → cond c (Some e) (first_above es p) ≡ None → (c ≡ false) × (first_above es p ≡ None)
    not_first true h = cc
    not_first false h = (refl, h)

pub record IsFirstAfter (es : List Entry) (p : Pair) (e : Entry) : Type 0 where
  pub below : is_below p e.pair ≡ true
  pub found : mark_in es e.pair ≡ Some e.mark
  pub between : (q : Pair) → is_below p q ≡ true → is_below q e.pair ≡ true → mark_in es q ≡ None

pub found_first : (x : Entry) (xs : List Entry) → mark_in (x ∷ xs) x.pair ≡ Some x.mark
found_first x xs = rw (ties_itself x.pair) refl

first_after : (es : List Entry) (p : Pair) (e : Entry) → IsAscending es → first_above es p ≡ Some e → IsFirstAfter es p e
first_after [] p e a h = cc
first_after (x ∷ xs) p e a h = pick (first_after xs p e a.1) (is_below p x.pair) refl h
  where
    same_entry : Some x ≡ Some e → x ≡ e
    same_entry f = cc

    here : is_below p x.pair ≡ true → x ≡ e → IsFirstAfter (x ∷ xs) p e
    here b s = subst (λ y. IsFirstAfter (x ∷ xs) p y) s (record {
      below = b;
      found = found_first x xs;
      between = λ q c d. mark_in-above (x ∷ xs) q (d, AllAbove-from q x.pair xs d a.0);
    })

    apart : is_below p x.pair ≡ false → (q : Pair) → is_below p q ≡ true → x.pair ≡ q → ⊥
    apart b q c s = let y : is_below p x.pair ≡ true = subst (λ z. is_below p z ≡ true) (sym s) c in cc

    later : is_below p x.pair ≡ false → IsFirstAfter xs p e → IsFirstAfter (x ∷ xs) p e
    later b r = record {
      below = r.below;
      found = by_tie (λ c. cond c (Some x.mark) (mark_in xs e.pair) ≡ Some e.mark) x.pair e.pair (λ s. absurd (apart b e.pair r.below s)) (λ _. r.found);
      between = λ q c d. by_tie (λ f. cond f (Some x.mark) (mark_in xs q) ≡ None) x.pair q (λ s. absurd (apart b q c s)) (λ _. r.between q c d);
    }

    pick : (first_above xs p ≡ Some e → IsFirstAfter xs p e) → (b : Bool) → is_below p x.pair ≡ b → cond b (Some x) (first_above xs p) ≡ Some e
        → IsFirstAfter (x ∷ xs) p e
    pick r true b f = here b (same_entry f)
    pick r false b f = later b (r f)

pub least-none : (t : Tree) (p : Pair) → first_above (entries t) p ≡ None → IsLeastAbove (contents t) (Some p) None
least-none t p h = λ q b. get-contents t q ∙ none_after (entries t) p q h (below_of p q b)

pub least-after : (t : Tree) (p : Pair) (e : Entry) → IsAscending (entries t) → first_above (entries t) p ≡ Some e
    → IsLeastAbove (contents t) (Some p) (Some (e.pair, e.mark))
least-after t p e a h =
    let f : IsFirstAfter (entries t) p e = first_after (entries t) p e a h in
    (less_pair p e.pair f.below, get-contents t e.pair ∙ f.found, λ q b c. get-contents t q ∙ f.between q (below_of p q b) (below_of q e.pair c))

pub least-first : (t : Tree) (e : Entry) → IsAscending (entries t) → first_of (entries t) ≡ Some e → IsLeastAbove (contents t) None (Some (e.pair, e.mark))
least-first t e a h = (tt, get-contents t e.pair ∙ found (entries t) h, λ q b c. get-contents t q ∙ before (entries t) a h q (below_of q e.pair c))
  where
    found : (es : List Entry) → first_of es ≡ Some e → mark_in es e.pair ≡ Some e.mark
    found [] f = cc
    found (x ∷ xs) f = let s : x ≡ e = cc in subst (λ y. mark_in (x ∷ xs) y.pair ≡ Some y.mark) s (found_first x xs)

    before : (es : List Entry) → IsAscending es → first_of es ≡ Some e → (q : Pair) → is_below q e.pair ≡ true → mark_in es q ≡ None
    before [] a f q c = refl
    before (x ∷ xs) a f q c =
        let s : x ≡ e = cc in
        let d : is_below q x.pair ≡ true = subst (λ y. is_below q y.pair ≡ true) (sym s) c in
        mark_in-above (x ∷ xs) q (d, AllAbove-from q x.pair xs d a.0)

pub least-empty : (t : Tree) (o : Option Pair) → entries t ≡ [] → IsLeastAbove (contents t) o None
least-empty t o e = λ q b. get-contents t q ∙ ap (λ es. mark_in es q) e

pub present-contents : (t : Tree) (p : Pair) → IsSome (map.get (contents t) p) → IsSome (mark_in (entries t) p)
present-contents t p h = subst IsSome (get-contents t p) h

pub absent-contents : (t : Tree) (p : Pair) → map.get (contents t) p ≡ None → mark_in (entries t) p ≡ None
absent-contents t p h = sym (get-contents t p) ∙ h

-- a tree in which a pair is present has a root
pub not_empty : {X : Type 0} (t : Tree) (p : Pair) → IsSome (map.get (contents t) p) → entries t ≡ [] → X
not_empty t p h e = no_mark (mark_in (entries t) p) (ap (λ es. mark_in es p) e) (present-contents t p h)
  where
    no_mark : {X : Type 0} (o : Option Mark) → o ≡ None → IsSome o → X
    no_mark None f g = cc
    no_mark (Some m) f g = cc

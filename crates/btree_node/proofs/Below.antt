-- Lemmas on the last entry below a pair.
use Rattle.std.proofs.Common.{◌≡◌, ℕ, ◌+◌, ◌-◌, ◌<◌, Bool, true, false, cond, List, [], ◌∷◌, ◌++◌, length, filter, take, drop, get_or, Option, Some, None, refl}
use Rattle.std.proofs.Common.{sym, ap, subst, ◌∙◌, ◌⊎◌, inl, inr, arith, zero, suc}
use Rattle.std.proofs.lemmas.Bool.{false≢true, true≢false}
use Rattle.std.proofs.lemmas.List.{append-nil}
use Rattle.std.proofs.lemmas.List.Elements.{filter-append}
use Rattle.std.specs.List.{last_or, prefix_len}
use Rattle.std.specs.Option.{is_some}
use Rattle.record_values.specs.declared.pair.Pair.{Pair}
use Rattle.record_values.specs.declared.pair.Mark.{Mark}
use Rattle.node_parts.specs.declared.Entry.{Entry}
use Rattle.node_parts.specs.declared.Child.{Child}
use Rattle.node_parts.specs.Order.{is_below, mark_in, AllAbove, IsAscending}
use Rattle.node_parts.specs.Tree.{Tree, entries}
use Rattle.node_parts.proofs.Order.{AllBelow, AllAbove-from, below-differs, below_trans, mark_in-above}
use Rattle.node_parts.proofs.Children.{all_entries}
use Rattle.btree_node.specs.Below.{IsGreatestBelow, all_below, last_below}
use Rattle.btree_node.specs.Contents.{contents}
use Rattle.btree_node.proofs.Above.{around}
use Rattle.btree_node.proofs.At.{IsAt}
use Rattle.btree_node.proofs.Contents.{below_of, by_tie, found_first, get-contents, less_pair}
use Rattle.btree_node.proofs.Insert.{below_not_above, around-left, around-right}

-- ---- the last of some entries

some_last : (e : Entry) (es : List Entry) → is_some (last_or (Some e) es) ≡ true
some_last e [] = refl
some_last e (x ∷ es) = some_last x es

none_there : (es : List Entry) → is_some (last_or None es) ≡ false → es ≡ []
none_there [] h = refl
none_there (e ∷ es) h = absurd (true≢false (sym (some_last e es) ∙ h))

nothing_there : (es : List Entry) → last_or None es ≡ None → es ≡ []
nothing_there es h = none_there es (ap is_some h)

any_start : (es : List Entry) → is_some (last_or None es) ≡ true → (o : Option Entry) → last_or o es ≡ last_or None es
any_start [] h o = absurd (false≢true h)
any_start (e ∷ es) h o = refl

from_any : (es : List Entry) (e : Entry) → last_or None es ≡ Some e → (o : Option Entry) → last_or o es ≡ Some e
from_any es e h o = any_start es (ap is_some h) o ∙ h

one_behind : (o : Option Entry) (xs ys : List Entry) → last_or o (xs ++ ys) ≡ last_or (last_or o xs) ys
one_behind o [] ys = refl
one_behind o (x ∷ xs) ys = one_behind (Some x) xs ys

pub last_at : (o : Option Entry) (es : List Entry) (k : ℕ) (e : Entry) → k + 1 ≡ length es → e ≡ get_or es k e → last_or o es ≡ Some e
last_at o [] k e l h = absurd (omega (arith, l))
last_at o (x ∷ []) zero e l h = ap Some (sym h)
last_at o (x ∷ y ∷ es) zero e l h = absurd (omega (arith, l))
last_at o (x ∷ []) (suc k) e l h = absurd (omega (arith, l))
last_at o (x ∷ y ∷ es) (suc k) e l h = last_at (Some x) (y ∷ es) k e (omega (arith, l)) h

-- the last one in the last of some children
last_left : {A : Type 0} (o : Option Entry) (cs : List (Child A)) (k : ℕ) (b : Child A) (e : Entry) → k < length cs → b ≡ get_or cs k b
    → last_or None (entries b.node.value) ≡ Some e → last_or o (all_entries (take (suc k) cs)) ≡ Some e
last_left o [] k b e l f h = absurd (omega (arith, l))
last_left o (c ∷ cs) zero b e l f h = ap (last_or o) (append-nil (entries c.node.value))
    ∙ from_any (entries c.node.value) e (ap (λ d. last_or None (entries d.node.value)) (sym f) ∙ h) o
last_left o (c ∷ cs) (suc k) b e l f h = one_behind o (entries c.node.value) (all_entries (take (suc k) cs))
    ∙ last_left (last_or o (entries c.node.value)) cs k b e (omega (arith, l)) f h

all_taken : {A : Type 0} (cs : List (Child A)) (k : ℕ) → k + 1 ≡ length cs → take (suc k) cs ≡ cs
all_taken [] k l = refl
all_taken (c ∷ []) zero l = refl
all_taken (c ∷ d ∷ cs) zero l = absurd (omega (arith, l))
all_taken (c ∷ cs) (suc k) l = ap (λ (ds : List (Child _)). c ∷ ds) (all_taken cs k (omega (arith, l)))

pub last_child : {A : Type 0} (cs : List (Child A)) (k : ℕ) (b : Child A) (e : Entry) → k + 1 ≡ length cs → b ≡ get_or cs k b
    → last_or None (entries b.node.value) ≡ Some e → last_or None (all_entries cs) ≡ Some e
last_child cs k b e l f h = ap (λ ds. last_or None (all_entries ds)) (sym (all_taken cs k l)) ∙ last_left None cs k b e (omega (arith, l)) f h

-- ---- the entries below a pair

below_all : (es : List Entry) (p : Pair) → AllBelow es p → all_below es p ≡ es
below_all [] p h = refl
below_all (e ∷ es) p h = ap (λ b. cond b (e ∷ all_below es p) (all_below es p)) h.0 ∙ ap (λ (ys : List Entry). e ∷ ys) (below_all es p h.1)

below_none : (es : List Entry) (p : Pair) → AllAbove p es → all_below es p ≡ []
below_none [] p h = refl
below_none (e ∷ es) p h = ap (λ b. cond b (e ∷ all_below es p) (all_below es p)) (below_not_above p e.pair h.0) ∙ below_none es p h.1

not_below_later : (p q r : Pair) → is_below q r ≡ true → is_below q p ≡ false → is_below r p ≡ false
not_below_later p q r less h = by (is_below r p) refl
  where
    by : (b : Bool) → is_below r p ≡ b → is_below r p ≡ false
    by true is = absurd (true≢false (sym (below_trans q r p less is) ∙ h))
    by false is = is

below_none_later : (es : List Entry) (p q : Pair) → AllAbove q es → is_below q p ≡ false → all_below es p ≡ []
below_none_later [] p q a h = refl
below_none_later (e ∷ es) p q a h = ap (λ b. cond b (e ∷ all_below es p) (all_below es p)) (not_below_later p q e.pair a.0 h)
    ∙ below_none_later es p q a.1 h

-- the place of a pair among entries
abbrev pub place_of : List Entry → Pair → ℕ
place_of es p = prefix_len (λ e. is_below e.pair p) es

pub none_at_front : (es : List Entry) (p : Pair) → IsAscending es → place_of es p ≡ 0 → all_below es p ≡ []
none_at_front [] p a h = refl
none_at_front (x ∷ xs) p a h = by (is_below x.pair p) refl h
  where
    by : (b : Bool) → is_below x.pair p ≡ b → cond b (1 + place_of xs p) 0 ≡ 0 → all_below (x ∷ xs) p ≡ []
    by true is z = absurd (omega (arith, z))
    by false is z = ap (λ b. cond b (x ∷ all_below xs p) (all_below xs p)) is ∙ below_none_later xs p x.pair a.0 is

pub before_place : (o : Option Entry) (es : List Entry) (p : Pair) (k : ℕ) (e : Entry) → IsAscending es → place_of es p ≡ suc k → e ≡ get_or es k e
    → last_or o (all_below es p) ≡ Some e
before_place o [] p k e a l h = absurd (omega (arith, l))
before_place o (x ∷ xs) p k e a l h = by (λ m. before_place (Some x) xs p m e a.1) (none_at_front xs p a.1) (is_below x.pair p) refl l
  where
    first : all_below xs p ≡ [] → k ≡ 0 → last_or (Some x) (all_below xs p) ≡ Some e
    first none z = ap (last_or (Some x)) none ∙ ap Some (sym (subst (λ n. e ≡ get_or (x ∷ xs) n e) z h))

    at : ((m : ℕ) → place_of xs p ≡ suc m → e ≡ get_or xs m e → last_or (Some x) (all_below xs p) ≡ Some e) → (place_of xs p ≡ 0 → all_below xs p ≡ [])
        → (n : ℕ) → k ≡ n → place_of xs p ≡ n → last_or (Some x) (all_below xs p) ≡ Some e
    at rest none zero is z = first (none z) is
    at rest none (suc n) is z = rest n z (subst (λ m. e ≡ get_or (x ∷ xs) m e) is h)

    by : ((m : ℕ) → place_of xs p ≡ suc m → e ≡ get_or xs m e → last_or (Some x) (all_below xs p) ≡ Some e) → (place_of xs p ≡ 0 → all_below xs p ≡ [])
        → (b : Bool) → is_below x.pair p ≡ b → cond b (1 + place_of xs p) 0 ≡ suc k → last_or o (all_below (x ∷ xs) p) ≡ Some e
    by rest none true is z = ap (λ b. last_or o (cond b (x ∷ all_below xs p) (all_below xs p))) is ∙ at rest none k refl (omega (arith, z))
    by rest none false is z = absurd (omega (arith, z))

-- ---- around a child
module _ {A : Type 0} {t u : Tree} {cs : List (Child A)} {k : ℕ} {c : Child A} {p : Pair} (a : IsAt t u cs k c p) where
  kept : all_below (entries t) p ≡ all_entries (take k cs) ++ all_below (entries u) p
  kept = ap (λ es. all_below es p) (around a)
      ∙ filter-append (λ e. is_below e.pair p) (all_entries (take k cs)) (entries u ++ all_entries (drop (suc k) cs))
      ∙ ap (λ (ys : List Entry). ys ++ all_below (entries u ++ all_entries (drop (suc k) cs)) p)
      (below_all (all_entries (take k cs)) p (around-left cs p k a.labelled a.ascending a.place))
      ∙ ap (λ (ys : List Entry). all_entries (take k cs) ++ ys)
      (filter-append (λ e. is_below e.pair p) (entries u) (all_entries (drop (suc k) cs))
      ∙ ap (λ (ys : List Entry). all_below (entries u) p ++ ys)
      (below_none (all_entries (drop (suc k) cs)) p (around-right cs p k a.labelled a.ascending a.place))
      ∙ append-nil (all_below (entries u) p))

  pub found : is_some (last_below (entries u) p) ≡ true → last_below (entries u) p ≡ last_below (entries t) p
  found h = sym (ap (last_or None) kept ∙ one_behind None (all_entries (take k cs)) (all_below (entries u) p)
      ∙ any_start (all_below (entries u) p) h (last_or None (all_entries (take k cs))))

  module _ (h : is_some (last_below (entries u) p) ≡ false) where
    from_left : last_below (entries t) p ≡ last_or None (all_entries (take k cs))
    from_left = ap (last_or None) kept
        ∙ ap (λ (ys : List Entry). last_or None (all_entries (take k cs) ++ ys)) (none_there (all_below (entries u) p) h)
        ∙ ap (last_or None) (append-nil (all_entries (take k cs)))

    pub first : k ≡ 0 → last_below (entries u) p ≡ last_below (entries t) p
    first z = ap (last_or None) (none_there (all_below (entries u) p) h)
        ∙ sym (from_left ∙ ap (λ n. last_or None (all_entries (take n cs))) z)

    pub before : (v : Tree) (b : Child A) (e : Entry) → 0 < k → b ≡ get_or cs (k - 1) b → v ≡ b.node.value → last_or None (entries v) ≡ Some e
        → Some e ≡ last_below (entries t) p
    before v b e l f g x =
        let one : k ≡ suc (k - 1) = omega (arith, l) in
        let range : k - 1 < length cs = let r = a.in_range in omega (arith, r) in
        sym (from_left ∙ ap (λ n. last_or None (all_entries (take n cs))) one
        ∙ last_left None cs (k - 1) b e range f (ap (λ w. last_or None (entries w)) (sym g) ∙ x))

-- ---- the last entry that passes a test, in the map

no_mark : {X : Type 0} (o : Option Mark) (m : Mark) → o ≡ Some m → o ≡ None → X
no_mark o m is none = let both : (◌≡◌ {A = Option Mark} None (Some m)) = sym none ∙ is in cc

no_entry : {X : Type 0} (e : Entry) → (◌≡◌ {A = Option Entry} None (Some e)) → X
no_entry e h = cc

same_entry : (x e : Entry) → (◌≡◌ {A = Option Entry} (Some x) (Some e)) → x ≡ e
same_entry x e h = cc

no_first : {X : Type 0} (e : Entry) (es : List Entry) → (◌≡◌ {A = List Entry} (e ∷ es) []) → X
no_first e es h = cc

module _ (f : Pair → Bool) where
  abbrev passing : List Entry → List Entry
  passing es = filter (λ e. f e.pair) es

  none_passing : (es : List Entry) (q : Pair) → passing es ≡ [] → f q ≡ true → mark_in es q ≡ None
  none_passing [] q h pass = refl
  none_passing (x ∷ xs) q h pass = by (f x.pair) refl h (none_passing xs q)
    where
      by : (b : Bool) → f x.pair ≡ b → cond b (x ∷ passing xs) (passing xs) ≡ [] → (passing xs ≡ [] → f q ≡ true → mark_in xs q ≡ None)
          → mark_in (x ∷ xs) q ≡ None
      by true is h rest = no_first x (passing xs) h
      by false is h rest = by_tie (λ c. cond c (Some x.mark) (mark_in xs q) ≡ None) x.pair q
          (λ same. absurd (true≢false (sym (ap f same ∙ pass) ∙ is))) (λ _. rest h pass)

  pub record IsLastOf (es : List Entry) (e : Entry) : Type 0 where
    pub passes : f e.pair ≡ true
    pub found : mark_in es e.pair ≡ Some e.mark
    pub between : (q : Pair) → f q ≡ true → is_below e.pair q ≡ true → mark_in es q ≡ None

  -- it stays the last behind a lesser one
  last_behind : (x : Entry) (xs : List Entry) (e : Entry) → AllAbove x.pair xs → IsLastOf xs e → IsLastOf (x ∷ xs) e
  last_behind x xs e above last = record {
    passes = last.passes;
    found = by_tie (λ c. cond c (Some x.mark) (mark_in xs e.pair) ≡ Some e.mark) x.pair e.pair
        (λ same. no_mark (mark_in xs e.pair) e.mark last.found (mark_in-above xs e.pair (subst (λ (p : Pair). AllAbove p xs) same above))) (λ _. last.found);
    between = λ q pass after. by_tie (λ c. cond c (Some x.mark) (mark_in xs q) ≡ None) x.pair q
        (λ same. no_mark (mark_in xs e.pair) e.mark last.found
        (mark_in-above xs e.pair (AllAbove-from e.pair x.pair xs (ap (is_below e.pair) same ∙ after) above))) (λ _. last.between q pass after);
  }

  -- it is the last where none behind it passes
  last_alone : (x : Entry) (xs : List Entry) → f x.pair ≡ true → passing xs ≡ [] → IsLastOf (x ∷ xs) x
  last_alone x xs passes none = record {
    passes = passes;
    found = found_first x xs;
    between = λ q pass after. ap (λ b. cond b (Some x.mark) (mark_in xs q)) (below-differs x.pair q after) ∙ none_passing xs q none pass;
  }

  last_passing : (o : Option Entry) (es : List Entry) (e : Entry) → IsAscending es → last_or o (passing es) ≡ Some e
      → ((o ≡ Some e) × (passing es ≡ [])) ⊎ IsLastOf es e
  last_passing o [] e up h = inl (h, refl)
  last_passing o (x ∷ xs) e up h = by (λ start. last_passing start xs e up.1) (f x.pair) refl h
    where
      by : ((start : Option Entry) → last_or start (passing xs) ≡ Some e → ((start ≡ Some e) × (passing xs ≡ [])) ⊎ IsLastOf xs e)
          → (b : Bool) → f x.pair ≡ b → last_or o (cond b (x ∷ passing xs) (passing xs)) ≡ Some e
          → ((o ≡ Some e) × (passing (x ∷ xs) ≡ [])) ⊎ IsLastOf (x ∷ xs) e
      by rest true is h =
          elim (rest (Some x) h) [
            | inl alone ↦ inr (subst (IsLastOf (x ∷ xs)) (same_entry x e alone.0) (last_alone x xs is alone.1))
            | inr later ↦ inr (last_behind x xs e up.0 later)
          ]
      by rest false is h =
          elim (rest o h) [
            | inl none ↦ inl (none.0, ap (λ b. cond b (x ∷ passing xs) (passing xs)) is ∙ none.1)
            | inr later ↦ inr (last_behind x xs e up.0 later)
          ]

  last_is : (es : List Entry) (e : Entry) → IsAscending es → last_or None (passing es) ≡ Some e → IsLastOf es e
  last_is es e up h =
      elim (last_passing None es e up h) [
        | inl none ↦ no_entry e none.0
        | inr last ↦ last
      ]

pub greatest-none : (t : Tree) (p : Pair) → last_below (entries t) p ≡ None → IsGreatestBelow (contents t) (Some p) None
greatest-none t p h = λ q b. get-contents t q
    ∙ none_passing (λ x. is_below x p) (entries t) q (nothing_there (all_below (entries t) p) h) (below_of q p b)

pub greatest-before : (t : Tree) (p : Pair) (e : Entry) → IsAscending (entries t) → last_below (entries t) p ≡ Some e
    → IsGreatestBelow (contents t) (Some p) (Some (e.pair, e.mark))
greatest-before t p e a h =
    let last : IsLastOf (λ x. is_below x p) (entries t) e = last_is (λ x. is_below x p) (entries t) e a h in (
      less_pair e.pair p last.passes,
      get-contents t e.pair ∙ last.found,
      λ q b c. get-contents t q ∙ last.between q (below_of q p b) (below_of e.pair q c),
    )

all_pass : (es : List Entry) → filter (λ e. true) es ≡ es
all_pass [] = refl
all_pass (e ∷ es) = ap (λ (ys : List Entry). e ∷ ys) (all_pass es)

pub greatest-last : (t : Tree) (e : Entry) → IsAscending (entries t) → last_or None (entries t) ≡ Some e
    → IsGreatestBelow (contents t) None (Some (e.pair, e.mark))
greatest-last t e a h =
    let last : IsLastOf (λ x. true) (entries t) e = last_is (λ x. true) (entries t) e a (ap (last_or None) (all_pass (entries t)) ∙ h) in
    (tt, get-contents t e.pair ∙ last.found, λ q b c. get-contents t q ∙ last.between q refl (below_of e.pair q c))

pub greatest-empty : (t : Tree) (o : Option Pair) → entries t ≡ [] → IsGreatestBelow (contents t) o None
greatest-empty t o e = λ q b. get-contents t q ∙ ap (λ es. mark_in es q) e

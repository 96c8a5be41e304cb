-- Lemmas on two neighbours.
use Rattle.std.proofs.Common.{inl, inr, ◌≡◌, ℕ, ◌+◌, ◌-◌, ◌<◌, ◌≤◌, List, [], ◌∷◌, ◌++◌, length, Some, refl, sym, ap, subst, ◌∙◌, arith, suc}
use Rattle.std.proofs.lemmas.List.{append-nil}
use Rattle.std.proofs.lemmas.Bool.{cases_lt}
use Rattle.record_values.specs.declared.pair.Pair.{Pair}
use Rattle.node_parts.specs.declared.Entry.{Entry}
use Rattle.node_parts.specs.declared.Child.{Child}
use Rattle.node_parts.specs.Tree.{Tree, leaf, branch, none, more, entries, forest_of, trees_of, count}
use Rattle.node_parts.specs.Seen.{least_of, AreLabelled}
use Rattle.node_parts.specs.Balance.{IsTree, AreTrees}
use Rattle.node_parts.specs.Rows.{trees}
use Rattle.node_parts.proofs.Children.{all_entries}
use Rattle.node_parts.proofs.Local.{entries-append, AreLabelled-append}
use Rattle.node_parts.proofs.Balance.{trees-append, trees-left, trees-right}
use Rattle.node_parts.proofs.RowLemmas as rows

-- the items of two rows were divided otherwise
pub labels : {A : Type 0} (ls rs ms ns : List (Child A)) → ms ++ ns ≡ ls ++ rs → AreLabelled ls → AreLabelled rs → AreLabelled (ms ++ ns)
labels ls rs ms ns e a b = rw e (AreLabelled-append ls rs a b)

pub joined : {A : Type 0} (ls rs ms ns : List (Child A)) (t u : Tree) → ms ++ ns ≡ ls ++ rs → t ≡ branch (forest_of (trees ls))
    → u ≡ branch (forest_of (trees rs)) → all_entries ms ++ all_entries ns ≡ entries t ++ entries u
joined ls rs ms ns t u e f g =
    sym (entries-append ms ns) ∙ ap all_entries e ∙ entries-append ls rs ∙ sym (ap (λ x. entries x ++ entries u) f ∙ ap (λ x. all_entries ls ++ entries x) g)

-- all of two rows is in one
pub merged : {A : Type 0} (ls rs ms : List (Child A)) (t u : Tree) → ms ≡ ls ++ rs → t ≡ branch (forest_of (trees ls)) → u ≡ branch (forest_of (trees rs))
    → all_entries ms ≡ entries t ++ entries u
merged ls rs ms t u e f g = sym (append-nil (all_entries ms)) ∙ joined ls rs ms [] t u (append-nil ms ∙ e) f g

pub level_trees : {A : Type 0} (h : ℕ) (ls rs ms ns : List (Child A)) (t u : Tree) → ms ++ ns ≡ ls ++ rs → t ≡ branch (forest_of (trees ls))
    → u ≡ branch (forest_of (trees rs)) → IsTree h t → IsTree h u → (1 < h) × AreTrees (h - 1) (forest_of (trees ms)) × AreTrees (h - 1) (forest_of (trees ns))
level_trees h ls rs ms ns t u e f g b c =
    let b' : IsTree h (branch (forest_of (trees ls))) = subst (λ x. IsTree h x) f b in
    let c' : IsTree h (branch (forest_of (trees rs))) = subst (λ x. IsTree h x) g c in
    let same : trees ms ++ trees ns ≡ trees ls ++ trees rs = sym (rows.trees-append ms ns) ∙ ap trees e ∙ rows.trees-append ls rs in
    let all : AreTrees (h - 1) (forest_of (trees ms ++ trees ns)) = rw same (trees-append (h - 1) (trees ls) (trees rs) b'.2 c'.2) in
    (b'.0, trees-left (h - 1) (trees ms) (trees ns) all, trees-right (h - 1) (trees ms) (trees ns) all)

pub no_entries : (t : Tree) → count t ≡ 0 → entries t ≡ []
no_entries (leaf []) e = refl
no_entries (leaf (x ∷ es)) e = absurd (omega arith)
no_entries (branch none) e = refl
no_entries (branch (more t f)) e = let z : suc (length (trees_of f)) ≡ 0 = e in absurd (omega arith)

pub front_label : (es fs xs ys : List Entry) (q : Pair) → es ++ xs ≡ fs ++ ys → 0 < length es → least_of fs ≡ Some q → least_of es ≡ Some q
front_label [] fs xs ys q e s l = absurd (omega arith)
front_label (x ∷ es) [] xs ys q e s l = cc
front_label (x ∷ es) (f ∷ fs) xs ys q e s l = let same : x ≡ f = cc in rw same l

-- m and n are a and b after one was moved from the greater to the other
abbrev pub IsMoved : ℕ → ℕ → ℕ → ℕ → Type 0
IsMoved a b m n = (a < b → (m ≡ a + 1) × (n + 1 ≡ b)) × (b ≤ a → (m + 1 ≡ a) × (n ≡ b + 1))

pub moved_few : (a b m n : ℕ) → IsMoved a b m n → a ≤ 32 → b ≤ 32 → a + b < 64 → (m ≤ 32) × (n ≤ 32)
moved_few a b m n i x y z = elim (cases_lt a b) [
  | inl l ↦ (omega (arith, (i.0 l).0), omega (arith, (i.0 l).1))
  | inr l ↦ (
    omega (arith, (i.1 l).0),
    omega (arith, (i.1 l).1),
  )
]

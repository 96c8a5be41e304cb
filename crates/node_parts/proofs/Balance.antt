-- Lemmas on level trees.
use Rattle.std.proofs.Common.{◌≡◌, ℕ, ◌+◌, ◌-◌, ◌*◌, ◌^◌, ◌<◌, ◌≤◌, List, [], ◌∷◌, ◌++◌, length, get_or, map, sym, arith, zero, suc, length-append, lit<}
use Rattle.std.proofs.Math.ListN.{set}
use Rattle.std.proofs.Math.Nat.{mul-le-mul_left, pow-succ', pow-le-pow_right}
use Rattle.std.specs.List.{insert}
use Rattle.node_parts.specs.Tree.{Tree, Forest, leaf, branch, none, more, count, trees_of, forest_of, entries, forest_entries, depth, forest_depth}
use Rattle.node_parts.specs.Balance.{IsTree, AreTrees, IsRoot}
use Rattle.node_parts.specs.declared.Child.{Child}

-- ---- how many entries
pow_above : (h : ℕ) → 1 < h → 16 ^ h ≡ 16 * 16 ^ (h - 1)
pow_above zero k = absurd (omega arith)
pow_above (suc h) k = let e : suc h - 1 ≡ h = omega arith in rw e (pow-succ' 16 h)

mutual
  pub at_least : (h : ℕ) (t : Tree) → IsTree h t → 16 ≤ count t → 16 ^ h ≤ length (entries t)
  at_least h (leaf es) b k = let e : h ≡ 1 = b.0 in rw e k
  at_least h (branch f) b k =
      let all : length (trees_of f) * 16 ^ (h - 1) ≤ length (forest_entries f) = at_least_all (h - 1) f b.2 in
      let more_of : 16 ^ (h - 1) * 16 ≤ 16 ^ (h - 1) * length (trees_of f) = mul-le-mul_left (16 ^ (h - 1)) k in
      omega (arith, pow_above h b.0, all, more_of)

  pub at_least_all : (h : ℕ) (f : Forest) → AreTrees h f → length (trees_of f) * 16 ^ h ≤ length (forest_entries f)
  at_least_all h none b = omega arith
  at_least_all h (more t f) b =
      let one : 16 ^ h ≤ length (entries t) = at_least h t b.1 b.0 in
      let rest : length (trees_of f) * 16 ^ h ≤ length (forest_entries f) = at_least_all h f b.2 in
      let both : length (entries t ++ forest_entries f) ≡ length (entries t) + length (forest_entries f) = length-append (entries t) (forest_entries f) in
      omega (arith, one, rest, both)

pub root_at_least : (h : ℕ) (t : Tree) → IsRoot h t → 1 < h → 2 * 16 ^ (h - 1) ≤ length (entries t)
root_at_least h (leaf es) b k = let e : h ≡ 1 = b.0.0 in absurd (omega arith)
root_at_least h (branch f) b k =
    let all : length (trees_of f) * 16 ^ (h - 1) ≤ length (forest_entries f) = at_least_all (h - 1) f b.0.2 in
    let two : 16 ^ (h - 1) * 2 ≤ 16 ^ (h - 1) * length (trees_of f) = mul-le-mul_left (16 ^ (h - 1)) b.1 in
    omega (arith, all, two)

-- a number of levels, and the entries that one more would have
eight_levels : (h : ℕ) (t : Tree) → IsRoot h t → 8 ≤ h → 536870912 ≤ length (entries t)
eight_levels h t b m =
    let seven : 7 ≤ h - 1 = omega arith in
    let pow : 16 ^ 7 ≤ 16 ^ (h - 1) = pow-le-pow_right {n = 16} (lit< tt) seven in
    let two : 2 * 16 ^ (h - 1) ≤ length (entries t) = root_at_least h t b (omega arith) in
    omega (arith, pow, two)

-- up to 268,435,456 entries give at most seven levels
pub at_most_seven : (h : ℕ) (t : Tree) → IsRoot h t → length (entries t) ≤ 268435456 → h ≤ 7
at_most_seven h t b k =
    let big : 8 ≤ h → 536870912 ≤ length (entries t) = λ m. eight_levels h t b m in
    grind (arith, big)

seven_levels : (h : ℕ) (t : Tree) → IsRoot h t → 7 ≤ h → 33554432 ≤ length (entries t)
seven_levels h t b m =
    let six : 6 ≤ h - 1 = omega arith in
    let pow : 16 ^ 6 ≤ 16 ^ (h - 1) = pow-le-pow_right {n = 16} (lit< tt) six in
    let two : 2 * 16 ^ (h - 1) ≤ length (entries t) = root_at_least h t b (omega arith) in
    omega (arith, pow, two)

-- up to 8,388,608 entries give at most six levels
pub at_most_six : (h : ℕ) (t : Tree) → IsRoot h t → length (entries t) ≤ 8388608 → h ≤ 6
at_most_six h t b k =
    let big : 7 ≤ h → 33554432 ≤ length (entries t) = λ m. seven_levels h t b m in
    grind (arith, big)

five_levels : (h : ℕ) (t : Tree) → IsRoot h t → 5 ≤ h → 131072 ≤ length (entries t)
five_levels h t b m =
    let four : 4 ≤ h - 1 = omega arith in
    let pow : 16 ^ 4 ≤ 16 ^ (h - 1) = pow-le-pow_right {n = 16} (lit< tt) four in
    let two : 2 * 16 ^ (h - 1) ≤ length (entries t) = root_at_least h t b (omega arith) in
    omega (arith, pow, two)

-- up to 65,536 entries give at most four levels
pub at_most_four : (h : ℕ) (t : Tree) → IsRoot h t → length (entries t) ≤ 65536 → h ≤ 4
at_most_four h t b k =
    let big : 5 ≤ h → 131072 ≤ length (entries t) = λ m. five_levels h t b m in
    grind (arith, big)

-- ---- how deep
mutual
  pub depth-tree : (h : ℕ) (t : Tree) → IsTree h t → 0 < count t → depth t ≡ h
  depth-tree h (leaf es) b k = sym b.0
  depth-tree h (branch f) b k = omega (arith, depth-forest (h - 1) f b.2 k, b.0)

  pub depth-forest : (h : ℕ) (f : Forest) → AreTrees h f → 0 < length (trees_of f) → forest_depth f ≡ h
  depth-forest h none b k = absurd (omega arith)
  depth-forest h (more t f) b k =
      let one : depth t ≡ h = depth-tree h t b.1 (omega (arith, b.0)) in
      let rest : forest_depth f ≤ h = depth-upto h f b.2 in
      omega (arith, one, rest)

  depth-upto : (h : ℕ) (f : Forest) → AreTrees h f → forest_depth f ≤ h
  depth-upto h none b = omega arith
  depth-upto h (more t f) b =
      let one : depth t ≡ h = depth-tree h t b.1 (omega (arith, b.0)) in
      let rest : forest_depth f ≤ h = depth-upto h f b.2 in
      omega (arith, one, rest)

pub trees-append : (h : ℕ) (ts us : List Tree) → AreTrees h (forest_of ts) → AreTrees h (forest_of us) → AreTrees h (forest_of (ts ++ us))
trees-append h [] us b c = c
trees-append h (t ∷ ts) us b c = (b.0, b.1, trees-append h ts us b.2 c)

pub trees-left : (h : ℕ) (ts us : List Tree) → AreTrees h (forest_of (ts ++ us)) → AreTrees h (forest_of ts)
trees-left h [] us b = tt
trees-left h (t ∷ ts) us b = (b.0, b.1, trees-left h ts us b.2)

pub trees-right : (h : ℕ) (ts us : List Tree) → AreTrees h (forest_of (ts ++ us)) → AreTrees h (forest_of us)
trees-right h [] us b = b
trees-right h (t ∷ ts) us b = trees-right h ts us b.2

pub trees-insert : (h : ℕ) (ts : List Tree) (k : ℕ) (u : Tree) → AreTrees h (forest_of ts) → 16 ≤ count u → IsTree h u → AreTrees h (forest_of (insert ts k u))
trees-insert h [] zero u b l v = (l, v, tt)
trees-insert h [] (suc k) u b l v = (l, v, tt)
trees-insert h (t ∷ ts) zero u b l v = (l, v, b)
trees-insert h (t ∷ ts) (suc k) u b l v = (b.0, b.1, trees-insert h ts k u b.2 l v)

pub trees-set : (h : ℕ) (ts : List Tree) (k : ℕ) (u : Tree) → AreTrees h (forest_of ts) → 16 ≤ count u → IsTree h u → AreTrees h (forest_of (set ts k u))
trees-set h [] k u b l v = tt
trees-set h (t ∷ ts) zero u b l v = (l, v, b.2)
trees-set h (t ∷ ts) (suc k) u b l v = (b.0, b.1, trees-set h ts k u b.2 l v)

pub children_at : {A : Type 0} (h : ℕ) (cs : List (Child A)) (k : ℕ) (d : Child A) → AreTrees h (forest_of (map (λ c. c.node.value) cs)) → k < length cs
    → (16 ≤ count (get_or cs k d).node.value) × IsTree h (get_or cs k d).node.value
children_at h [] k d b l = absurd (omega arith)
children_at h (c ∷ cs) zero d b l = (b.0, b.1)
children_at h (c ∷ cs) (suc k) d b l = children_at h cs k d b.2 (omega arith)

-- A B-tree as plain data: no allocator, no memory, no separators.
use Rattle.std.specs.Prelude.{◌≡◌, ℕ, ◌+◌, max, List, [], ◌∷◌, ◌++◌, length, refl, Bool, true, false, zero, suc}
use Rattle.std.proofs.Common.{ap}
use Rattle.std.specs.Coded.{Coded, code_by, coded×, coded_list}
use Rattle.record_values.specs.Codes.{coded_pair, coded_mark}
use base.Stored.{Gv, gnil, gnum, gcons}
use Rattle.record_values.specs.declared.pair.Pair.{Pair}
use Rattle.record_values.specs.declared.pair.Mark.{Mark}
use Rattle.node_parts.specs.declared.Entry.{Entry}

mutual
  pub data Tree : Type 0 where
    leaf : List Entry → Tree
    branch : Forest → Tree

  pub data Forest : Type 0 where
    none : Forest
    more : Tree → Forest → Forest

-- ---- a row of trees as a list
-- a list of trees as a row
abbrev pub forest_of : List Tree → Forest
forest_of [] = none
forest_of (t ∷ ts) = more t (forest_of ts)

-- a row of trees as a list
abbrev pub trees_of : Forest → List Tree
trees_of none = []
trees_of (more t f) = t ∷ trees_of f

-- there and back is the same list
pub trees_of-forest_of : (ts : List Tree) → trees_of (forest_of ts) ≡ ts
trees_of-forest_of [] = refl
trees_of-forest_of (t ∷ ts) = ap (λ us. t ∷ us) (trees_of-forest_of ts)

-- ---- what is in it, in order
abbrev mutual
  pub entries : Tree → List Entry
  entries (leaf es) = es
  entries (branch f) = forest_entries f

  pub forest_entries : Forest → List Entry
  forest_entries none = []
  forest_entries (more t f) = entries t ++ forest_entries f

-- ---- how deep
abbrev mutual
  pub depth : Tree → ℕ
  depth (leaf es) = 1
  depth (branch f) = forest_depth f + 1

  pub forest_depth : Forest → ℕ
  forest_depth none = 0
  forest_depth (more t f) = max (depth t) (forest_depth f)

-- ---- how the logic stores a tree
-- how the logic stores a leaf's entries
abbrev entries_code : Coded (List Entry)
entries_code = coded_list (code_by (Pair × Mark) (coded× coded_pair coded_mark) (λ e. (e.pair, e.mark)) (λ t.
    record { pair = t.0; mark = t.1 }) (λ _. refl))

-- the first of two
abbrev first : Gv → Gv
first gnil = gnil
first (gnum n) = gnil
first (gcons a b) = a

-- the second of two
abbrev second : Gv → Gv
second gnil = gnil
second (gnum n) = gnil
second (gcons a b) = b

-- whether there are two
abbrev is_pair : Gv → Bool
is_pair gnil = false
is_pair (gnum n) = false
is_pair (gcons a b) = true

-- whether it is the number 0
abbrev is_zero : Gv → Bool
is_zero gnil = false
is_zero (gnum zero) = true
is_zero (gnum (suc n)) = false
is_zero (gcons a b) = false

-- a tree as what the logic stores
abbrev mutual
  tree_to : Tree → Gv
  tree_to (leaf es) = gcons (gnum 0) (entries_code.code es)
  tree_to (branch f) = gcons (gnum 1) (forest_to f)

  forest_to : Forest → Gv
  forest_to none = gnil
  forest_to (more t f) = gcons (tree_to t) (forest_to f)

mutual
  pub tree_to-inj : (s t : Tree) → tree_to s ≡ tree_to t → s ≡ t
  tree_to-inj (leaf es) (leaf fs) e = ap leaf (entries_code.inj es fs (ap second e))
  tree_to-inj (branch f) (branch g) e = ap branch (forest_to-inj f g (ap second e))
  tree_to-inj (leaf es) (branch g) e = let h : true ≡ false = ap (λ v. is_zero (first v)) e in cc
  tree_to-inj (branch f) (leaf fs) e = let h : false ≡ true = ap (λ v. is_zero (first v)) e in cc

  pub forest_to-inj : (f g : Forest) → forest_to f ≡ forest_to g → f ≡ g
  forest_to-inj none none e = refl
  forest_to-inj (more s f) (more t g) e = λ i. more (tree_to-inj s t (ap first e) i) (forest_to-inj f g (ap second e) i)
  forest_to-inj none (more t g) e = let h : false ≡ true = ap is_pair e in cc
  forest_to-inj (more s f) none e = let h : true ≡ false = ap is_pair e in cc

-- how the logic stores a tree
abbrev pub tree_code : Coded Tree
tree_code = record { code = tree_to; inj = tree_to-inj }

-- it has entries and no children
abbrev pub IsLeaf : Tree → Type 0
IsLeaf (leaf es) = Unit {0}
IsLeaf (branch f) = ⊥

-- a leaf with nothing in it
abbrev pub an_empty_leaf : Tree
an_empty_leaf = leaf []

-- an inner node with no child
abbrev pub an_empty_inner : Tree
an_empty_inner = branch none

-- it has children
abbrev pub IsInner : Tree → Type 0
IsInner (leaf es) = ⊥
IsInner (branch f) = Unit {0}

-- how many entries or children it has
abbrev pub count : Tree → ℕ
count (leaf es) = length es
count (branch f) = length (trees_of f)

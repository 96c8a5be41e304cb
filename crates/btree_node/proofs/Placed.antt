-- What a walk down leaves that puts a pair into its leaf, or finds it, or finds no room.
use Rattle.std.proofs.Common.{◌≡◌, ◌≢◌, ℕ, ◌+◌, ◌-◌, ◌<◌, ◌≤◌, ◌==◌, ◌&&◌, Bool, cond, List, [], ◌∷◌, length, get_or, Option, Some, None, refl}
use Rattle.std.proofs.Common.{sym, ap, ◌∙◌, arith, zero, suc}
use Rattle.std.proofs.lemmas.Bool.Decides.{nat_tests}
use Rattle.std.proofs.lemmas.List.{append-nil}
use Rattle.std.proofs.Math.ListN.{set, length-set}
use Rattle.record_values.specs.declared.pair.Pair.{Pair}
use Rattle.record_values.specs.declared.pair.Mark.{Mark}
use Rattle.node_parts.specs.declared.Entry.{Entry}
use Rattle.node_parts.specs.declared.Child.{Child}
use Rattle.node_parts.specs.Balance.{IsTree}
use Rattle.node_parts.specs.Order.{is_below, insert_entry, mark_in}
use Rattle.node_parts.specs.Rows.{trees}
use Rattle.node_parts.specs.Seen.{least_of, AreLabelled}
use Rattle.node_parts.specs.Tree.{Tree, leaf, branch, entries, forest_of, trees_of, count, depth}
use Rattle.node_parts.proofs.Children.{all_entries}
use Rattle.node_parts.proofs.Local.{AreLabelled-set}
use Rattle.node_parts.proofs.RowLemmas as rows
use Rattle.btree_node.specs.declared.placing.InLeaf.{InLeaf}
use Rattle.btree_node.specs.declared.placing.InLeaf.TheVariants.{Added, Found, NoRoom}
use Rattle.std.specs.FinMap as map
use Rattle.btree_node.specs.Contents.{contents}
use Rattle.btree_node.specs.Placed.{outcome}
use Rattle.btree_node.specs.Splits.{splits}
use Rattle.btree_node.specs.Top.{nodes_for}
use Rattle.btree_node.proofs.Contents.{contents-insert, get-contents}
use Rattle.btree_node.proofs.Insert.{trees-set}
use Rattle.btree_node.proofs.Marks.{mark_of}
use Rattle.btree_node.proofs.Top.{root_deep}
use Rattle.btree_node.proofs.At as at
use Rattle.btree_node.proofs.At.{IsAt, IsPut}

-- ---- what comes of it
pub no_room : (o : Option Mark) (n m : ℕ) → 0 < n → 0 < m → outcome o n ≡ outcome o m
no_room (Some x) n m h k = refl
no_room None zero m h k = absurd (omega arith)
no_room None (suc n) zero h k = absurd (omega arith)
no_room None (suc n) (suc m) h k = refl

-- only whether nodes are taken matters
pub same_outcome : (o : Option Mark) (n m : ℕ) → (n ≡ 0 → m ≡ 0) → (m ≡ 0 → n ≡ 0) → outcome o n ≡ outcome o m
same_outcome o zero m h k = ap (outcome o) (sym (h refl))
same_outcome o (suc n) zero h k = let none : suc n ≡ 0 = k refl in absurd (omega arith)
same_outcome o (suc n) (suc m) h k = no_room o (suc n) (suc m) (omega arith) (omega arith)

pub no_split : (s d : ℕ) (b : Bool) → 0 < d → s ≡ 0 → s + cond ((s == d) && b) 1 0 ≡ 0
no_split s d b h e = grind (arith, nat_tests)

pub outcome_of : {A : Type 0} {t u : Tree} {cs : List (Child A)} {k : ℕ} {c : Child A} {p : Pair} → IsAt t u cs k c p
    → outcome (mark_in (entries u) p) (splits u p) ≡ outcome (mark_in (entries t) p) (splits t p)
outcome_of {t} {u} {cs} {k} {c} {p} a =
    let more : splits t p ≡ splits u p + cond ((splits u p == depth u) && (length cs == 32)) 1 0 = at.splits_of a in
    ap (λ o. outcome o (splits u p)) (sym (mark_of a))
    ∙ same_outcome (mark_in (entries t) p) (splits u p) (splits t p)
    (λ e. more ∙ no_split (splits u p) (depth u) (length cs == 32) (root_deep u) e) (λ e. omega (arith, more, e))

pub no_top : (s d : ℕ) → 0 < d → s ≡ 0 → s + cond (s == d) 1 0 ≡ 0
no_top s d h e = grind (arith, nat_tests)

pub outcome_top : (t : Tree) (p : Pair) → 0 < length (entries t) → outcome (mark_in (entries t) p) (splits t p)
    ≡ outcome (mark_in (entries t) p) (nodes_for t p)
outcome_top (leaf []) p h = absurd (omega arith)
outcome_top (leaf (e ∷ es)) p h = same_outcome _ _ _ (λ z. no_top _ 1 (omega arith) z) (λ z. omega (arith, z))
outcome_top (branch f) p h = same_outcome _ _ _ (λ z. no_top _ (depth (branch f)) (omega arith) z) (λ z. omega (arith, z))

pub added_of : (r : InLeaf) (o : Option Mark) (n : ℕ) → r ≡ Added → r ≡ outcome o n → (o ≡ None) × (n ≡ 0)
added_of r (Some m) n a e = let no : Added ≡ Found m = sym a ∙ e in cc
added_of r None zero a e = (refl, refl)
added_of r None (suc n) a e = let no : Added ≡ NoRoom = sym a ∙ e in cc

-- ---- in a whole tree
pub no_leaf : (t : Tree) (p : Pair) → t ≡ leaf [] → NoRoom ≡ outcome (map.get (contents t) p) (nodes_for t p)
no_leaf t p e = rw (e, get-contents (leaf []) p) refl

pub outcome_whole : (t u : Tree) (r : InLeaf) (p : Pair) → t ≡ u → 0 < length (entries t) → r ≡ outcome (mark_in (entries t) p) (splits t p)
    → r ≡ outcome (map.get (contents u) p) (nodes_for u p)
outcome_whole t u r p here some o = o ∙ outcome_top t p some ∙ ap (λ x. outcome (mark_in (entries x) p) (nodes_for x p)) here
    ∙ ap (λ x. outcome x (nodes_for u p)) (sym (get-contents u p))

pub put_absent : (t u : Tree) (r : InLeaf) (p : Pair) → t ≡ u → r ≡ outcome (mark_in (entries t) p) (splits t p) → r ≡ Added → map.get (contents u) p ≡ None
put_absent t u r p here o h = get-contents u p ∙ ap (λ x. mark_in (entries x) p) (sym here) ∙ (added_of r _ _ h o).0

pub put_contents : (t u v : Tree) (r : InLeaf) (p : Pair) (m : Mark) → t ≡ u → r ≡ outcome (mark_in (entries t) p) (splits t p)
    → (r ≡ Added → entries v ≡ insert_entry (entries t) (record { pair = p; mark = m })) → r ≡ Added → contents v ≡ map.insert (contents u) p m
put_contents t u v r p m here o added h =
    let entry : Entry = record { pair = p; mark = m } in
    contents-insert u v p m (put_absent t u r p here o h) (added h ∙ ap (λ x. insert_entry (entries x) entry) here)

-- ---- the child c was replaced by b, after an entry was to be put into its tree u
pub record IsTried {A : Type 0} (r : InLeaf) (u : Tree) (c b : Child A) (e : Entry) : Type 0 where
  pub added : r ≡ Added → entries b.node.value ≡ insert_entry (entries u) e
  pub lowered : r ≡ Added → b.least ≡ cond (is_below c.least e.pair) c.least e.pair
  pub same : r ≢ Added → b.node.value ≡ u
  pub label : r ≢ Added → b.least ≡ c.least
  pub level : IsTree (depth u) b.node.value
  pub more : count u ≤ count b.node.value

put_of : {A : Type 0} {t u : Tree} {cs : List (Child A)} {k : ℕ} {c b : Child A} {r : InLeaf} {e : Entry} → IsAt t u cs k c e.pair → IsTried r u c b e
    → r ≡ Added → IsPut u c b e []
put_of a n h = record {
  entries_are = append-nil _ ∙ n.added h;
  least_is = n.lowered h;
  level = n.level;
  low = omega (arith, n.more, (at.child_level a).0);
}

pub tried_entries : {A : Type 0} {t u : Tree} {cs : List (Child A)} {k : ℕ} {c b : Child A} {r : InLeaf} {e : Entry} → IsAt t u cs k c e.pair
    → IsTried r u c b e → r ≡ Added → all_entries (set cs k b) ≡ insert_entry (entries t) e
tried_entries a n h = at.put_entries a (put_of a n h)

unmoved : {A : Type 0} {t u : Tree} {cs : List (Child A)} {k : ℕ} {c : Child A} {p : Pair} (b : Child A) → IsAt t u cs k c p → b.node.value ≡ u
    → b.least ≡ c.least → AreLabelled (set cs k b)
unmoved {cs = cs} {k} b a e l = AreLabelled-set cs k b a.labelled (ap (λ x. least_of (entries x)) e ∙ at.label a ∙ ap Some (sym l))

pub tried_labelled : {A : Type 0} {t u : Tree} {cs : List (Child A)} {k : ℕ} {c b : Child A} (r : InLeaf) {e : Entry} → IsAt t u cs k c e.pair
    → IsTried r u c b e → AreLabelled (set cs k b)
tried_labelled Added a n = at.put_labelled a (put_of a n refl)
tried_labelled (Found m) a n = unmoved _ a (n.same (λ h. cc)) (n.label (λ h. cc))
tried_labelled NoRoom a n = unmoved _ a (n.same (λ h. cc)) (n.label (λ h. cc))

pub tried_tree : {A : Type 0} {t u : Tree} {cs : List (Child A)} {k : ℕ} {c b : Child A} {r : InLeaf} {e : Entry} → IsAt t u cs k c e.pair
    → IsTried r u c b e → IsTree (depth t) (branch (forest_of (trees (set cs k b))))
tried_tree {t} {cs = cs} {k} {b = b} a n = (
  (at.levels a).0,
  omega (arith, rows.length-trees (set cs k b), length-set cs k b, (at.levels a).1),
  trees-set (depth t - 1) cs k b (at.levels a).2 (omega (arith, n.more, (at.child_level a).0)) (rw (at.child_depth a) at n.level),
)

pub tried_count : {A : Type 0} {t u : Tree} {cs : List (Child A)} {k : ℕ} {c b : Child A} {r : InLeaf} {e : Entry} → IsAt t u cs k c e.pair
    → IsTried r u c b e → count t ≤ length (trees_of (forest_of (trees (set cs k b))))
tried_count {t} {cs = cs} {k} {b = b} a n = omega (arith, ap count a.seen, rows.length-trees cs, rows.length-trees (set cs k b), length-set cs k b)

pub trees-same : {A : Type 0} (cs : List (Child A)) (k : ℕ) (b d : Child A) → b.node.value ≡ (get_or cs k d).node.value → trees (set cs k b) ≡ trees cs
trees-same [] k b d e = refl
trees-same (c ∷ cs) zero b d e = ap (λ x. x ∷ trees cs) e
trees-same (c ∷ cs) (suc k) b d e = ap (λ xs. c.node.value ∷ xs) (trees-same cs k b d e)

pub tried_same : {A : Type 0} {t u : Tree} {cs : List (Child A)} {k : ℕ} {c b : Child A} {r : InLeaf} {e : Entry} → IsAt t u cs k c e.pair
    → IsTried r u c b e → r ≢ Added → branch (forest_of (trees (set cs k b))) ≡ t
tried_same {t} {u} {cs} {k} {c} {b} a n h =
    let same : b.node.value ≡ (get_or cs k c).node.value = n.same h ∙ a.tree ∙ ap (λ x. x.node.value) a.child in
    ap (λ ts. branch (forest_of ts)) (trees-same cs k b c same) ∙ sym a.seen

-- Only the label of a first child can come after a pair that belongs in the child.
use Rattle.std.proofs.Common.{◌≡◌, ℕ, ◌<◌, Bool, true, false, cond, List, [], ◌∷◌, get_or, refl, sym, subst, arith, zero, suc}
use Rattle.std.specs.Ordering.{is_eq}
use Rattle.record_values.specs.declared.pair.Pair.{Pair}
use Rattle.node_parts.specs.declared.Child.{Child}
use Rattle.node_parts.specs.Order.{order, is_below}
use Rattle.node_parts.specs.Tree.{Tree}
use Rattle.node_parts.proofs.Order.{same_pair}
use Rattle.node_parts.proofs.Children.{place_of, one_zero, suc_false}
use Rattle.btree_node.proofs.Ascending.{other_below}
use Rattle.btree_node.proofs.Remove.{equal_of}
use Rattle.btree_node.proofs.At.{IsAt}

-- the lower of two pairs, of which the second does not come before the first
pub lower_of : (a b : Pair) → is_below b a ≡ false → a ≡ cond (is_below a b) a b
lower_of a b h = pick (is_below a b) refl
  where
    tie : is_below a b ≡ false → (v : Bool) → is_eq (order a b) ≡ v → a ≡ b
    tie l true e = same_pair a b (equal_of (order a b) e)
    tie l false e = let above : is_below b a ≡ true = other_below a b l e in cc

    pick : (v : Bool) → is_below a b ≡ v → a ≡ cond v a b
    pick true e = refl
    pick false e = tie e (is_eq (order a b)) refl

label_upto : {A : Type 0} (cs : List (Child A)) (p : Pair) (k : ℕ) (d : Child A) → place_of p cs ≡ suc k → is_below p (get_or cs k d).least ≡ false
label_upto [] p k d e = cc
label_upto (c ∷ cs) p zero d e = suc_false (is_below p c.least) (place_of p cs) 0 e
label_upto (c ∷ cs) p (suc k) d e = label_upto cs p k d (one_zero (is_below p c.least) (place_of p cs) (suc k) e)

pub upto_pair : {A : Type 0} {t u : Tree} {cs : List (Child A)} {k : ℕ} {c : Child A} {p : Pair} → IsAt t u cs k c p → 0 < k → is_below p c.least ≡ false
upto_pair {cs = cs} {k} {c} {p} a h =
    let behind : place_of p cs ≡ suc k = omega (arith, a.place, h) in
    subst (λ x. is_below p x.least ≡ false) (sym a.child) (label_upto cs p k c behind)

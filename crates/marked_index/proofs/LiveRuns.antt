-- Live entries of a run.
use Rattle.std.proofs.Common.{◌≡◌, ◌<◌, ◌+◌, ℕ, zero, suc, true, false, cond, not, List, [], ◌∷◌, Option, Some, None, get_or, refl, sym, ap, subst, ◌∙◌, arith}
use Rattle.std.specs.FinMap.{get}
use Rattle.std.specs.declared.cmp.Ordering.{Ordering}
use Rattle.std.specs.declared.cmp.Ordering.TheVariants.{Equal, Greater, Less}
use Rattle.std.specs.Ordering.{ordering_reverse}
use Rattle.record_values.specs.Maps.{pair_exact}
use Rattle.record_values.specs.Orders.{pair_cmp, pair_cmp_total}
use Rattle.record_values.specs.declared.pair.Mark.{Mark}
use Rattle.record_values.specs.declared.pair.Mark.TheVariants.{Live, Marked}
use Rattle.record_values.specs.declared.pair.Pair.{Pair}
use Rattle.record_values.specs.Entries.{Index}
use Rattle.btree_node.specs.Above.{IsLeastAbove}
use Rattle.btree_node.specs.Runs.{IsRunAbove}
use Rattle.node_parts.specs.declared.Entry.{Entry}
use Rattle.marked_index.specs.Counts.{is_marked}
use Rattle.marked_index.specs.Passing.{IsBehindLive, IsLiveNext, live_front}

no_mark : (x : Mark) → (◌≡◌ {A = Option Mark} None (Some x)) → ⊥
no_mark x e = absurd cc

apart : (◌≡◌ {A = Option Mark} (Some Marked) (Some Live)) → ⊥
apart e = absurd cc

module _ (m : Index) where
  abbrev front_by : Mark → List Entry → ℕ
  front_by x es = cond (not (is_marked x)) (1 + live_front es) 0

  -- the entries that a run begins with, as long as they are live
  pub front_path : (es : List Entry) (start : Option Pair) (n : ℕ) (d : Entry) → IsRunAbove m start es → n < live_front es
      → IsBehindLive m start (get_or es n d).pair
  front_path [] start n d run below = absurd (omega arith)
  front_path (e ∷ es) start n d run below = by e.mark refl n below (λ k. front_path es (Some e.pair) k d run.1)
    where
      by : (x : Mark) → e.mark ≡ x → (n : ℕ) → n < front_by x es → ((k : ℕ) → k < live_front es → IsBehindLive m (Some e.pair) (get_or es k d).pair)
          → IsBehindLive m start (get_or (e ∷ es) n d).pair
      by Marked is n below rest = absurd (omega arith)
      by Live is zero below rest = record {
        passed = e.pair ∷ [];
        path = (subst (λ y. IsLeastAbove m start (Some (e.pair, y))) is run.0, refl);
        some = omega arith;
      }
      by Live is (suc k) below rest =
          let later : IsBehindLive m (Some e.pair) (get_or es k d).pair = rest k (omega arith) in
          record {
            passed = e.pair ∷ later.passed;
            path = (subst (λ y. IsLeastAbove m start (Some (e.pair, y))) is run.0, later.path);
            some = omega arith;
          }

  -- an entry is not next where a marked one is
  one_next : (start : Option Pair) (p q : Pair) → IsLeastAbove m start (Some (p, Marked)) → IsLeastAbove m start (Some (q, Live)) → ⊥
  one_next start p q marked live = by (pair_cmp p q) refl
    where
      by : (o : Ordering) → pair_cmp p q ≡ o → ⊥
      by Less is = no_mark Marked (sym (live.2 p marked.0 is) ∙ marked.1)
      by Equal is = apart (sym marked.1 ∙ ap (get m) (pair_exact.only_equal p q is) ∙ live.1)
      by Greater is = no_mark Live (sym (marked.2 q live.0 (pair_cmp_total.antisymm q p ∙ ap ordering_reverse is)) ∙ live.1)

  -- a run that begins with no live entry
  pub none_live : (es : List Entry) (start : Option Pair) → IsRunAbove m start es → (es ≡ [] → IsLeastAbove m start None) → live_front es ≡ 0
      → IsLiveNext m start → ⊥
  none_live [] start run none is next = no_mark Live (sym (none refl next.0 next.1.0) ∙ next.1.1)
  none_live (e ∷ es) start run none is next = by e.mark refl is
    where
      by : (x : Mark) → e.mark ≡ x → front_by x es ≡ 0 → ⊥
      by Live same is = absurd (omega arith)
      by Marked same is = one_next start e.pair next.0 (subst (λ y. IsLeastAbove m start (Some (e.pair, y))) same run.0) next.1

-- one entry further in a run
pub front_live : (x : Mark) → x ≡ Live → not (is_marked x) ≡ true
front_live x is = ap (λ y. not (is_marked y)) is

pub front_marked : (x : Mark) → x ≡ Marked → not (is_marked x) ≡ false
front_marked x is = ap (λ y. not (is_marked y)) is

-- A map's entries are moved one after the other into a map that was empty.
use Rattle.std.proofs.Common.{is_some, Bool, None, Some, ap, arith, cond, false, inl, inr, refl, sym, true, ⊎_elim, ℕ, ◌+◌, ◌-◌, ◌<◌, ◌∙◌, ◌≡◌, ◌⊎◌}
use Rattle.std.specs.FinMap.{FinMap, empty, get, get-empty, len, len-insert, len-remove}
use Rattle.std.specs.Ordering.{eq_by_cmp}
use Rattle.std.specs.declared.cmp.Ordering.{Ordering}
use Rattle.record_values.specs.Maps.{IsExact, alike, get-set_at, key_is, set_at}
use Rattle.model.proofs.MapLaws.{len_less}

-- each key is still in the one with what it had, or is in the other
pub record IsMoved {K X : Type 0} {R : K → K → Ordering} (all left done : FinMap R X) : Type 0 where
  pub at : (q : K) → ((get left q ≡ get all q) × (get done q ≡ None)) ⊎ ((get left q ≡ None) × (get done q ≡ get all q))

module _ {K X : Type 0} {R : K → K → Ordering} (o : IsExact R) where
  pub none_moved : (all done : FinMap R X) → done ≡ empty → IsMoved all all done
  none_moved all done is = record { at = λ q. inl (refl, ap (λ (m : FinMap R X). get m q) is ∙ get-empty R q) }

  pub all_moved : (all left done : FinMap R X) → IsMoved all left done → left ≡ empty → done ≡ all
  all_moved all left done moved is = alike o done all (λ q.
      ⊎_elim (λ here. here.1 ∙ sym (sym here.0 ∙ ap (λ (m : FinMap R X). get m q) is ∙ get-empty R q)) (λ there. there.1) (moved.at q))

  module _ (all left done : FinMap R X) (moved : IsMoved all left done) (k : K) (x : X) (next : get left k ≡ Some x) where
    pub is_its : (get all k ≡ Some x) × (get done k ≡ None)
    is_its = ⊎_elim (λ here. (sym here.0 ∙ next, here.1)) (λ there. absurd (none_and_some (sym there.0 ∙ next))) (moved.at k)
      where
        none_and_some : None ≡ Some x → ⊥
        none_and_some e = absurd cc

    pub one_moved : IsMoved all (set_at left k None) (set_at done k (Some x))
    one_moved = record { at = λ q. by_key q (eq_by_cmp R q k) refl }
      where
        left_at : (q : K) (b : Bool) → eq_by_cmp R q k ≡ b → get (set_at left k None) q ≡ cond b None (get left q)
        left_at q b is = get-set_at o left k None q ∙ ap (λ t. cond t None (get left q)) is

        done_at : (q : K) (b : Bool) → eq_by_cmp R q k ≡ b → get (set_at done k (Some x)) q ≡ cond b (Some x) (get done q)
        done_at q b is = get-set_at o done k (Some x) q ∙ ap (λ t. cond t (Some x) (get done q)) is

        by_key : (q : K) (b : Bool) → eq_by_cmp R q k ≡ b
            → ((get (set_at left k None) q ≡ get all q) × (get (set_at done k (Some x)) q ≡ None))
            ⊎ ((get (set_at left k None) q ≡ None) × (get (set_at done k (Some x)) q ≡ get all q))
        by_key q true same = inr (left_at q true same, done_at q true same ∙ sym (ap (get all) (key_is o q k same) ∙ is_its.0))
        by_key q false other = ⊎_elim (λ here. inl (left_at q false other ∙ here.0, done_at q false other ∙ here.1)) (λ there.
            inr (left_at q false other ∙ there.0, done_at q false other ∙ there.1)) (moved.at q)

    -- one leaves the one map, and one comes into the other
    pub len_moved : len (set_at left k None) + len (set_at done k (Some x)) ≡ len left + len done
    len_moved =
        let less : len (set_at left k None) < len left = len_less o left (set_at left k None) k x next refl in
        let left_len : len (set_at left k None) ≡ len left - 1 = len-remove o.total left k ∙ ap (λ b. cond b (len left - 1) (len left)) (ap is_some next) in
        let done_len : len (set_at done k (Some x)) ≡ len done + 1 = len-insert o.total done k x
        ∙ ap (λ b. cond b (len done) (len done + 1)) (ap is_some is_its.1) in
        sums (len (set_at left k None)) (len (set_at done k (Some x))) (len left) (len done) less left_len done_len
      where
        sums : (a b c d : ℕ) → a < c → a ≡ c - 1 → b ≡ d + 1 → a + b ≡ c + d
        sums a b c d less e f = omega (arith, less, e, f)

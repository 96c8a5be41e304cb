-- The newest change of a transaction.
use Rattle.std.proofs.Common.{List, None, Option, Some, [], ap, arith, cond, inl, inr, is_some, length, refl, subst, suc, sym, ℕ, ◌++◌, ◌+◌, ◌-◌, ◌<◌, ◌∙◌, ◌∷◌}
use Rattle.std.proofs.Common.{◌≡◌, ◌≤◌, ◌⊎◌, get_or, slice_get}
use Rattle.std.proofs.lemmas.List.{length-append}
use Rattle.std.proofs.lemmas.Option.{slice_get_cases}
use Rattle.records.specs.ChangeValue.{ChangeValue}
use Rattle.std.specs.FinMap.{get}
use Rattle.record_values.specs.declared.pair.Mark.{Mark}
use Rattle.record_values.specs.declared.pair.Pair.{Pair}
use Rattle.marked_index.specs.Index.{pledges_used}
use Rattle.model.specs.Pairs.{is_indexed, new_pair, old_pair}
use Rattle.txn_table.specs.Table.{TxnState, last_change}
use Rattle.core_model.proofs.Laws.{not_none}
use Rattle.core_model.specs.Changes.{Changes, Unchanged, as_list, ◌▹◌}
use Rattle.core_model.specs.Invariants.{HasShape, IsHolderOf, IsShaped, lacking, lacks}
use Rattle.core_model.specs.States.{Active, State}
use Rattle.core_model.specs.Steps.{reserved, txn_at}
use Rattle.core_model.specs.Events.{Standing}
use Rattle.core_parts.specs.View.{CoreValue, IsProgressOf, IsState, Shows}
use Rattle.core_parts.specs.Moves.{txn_shown}
use Rattle.core_parts.proofs.Moved.{at, listed, one, places_are, unchanged}

some_same : (x c : ChangeValue) → (◌≡◌ {A = Option ChangeValue} (Some x) (Some c)) → x ≡ c
some_same x c is = cc

last_of : (xs : List ChangeValue) (c : ChangeValue) → slice_get (xs ++ c ∷ []) (length (xs ++ c ∷ []) - 1) ≡ Some c
last_of [] c = refl
last_of (x ∷ xs) c =
    let whole : length (x ∷ xs ++ c ∷ []) - 1 ≡ suc (length (xs ++ c ∷ []) - 1) = omega (arith, length-append xs (c ∷ [])) in
    ap (slice_get (x ∷ xs ++ c ∷ [])) whole ∙ last_of xs c

none_last : (xs : List ChangeValue) → slice_get xs (length xs - 1) ≡ None → xs ≡ []
none_last [] is = refl
none_last (x ∷ xs) is = by (slice_get_cases (x ∷ xs) (length (x ∷ xs) - 1)).1
  where
    by : ((y : ChangeValue) × (length (x ∷ xs) - 1 < length (x ∷ xs)) × (slice_get (x ∷ xs) (length (x ∷ xs) - 1) ≡ Some y)
        × (get_or (x ∷ xs) (length (x ∷ xs) - 1) y ≡ y)) ⊎ ((length (x ∷ xs) ≤ length (x ∷ xs) - 1) × (slice_get (x ∷ xs) (length (x ∷ xs) - 1) ≡ None))
        → x ∷ xs ≡ []
    by (inl found) = absurd (not_none found.2 is)
    by (inr none) = let long = none.0 in absurd (omega arith)

-- ---- of a transaction
module _ (v : CoreValue) (s : State) (k : Standing) (is : IsState v s k) (t : ℕ) (x : TxnState) (here : txn_shown v t ≡ Some x) where
  abbrev h : Shows v s k
  h = is.shown

  -- the newest change stands last
  pub newest_last : (c : ChangeValue) → last_change x ≡ Some c → (older : Changes) × ((txn_at s t).changes ≡ older ▹ c)
  newest_last c last = by (txn_at s t).changes refl (listed v s k h t x here)
    where
      last_is : (xs : List ChangeValue) → xs ≡ x.changes → slice_get xs (length xs - 1) ≡ Some c
      last_is xs same = subst (λ ys. slice_get ys (length ys - 1) ≡ Some c) (sym same) last

      by : (cs : Changes) → (txn_at s t).changes ≡ cs → as_list cs ≡ x.changes → (older : Changes) × ((txn_at s t).changes ≡ older ▹ c)
      by Unchanged e same = absurd (not_none (last_is [] same) refl)
      by (older ▹ d) e same = (older, e ∙ ap (λ y. older ▹ y) (some_same d c (sym (last_of (as_list older) d) ∙ last_is (as_list older ++ d ∷ []) same)))

  pub none_changed : last_change x ≡ None → (txn_at s t).changes ≡ Unchanged
  none_changed last = unchanged _ (listed v s k h t x here ∙ none_last x.changes last)

  pub phase_of : IsProgressOf x.progress (txn_at s t).phase
  phase_of = subst (λ (y : Active). IsProgressOf x.progress y.phase) (sym (at v s k h t x here)) (one v s k h t x here).2.phase

  active : s.txns t ≡ Some (txn_at s t)
  active = (one v s k h t x here).1 ∙ ap Some (sym (at v s k h t x here))

  pub shaped : IsShaped (is_indexed s.life) (txn_at s t).changes (txn_at s t).phase
  shaped = (is.fit.txns t (txn_at s t) active).shaped

  module _ (c : ChangeValue) (older : Changes) (first : (txn_at s t).changes ≡ older ▹ c) where
    pub shape : HasShape (is_indexed s.life) c (txn_at s t).phase
    shape = subst (λ cs. IsShaped (is_indexed s.life) cs (txn_at s t).phase) first shaped

    pub inside : c.rid.page < v.heap.pages
    inside =
        let names : IsHolderOf s.holder t (older ▹ c) = subst (IsHolderOf s.holder t) first (is.fit.txns t (txn_at s t) active).names in
        subst (λ n. c.rid.page < n) h.pages (is.fit.held c.rid t names.0)

    -- the places that the change's pairs may still need
    pub paid : lacks s.entries (old_pair (is_indexed s.life) c) + lacks s.entries (new_pair (is_indexed s.life) c) ≤ x.reserved
    paid =
        let enough : lacking (is_indexed s.life) s.entries (older ▹ c) ≤ reserved s.pledges t =
        subst (λ cs. lacking (is_indexed s.life) s.entries cs ≤ reserved s.pledges t) first (is.fit.places.enough t (txn_at s t) active) in
        part _ _ _ _ enough (places_are v s k h t x here)
      where
        part : (a b r res : ℕ) → a + r ≤ res → res ≡ b → a ≤ b
        part a b r res l e = omega (arith, l, e)

    old_is : old_pair (is_indexed s.life) c ≡ old_pair (is_indexed v.life) c
    old_is = ap (λ life. old_pair (is_indexed life) c) h.life

    new_is : new_pair (is_indexed s.life) c ≡ new_pair (is_indexed v.life) c
    new_is = ap (λ life. new_pair (is_indexed life) c) h.life

    one_place : (o : Option Mark) → cond (is_some o) 0 1 ≡ pledges_used o
    one_place None = refl
    one_place (Some m) = refl

    -- the transaction has reserved a place for the entry of either row, where there is none
    pub old_paid : (p : Pair) → old_pair (is_indexed v.life) c ≡ Some p → pledges_used (get v.index.entries p) ≤ x.reserved
    old_paid p e = part _ _ _ paid (ap (lacks s.entries) (old_is ∙ e) ∙ one_place (get s.entries p) ∙ ap (λ m. pledges_used (get m p)) h.entries)
      where
        part : (a b r : ℕ) {n : ℕ} → a + b ≤ r → a ≡ n → n ≤ r
        part a b r l e = omega (arith, l, e)

    pub new_paid : (p : Pair) → new_pair (is_indexed v.life) c ≡ Some p → pledges_used (get v.index.entries p) ≤ x.reserved
    new_paid p e = part _ _ _ paid (ap (lacks s.entries) (new_is ∙ e) ∙ one_place (get s.entries p) ∙ ap (λ m. pledges_used (get m p)) h.entries)
      where
        part : (a b r : ℕ) {n : ℕ} → a + b ≤ r → b ≡ n → n ≤ r
        part a b r l e = omega (arith, l, e)

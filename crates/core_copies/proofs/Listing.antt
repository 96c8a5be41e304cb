-- The lists of the active transactions, one after another.
use Rattle.std.proofs.Common.{◌≡◌, ◌≢◌, ◌⊎◌, inl, inr, ⊎_elim, ℕ, ◌+◌, ◌<◌, ◌≤◌, Bool, true, false, cond, List, [], ◌∷◌, length, Option, Some, None, zero, suc}
use Rattle.std.proofs.Common.{eqb, slice_get, option_map, refl, sym, ap, subst, ◌∙◌, arith}
use Rattle.std.proofs.lemmas.Bool.{cases_eq, cases_lt, eqb-true}
use Rattle.std.specs.FinMap.{contains_key, empty, get, get-empty, len, len-empty, len-insert}
use Rattle.std.specs.Cmp.{nat_cmp_total}
use Rattle.std.specs.Ordering.{nat_cmp}
use Rattle.records.specs.ChangeValue.{ChangeValue}
use Rattle.record_values.specs.Maps.{get-set_at_other, get-set_at_same, nat_exact}
use Rattle.model.specs.Cells.{Pending, with_list}
use Rattle.txn_table.specs.Table.{TxnState, holds_rows, state_of}
use Rattle.core_copies.specs.Private.{HasListPut}
use Rattle.core_copies.specs.Shown.{list_shown}

abbrev Txn : Type 0
Txn = ℕ × TxnState

no_state : (x : TxnState) → (◌≡◌ {A = Option TxnState} None (Some x)) → ⊥
no_state x e = absurd cc

-- an active transaction is at some place of the table
placed : (t : ℕ) (es : List Txn) (x : TxnState) → state_of t es ≡ Some x → (i : ℕ) × (e : Txn) × (i < length es) × (slice_get es i ≡ Some e) × (e.0 ≡ t)
placed t [] x here = absurd (no_state x here)
placed t (d ∷ es) x here = by (placed t es x) (eqb t d.0) refl here
  where
    by : (state_of t es ≡ Some x → (i : ℕ) × (e : Txn) × (i < length es) × (slice_get es i ≡ Some e) × (e.0 ≡ t)) → (b : Bool) → eqb t d.0 ≡ b
        → cond b (Some d.1) (state_of t es) ≡ Some x → (i : ℕ) × (e : Txn) × (i < length (d ∷ es)) × (slice_get (d ∷ es) i ≡ Some e) × (e.0 ≡ t)
    by rest true is here = (0, d, omega arith, refl, sym (eqb-true t d.0 is))
    by rest false is here = let later = rest here in let within = later.2 in (suc later.0, later.1, omega (arith, within), later.3, later.4)

-- those at the first places are listed, and what is listed is as the log has it
pub record AreListedTo (active : List Txn) (n : ℕ) (lists : Pending) : Type 0 where
  pub done : (i : ℕ) (e : Txn) → i < n → slice_get active i ≡ Some e → get lists e.0 ≡ list_shown (state_of e.0 active)
  pub others : (t : ℕ) → (get lists t ≡ None) ⊎ (get lists t ≡ list_shown (state_of t active))
  pub few : len lists ≤ n

pub none_listed : (active : List Txn) → AreListedTo active 0 empty
none_listed active = record {
  done = λ i e below at. absurd (omega (arith, below));
  others = λ t. inl (get-empty nat_cmp t);
  few = omega (arith, len-empty nat_cmp (List ChangeValue));
}

module _ (active : List Txn) (n : ℕ) (lists : Pending) (h : AreListedTo active n lists) (t : ℕ) (its : (e : Txn) → slice_get active n ≡ Some e → e.0 ≡ t) where
  next_listed : (new : Pending) → get new t ≡ list_shown (state_of t active) → ((u : ℕ) → u ≢ t → get new u ≡ get lists u) → len new ≤ len lists + 1
      → AreListedTo active (n + 1) new
  next_listed new own same more = record {
    done = λ i e below at. ⊎_elim
        (λ mine. ap (get new) mine ∙ own ∙ ap (λ u. list_shown (state_of u active)) (sym mine))
        (λ apart. same e.0 apart ∙ h.done i e (earlier i e below at apart) at)
        (cases_eq e.0 t);
    others = λ u. ⊎_elim
        (λ mine. inr (ap (get new) mine ∙ own ∙ ap (λ w. list_shown (state_of w active)) (sym mine)))
        (λ apart. ⊎_elim (λ none. inl (same u apart ∙ none)) (λ shown. inr (same u apart ∙ shown)) (h.others u))
        (cases_eq u t);
    few = omega (arith, more, h.few);
  }
    where
      earlier : (i : ℕ) (e : Txn) → i < n + 1 → slice_get active i ≡ Some e → e.0 ≢ t → i < n
      earlier i e below at apart = ⊎_elim (λ less. less) (λ past. let same_place : i ≡ n = omega (arith, below, past) in
          absurd (apart (its e (ap (slice_get active) (sym same_place) ∙ at)))) (cases_lt i n)

  -- one that has no list
  pub one_unlisted : None ≡ list_shown (state_of t active) → AreListedTo active (n + 1) lists
  one_unlisted none = next_listed lists (⊎_elim (λ not. not ∙ none) (λ shown. shown) (h.others t)) (λ u apart. refl) (omega arith)

  length_more : (b : Bool) (m : ℕ) → cond b m (m + 1) ≤ m + 1
  length_more true m = omega arith
  length_more false m = omega arith

  -- one that has this list
  pub one_listed : (new : Pending) (list : List ChangeValue) → Some list ≡ list_shown (state_of t active) → new ≡ with_list lists t (Some list)
      → AreListedTo active (n + 1) new
  one_listed new list shown is = subst (AreListedTo active (n + 1)) (sym is) (next_listed (with_list lists t (Some list))
      (get-set_at_same nat_exact lists t (Some list) ∙ shown)
      (λ u apart. get-set_at_other nat_exact lists t (Some list) u apart)
      (subst (λ m. m ≤ len lists + 1) (sym (len-insert nat_cmp_total lists t list)) (length_more (contains_key lists t) (len lists))))

-- all are listed
pub all_listed : (active : List Txn) (lists : Pending) → AreListedTo active (length active) lists → (t : ℕ) → get lists t ≡ list_shown (state_of t active)
all_listed active lists h t = by (state_of t active) refl
  where
    by : (o : Option TxnState) → state_of t active ≡ o → get lists t ≡ list_shown (state_of t active)
    by None none = ⊎_elim (λ not. not ∙ ap list_shown (sym none)) (λ shown. shown) (h.others t)
    by (Some x) here = let at = placed t active x here in subst (λ u. get lists u ≡ list_shown (state_of u active)) at.4 (h.done at.0 at.1 at.2 at.3)

-- ---- one of them

pub none_shown : (o : Option TxnState) → holds_rows o ≡ false → list_shown o ≡ None
none_shown None none = refl
none_shown (Some x) none = ap (λ b. cond b (Some x.changes) None) none

pub one_put : (active : List Txn) (n : ℕ) (lists new : Pending) → AreListedTo active n lists → (t : ℕ)
    → Some t ≡ option_map (λ (e : Txn). e.0) (slice_get active n) → HasListPut (list_shown (state_of t active)) t lists new → AreListedTo active (n + 1) new
one_put active n lists new h t is = by (list_shown (state_of t active)) refl
  where
    its : (e : Txn) → slice_get active n ≡ Some e → e.0 ≡ t
    its e at = same_number e.0 t (sym (is ∙ ap (option_map (λ (d : Txn). d.0)) at))
      where
        same_number : (a b : ℕ) → (◌≡◌ {A = Option ℕ} (Some a) (Some b)) → a ≡ b
        same_number a b e = cc

    by : (o : Option (List ChangeValue)) → list_shown (state_of t active) ≡ o → HasListPut o t lists new → AreListedTo active (n + 1) new
    by None shown same = subst (AreListedTo active (n + 1)) (sym same) (one_unlisted active n lists h t its (sym shown))
    by (Some list) shown put = one_listed active n lists h t its new list (sym shown) put

-- a place of the table has a transaction
pub none_missing : (active : List Txn) (n : ℕ) → n < length active → None ≡ option_map (λ (e : Txn). e.0) (slice_get active n) → ⊥
none_missing [] n below none = omega (arith, below)
none_missing (e ∷ es) zero below none = absurd cc
none_missing (e ∷ es) (suc n) below none = none_missing es n (omega (arith, below)) none

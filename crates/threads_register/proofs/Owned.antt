-- All transactions, as one seat makes a step of one.
use Rattle.std.proofs.Common.{◌≡◌, ◌≢◌, ◌⊎◌, ℕ, ◌<◌, Bool, true, false, cond, eqb, eq-eqb, ne_eqb, List, length, Option, Some, None, is_some, ◌==◌, inl, inr}
use Rattle.std.proofs.Common.{refl, sym, ap, ◌∙◌, subst}
use Rattle.std.proofs.lemmas.Bool.{cases_eq}
use Rattle.std.specs.FinMap.{get}
use Rattle.std.specs.Prelude.{slice_get, slice_set}
use Rattle.record_values.specs.Values.{Place}
use Rattle.core_model.specs.States.{Active, State}
use Rattle.threads_sessions.specs.Values.{active_of, SessionValue}
use Rattle.threads_register.proofs.Lookups.{get_set, get_set_other, get_within, set_length}
use Rattle.threads_register.proofs.Seen.{agree_kept, agree_none}
use Rattle.threads_register.specs.Agreement.{active_in, Agree, AreOwned, HaveOwners, row_held, seen_at}

-- no transaction makes a step
pub owned_kept : (s new : State) (book : List SessionValue) (owner : ℕ → ℕ) → ((u : ℕ) → new.txns u ≡ s.txns u)
    → ((u : ℕ) (q : Place) → row_held u (new.holder q) (get new.rows q) ≡ row_held u (s.holder q) (get s.rows q)) → AreOwned s book owner
    → AreOwned new book owner
owned_kept s new book owner txns held owned j u lt =
    subst (λ o. Agree new u (seen_at book j u) (cond (j == owner u) o None)) (sym (txns u))
    (agree_kept s new u (held u) (seen_at book j u) (cond (j == owner u) (s.txns u) None) (owned j u lt))

pub owners_kept : (s new : State) (book : List SessionValue) (owner : ℕ → ℕ) → ((u : ℕ) → new.txns u ≡ s.txns u) → HaveOwners s book owner
    → HaveOwners new book owner
owners_kept s new book owner txns owners u there = owners u (ap is_some (sym (txns u)) ∙ there)

module _ (s after : State) (book : List SessionValue) (owner : ℕ → ℕ) (k t : ℕ) (p new : SessionValue)
    (there : slice_get book k ≡ Some p) (owned : AreOwned s book owner) (mine : (k ≡ owner t) ⊎ (s.txns t ≡ None))
    (own : Agree after t (active_of t new.active) (after.txns t))
    (pages : (u : ℕ) → u ≢ t → active_of u new.active ≡ active_of u p.active)
    (txns : (u : ℕ) → u ≢ t → after.txns u ≡ s.txns u)
    (apart : (u : ℕ) → u ≢ t → (q : Place) → row_held u (after.holder q) (get after.rows q) ≡ row_held u (s.holder q) (get s.rows q)) where
  abbrev pub next_owner : ℕ → ℕ
  next_owner u = cond (eqb u t) k (owner u)

  within : k < length book
  within = get_within book k p there

  none_of : (b : Bool) (o : Option Active) → o ≡ None → cond b o None ≡ None
  none_of true o e = e
  none_of false o e = refl

  elsewhere_by : (j : ℕ) → j ≢ k → Agree s t (seen_at book j t) (cond (j == owner t) (s.txns t) None) → (k ≡ owner t) ⊎ (s.txns t ≡ None)
      → seen_at book j t ≡ None
  elsewhere_by j not h (inl is) = agree_none s t (seen_at book j t)
      (subst (λ b. Agree s t (seen_at book j t) (cond b (s.txns t) None)) (ne_eqb j (owner t) (λ e. not (e ∙ sym is))) h)
  elsewhere_by j not h (inr none) = agree_none s t (seen_at book j t) (subst (Agree s t (seen_at book j t)) (none_of (j == owner t) (s.txns t) none) h)

  elsewhere : (j : ℕ) → j ≢ k → j < length book → seen_at book j t ≡ None
  elsewhere j not lt = elsewhere_by j not (owned j t lt) mine

  owner_t : next_owner t ≡ k
  owner_t = ap (λ b. cond b k (owner t)) (eq-eqb t t refl)

  at_own : (j : ℕ) → j < length book → Agree after t (seen_at (slice_set book k new) j t) (cond (j == next_owner t) (after.txns t) None)
  at_own j lt = elim (cases_eq j k) [
    | inl is ↦
        subst (λ x. Agree after t (active_in t x) (cond (j == next_owner t) (after.txns t) None))
        (sym (ap (slice_get (slice_set book k new)) is ∙ get_set book k new within))
        (subst (λ b. Agree after t (active_of t new.active) (cond b (after.txns t) None)) (sym (eq-eqb j (next_owner t) (is ∙ sym owner_t))) own)
    | inr not ↦
        subst (λ x. Agree after t x (cond (j == next_owner t) (after.txns t) None))
        (sym (ap (active_in t) (get_set_other book k j new not) ∙ elsewhere j not lt))
        (subst (λ b. Agree after t None (cond b (after.txns t) None)) (sym (ne_eqb j (next_owner t) (λ e. not (e ∙ owner_t)))) tt)
  ]

  same_owner : (u : ℕ) → u ≢ t → next_owner u ≡ owner u
  same_owner u not = ap (λ b. cond b k (owner u)) (ne_eqb u t not)

  same_seen : (j u : ℕ) → u ≢ t → seen_at (slice_set book k new) j u ≡ seen_at book j u
  same_seen j u not = elim (cases_eq j k) [
    | inl is ↦ ap (active_in u) (ap (slice_get (slice_set book k new)) is ∙ get_set book k new within)
        ∙ (pages u not ∙ sym (ap (active_in u) (ap (slice_get book) is ∙ there)))
    | inr other ↦ ap (active_in u) (get_set_other book k j new other)
  ]

  at_other : (j u : ℕ) → u ≢ t → j < length book → Agree after u (seen_at (slice_set book k new) j u) (cond (j == next_owner u) (after.txns u) None)
  at_other j u not lt =
      subst (λ b. Agree after u (seen_at (slice_set book k new) j u) (cond b (after.txns u) None)) (ap (λ n. j == n) (sym (same_owner u not)))
      (subst (λ o. Agree after u (seen_at (slice_set book k new) j u) (cond (j == owner u) o None)) (sym (txns u not))
      (subst (λ x. Agree after u x (cond (j == owner u) (s.txns u) None)) (sym (same_seen j u not))
      (agree_kept s after u (apart u not) (seen_at book j u) (cond (j == owner u) (s.txns u) None) (owned j u lt))))

  pub owned_later : AreOwned after (slice_set book k new) next_owner
  owned_later j u lt = elim (cases_eq u t) [
    | inl is ↦ subst (λ n. Agree after n (seen_at (slice_set book k new) j n) (cond (j == next_owner n) (after.txns n) None)) (sym is)
        (at_own j (subst (λ n. j < n) (set_length book k new) lt))
    | inr not ↦ at_other j u not (subst (λ n. j < n) (set_length book k new) lt)
  ]

  pub owners_later : HaveOwners s book owner → HaveOwners after (slice_set book k new) next_owner
  owners_later owners u is_there = subst (λ n. next_owner u < n) (sym (set_length book k new)) (elim (cases_eq u t) [
    | inl is ↦ subst (λ n. n < length book) (sym (ap (λ b. cond b k (owner u)) (eq-eqb u t is))) within
    | inr not ↦ subst (λ n. n < length book) (sym (same_owner u not)) (owners u (ap is_some (sym (txns u not)) ∙ is_there))
  ])

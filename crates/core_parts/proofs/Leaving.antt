-- A transaction's end, and its commit.
use Rattle.std.proofs.Common.{Bool, List, None, Option, Some, [], ap, arith, cond, eqb, false, inl, inr, length, refl, subst, sym, true, ℕ, ◌+◌, ◌-◌, ◌∙◌, ◌∷◌}
use Rattle.std.proofs.Common.{◌≡◌, ◌≢◌}
use Rattle.std.specs.Cmp.{nat_cmp_total}
use Rattle.std.specs.FinMap.{get, nat_cmp-IsAntisymmetric, remove}
use Rattle.std.specs.Option.{option_map}
use Rattle.std.specs.Ordering.{eq_by_cmp, nat_cmp}
use Rattle.record_values.specs.Maps.{get-set_at_other, get-set_at_same, nat_exact, other_key, same_key}
use Rattle.record_values.specs.Values.{Place}
use Rattle.record_values.specs.declared.error.Error.{Error}
use Rattle.record_values.specs.declared.error.Error.TheVariants.{NoSuchTxn}
use Rattle.records.specs.declared.record.TxnAction.{TxnAction}
use Rattle.txn_table.specs.Table as table
use Rattle.txn_table.specs.Table.{TableValue, TxnState, holder_of, without}
use Rattle.txn_table.specs.Sound.{IsSoundTable}
use Rattle.txn_table.proofs.TableLaws.{holder_of-without, holder_of-without_other, state_of-without}
use Rattle.core_model.proofs.Laws.{nat_decided, not_none, reserved_left, update_apart, update_here}
use Rattle.core_model.specs.States.{State}
use Rattle.core_model.specs.Steps.{MachineStep, after, all_reserved, freed, left}
use Rattle.model.specs.Table.{Table}
use Rattle.core_model.specs.Events.{Ended, Event, Refused, Reply, Standing}
use Rattle.core_model.specs.Replies.{unknown}
use Rattle.core_parts.specs.View.{Answers, AreOne, CoreValue, Serves, Shows}
use Rattle.core_parts.specs.Moves.{HasNoChange, IsReadyOrNone, txn_shown}
use Rattle.core_parts.specs.Private.{HasNoRecord, HasRecord, ended, reserved_of}
use Rattle.core_parts.proofs.Due.{made, no_number, refusal, wants_memory}
use Rattle.core_parts.proofs.Inserting.{no_txn, some_is}
use Rattle.core_parts.proofs.Moved.{is_ready, known, listed, other_number, places_are, same_number, unchanged}

-- ---- the transaction that is there
pub there : (v : CoreValue) (t : ℕ) → txn_shown v t ≢ None → (x : TxnState) × (txn_shown v t ≡ Some x)
there v t ne = by (txn_shown v t) refl ne
  where
    by : (o : Option TxnState) → txn_shown v t ≡ o → o ≢ None → (x : TxnState) × (txn_shown v t ≡ Some x)
    by None e n = absurd (n refl)
    by (Some x) e n = (x, e)

-- ---- the table without it
shorter : (t : ℕ) (x : TxnState) (es : List (ℕ × TxnState)) → table.state_of t es ≡ Some x → length (without t es) + 1 ≡ length es
shorter t x [] e = absurd cc
shorter t x (e ∷ es) h = by (eqb t e.0) h (shorter t x es)
  where
    by : (b : Bool) → cond b (Some e.1) (table.state_of t es) ≡ Some x → (table.state_of t es ≡ Some x → length (without t es) + 1 ≡ length es)
        → length (cond b es (e ∷ without t es)) + 1 ≡ length (e ∷ es)
    by true h rest = omega arith
    by false h rest = let r : length (without t es) + 1 ≡ length es = rest h in omega (arith, r)

module _ (v : CoreValue) (s : State) (k : Standing) (h : Shows v s k) (t : ℕ) (x : TxnState) (here : txn_shown v t ≡ Some x) (sound : IsSoundTable v.txns)
    (action : TxnAction) (committed : Table) where
  abbrev active' : List (ℕ × TxnState)
  active' = without t v.txns.active

  abbrev s' : State
  s' = record (left s t committed) { pledges = remove s.pledges t }

  state_is : (u : ℕ) → table.state_of u active' ≡ cond (eqb u t) None (table.state_of u v.txns.active)
  state_is u = state_of-without 0 v.txns.begun t u v.txns.active sound.rising

  txns_are : (u : ℕ) → AreOne (table.state_of u active') (s'.txns u)
  txns_are u = elim (nat_decided u t) [
    | inl same ↦ subst (λ o. AreOne o (s'.txns u)) (sym (state_is u ∙ ap (λ b. cond b None (table.state_of u v.txns.active)) (same_number u t same)))
        (ap s'.txns same ∙ update_here nat_cmp_total s.txns t None)
    | inr other ↦ subst (λ o. AreOne o (s'.txns u)) (sym (state_is u ∙ ap (λ b. cond b None (table.state_of u v.txns.active)) (other_number u t other)))
        (subst (AreOne (table.state_of u v.txns.active)) (sym (update_apart nat_cmp-IsAntisymmetric s.txns t None u other)) (h.txns u))
  ]

  pledges_are : (u : ℕ) → get (remove s.pledges t) u ≡ option_map (λ (y : TxnState). y.reserved) (table.state_of u active')
  pledges_are u = elim (nat_decided u t) [
    | inl same ↦ ap (get (remove s.pledges t)) same ∙ get-set_at_same nat_exact s.pledges t None
        ∙ sym (ap (option_map (λ (y : TxnState). y.reserved)) (state_is u ∙ ap (λ b. cond b None (table.state_of u v.txns.active)) (same_number u t same)))
    | inr other ↦ get-set_at_other nat_exact s.pledges t None u other ∙ h.pledges u
        ∙ sym (ap (option_map (λ (y : TxnState). y.reserved)) (state_is u ∙ ap (λ b. cond b None (table.state_of u v.txns.active)) (other_number u t other)))
  ]

  pledged_is : all_reserved (remove s.pledges t) ≡ v.index.pledged - reserved_of (txn_shown v t)
  pledged_is = sums _ _ _ _ _ (reserved_left s.pledges t) (places_are v s k h t x here) h.pledged (ap reserved_of here)
    where
      sums : (rest all r pledged res : ℕ) → rest + r ≡ all → r ≡ x.reserved → all ≡ pledged → res ≡ x.reserved → rest ≡ pledged - res
      sums rest all r pledged res e f g i = omega (arith, e, f, g, i)

  holders_are : (q : Place) → freed t (s.holder q) ≡ holder_of q active'
  holders_are q = ap (freed t) (h.holder q) ∙ by (holder_of q v.txns.active) refl
    where
      by : (o : Option ℕ) → holder_of q v.txns.active ≡ o → freed t o ≡ holder_of q active'
      by None e = sym (holder_of-without_other v.txns t q x sound here (λ is. not_none is e) ∙ e)
      by (Some u) e = elim (nat_decided u t) [
        | inl same ↦ ap (λ b. cond b None (Some u)) (ap (λ n. eq_by_cmp nat_cmp n t) same ∙ same_key nat_exact t)
            ∙ sym (holder_of-without v.txns t q x sound here (e ∙ ap Some same))
        | inr other ↦ ap (λ b. cond b None (Some u)) (other_key nat_exact u t other)
            ∙ sym (holder_of-without_other v.txns t q x sound here (λ is. other (some_is u t (sym e ∙ is))) ∙ e)
      ]

  pub left_shown : (commits : ℕ)
      → Shows (record (ended v t action) { commits = commits }) s' (record k { made = k.made + 1; active = k.active - 1; commits = commits })
  left_shown commits = record {
    rows = h.rows;
    entries = h.entries;
    txns = txns_are;
    holder = holders_are;
    pledges = pledges_are;
    pledged = pledged_is;
    life = h.life;
    pages = h.pages;
    scan_pages = h.scan_pages;
    places = h.places;
    cleaned = h.cleaned;
    bound = h.bound;
    scan = record {
      run = h.scan.run;
      made = h.scan.made;
      given = h.scan.given;
      missed = h.scan.missed;
      taken = h.scan.taken;
      in_a_row = h.scan.in_a_row;
      untaken = h.scan.untaken;
    };
    made = ap (λ n. n + 1) h.made;
    begun = h.begun;
    active = fewer _ _ _ (shorter t x v.txns.active here) h.active;
    attempts = h.attempts;
    all_attempts = h.all_attempts;
    commits = refl;
  }
    where
      fewer : (m n a : ℕ) → m + 1 ≡ n → a ≡ n → a - 1 ≡ m
      fewer m n a e f = omega (arith, e, f)

-- ---- the replies to both
module _ (v : CoreValue) (t : ℕ) where
  pub end_refused : HasNoChange (txn_shown v t) → (error : Error) → HasNoRecord v t error → Serves v (Event.End t) (Refused error) v
  end_refused asked error (inl why) s k is = subst (λ n. Answers v s k (Event.End t) (Refused n) v) (sym why.0)
      (refusal v s k (Event.End t) NoSuchTxn is.shown (unknown (no_txn v s k is.shown t why.1)))
  end_refused asked error (inr why) s k is =
      let x = there v t why.1 in
      subst (λ n. Answers v s k (Event.End t) (Refused n) v) (sym why.0)
      (no_number v s k is.shown (Event.End t) (known v s k is.shown t x.0 x.1)
      (unchanged _ (listed v s k is.shown t x.0 x.1 ∙ subst HasNoChange x.1 asked)) refl Ended (MachineStep.End t) (refl, refl) (λ n. n) (λ n.
      not_none refl n) why.2)

  pub commit_refused : IsReadyOrNone (txn_shown v t) → (error : Error) → HasNoRecord v t error → Serves v (Event.Commit t) (Refused error) v
  commit_refused asked error (inl why) s k is = subst (λ n. Answers v s k (Event.Commit t) (Refused n) v) (sym why.0)
      (refusal v s k (Event.Commit t) NoSuchTxn is.shown (unknown (no_txn v s k is.shown t why.1)))
  commit_refused asked error (inr why) s k is =
      let x = there v t why.1 in
      subst (λ n. Answers v s k (Event.Commit t) (Refused n) v) (sym why.0)
      (no_number v s k is.shown (Event.Commit t) (known v s k is.shown t x.0 x.1) (is_ready v s k is.shown t x.0 x.1 (subst IsReadyOrNone x.1 asked)) refl
      (Reply.Committed (k.made + 1) (k.commits + 1)) (MachineStep.Commit t) (refl, refl) (λ n. n) (λ n. not_none refl n) why.2)

  module _ (has : HasRecord v t) where
    pub end_wants : HasNoChange (txn_shown v t) → (error : Error) (v' : CoreValue) → error ≡ Error.NoMemory → v' ≡ v → Serves v (Event.End t) (Refused error) v'
    end_wants asked error v' e same s k is =
        let x = there v t has.active in
        subst (λ w. Answers v s k (Event.End t) (Refused error) w) (sym same) (subst (λ n. Answers v s k (Event.End t) (Refused n) v) (sym e)
        (wants_memory v s k is.shown (Event.End t) (known v s k is.shown t x.0 x.1)
        (unchanged _ (listed v s k is.shown t x.0 x.1 ∙ subst HasNoChange x.1 asked)) refl Ended (MachineStep.End t) (refl, refl) (λ n. n) (λ n.
        has.numbered) (inl (λ n. not_none refl n))))

    pub commit_wants : IsReadyOrNone (txn_shown v t) → (error : Error) (v' : CoreValue) → error ≡ Error.NoMemory → v' ≡ v
        → Serves v (Event.Commit t) (Refused error) v'
    commit_wants asked error v' e same s k is =
        let x = there v t has.active in
        subst (λ w. Answers v s k (Event.Commit t) (Refused error) w) (sym same) (subst (λ n. Answers v s k (Event.Commit t) (Refused n) v) (sym e)
        (wants_memory v s k is.shown (Event.Commit t) (known v s k is.shown t x.0 x.1) (is_ready v s k is.shown t x.0 x.1 (subst IsReadyOrNone x.1 asked)) refl
        (Reply.Committed (k.made + 1) (k.commits + 1)) (MachineStep.Commit t) (refl, refl) (λ n. n) (λ n. has.numbered) (inl (λ n. not_none refl n))))

    pub end_served : HasNoChange (txn_shown v t) → IsSoundTable v.txns → (v' : CoreValue) → v' ≡ ended v t TxnAction.End → Serves v (Event.End t) Ended v'
    end_served asked sound v' same s k is =
        let x = there v t has.active in
        subst (λ w. Answers v s k (Event.End t) Ended w) (sym same)
        (made v s k is.shown (Event.End t) (known v s k is.shown t x.0 x.1)
        (unchanged _ (listed v s k is.shown t x.0 x.1 ∙ subst HasNoChange x.1 asked)) refl Ended (MachineStep.End t) (refl, refl) (λ n. n) (λ n.
        has.numbered) (ended v t TxnAction.End)
        (subst (λ n. Shows (ended v t TxnAction.End) (after s (MachineStep.End t)) (record k { made = k.made + 1; active = k.active - 1; commits = n }))
        (sym is.shown.commits) (left_shown v s k is.shown t x.0 x.1 sound TxnAction.End s.committed v.commits)) refl)

    pub commit_served : IsReadyOrNone (txn_shown v t) → IsSoundTable v.txns → (n c : ℕ) (v' : CoreValue) → n ≡ v.last + 1 → c ≡ v.commits + 1
        → v' ≡ record (ended v t TxnAction.Commit) { commits = v.commits + 1 } → Serves v (Event.Commit t) (Reply.Committed n c) v'
    commit_served asked sound n c v' ns cs same s k is =
        let x = there v t has.active in
        let made_is : k.made + 1 ≡ n = ap (λ m. m + 1) is.shown.made ∙ sym ns in
        let commits_is : k.commits + 1 ≡ c = ap (λ m. m + 1) is.shown.commits ∙ sym cs in
        subst (λ w. Answers v s k (Event.Commit t) (Reply.Committed n c) w) (sym same)
        (subst (λ m. Answers v s k (Event.Commit t) (Reply.Committed m c) (record (ended v t TxnAction.Commit) { commits = v.commits + 1 })) made_is
        (subst (λ m. Answers v s k (Event.Commit t) (Reply.Committed (k.made + 1) m) (record (ended v t TxnAction.Commit) { commits = v.commits + 1 }))
        commits_is
        (made v s k is.shown (Event.Commit t) (known v s k is.shown t x.0 x.1) (is_ready v s k is.shown t x.0 x.1 (subst IsReadyOrNone x.1 asked)) refl
        (Reply.Committed (k.made + 1) (k.commits + 1)) (MachineStep.Commit t) (refl, refl) (λ n. n) (λ n. has.numbered)
        (record (ended v t TxnAction.Commit) { commits = v.commits + 1 })
        (subst (λ m. Shows (record (ended v t TxnAction.Commit) { commits = v.commits + 1 }) (after s (MachineStep.Commit t))
        (record k { made = k.made + 1; active = k.active - 1; commits = m + 1 })) (sym is.shown.commits)
        (left_shown v s k is.shown t x.0 x.1 sound TxnAction.Commit _ (v.commits + 1))) refl)))

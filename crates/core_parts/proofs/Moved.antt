-- A step of one transaction: what the core shows after it.
use Rattle.core_model.specs.Changes.{Changes, Unchanged, as_list, ◌▹◌}
use Rattle.std.proofs.Common.{Bool, None, Some, [], ap, arith, cond, eqb, inl, inr, length, refl, subst, sym, unwrap_or, ℕ, ◌+◌, ◌∙◌, ◌∷◌, ◌≡◌, ◌≢◌}
use Rattle.std.proofs.lemmas.Bool.Decides.{eqb_tells}
use Rattle.std.proofs.lemmas.List.{length-append}
use Rattle.std.proofs.Common.{true, false}
use Rattle.std.specs.FinMap.{get, insert}
use Rattle.std.specs.Option.{option_map}
use Rattle.std.specs.Prelude.{min, ◌-◌, ◌^◌}
use Rattle.record_values.specs.Maps.{get-set_at_other, get-set_at_same, nat_exact}
use Rattle.record_values.specs.Values.{Place}
use Rattle.txn_table.specs.Table as table
use Rattle.txn_table.specs.Table.{TxnState, holder_of, rolls}
use Rattle.txn_table.specs.declared.progress.Progress.TheVariants.{Ready}
use Rattle.core_model.proofs.Laws.{nat_decided, not_none, reserved_insert, txn_apart, txn_here}
use Rattle.core_model.specs.States.{Active, State}
use Rattle.core_model.specs.Steps.{IsReady, all_reserved, new_txn, reserved, txn_at, with_txn}
use Rattle.core_model.specs.Events.{Standing}
use Rattle.sorted_scan.specs.Scans.{HasRun, ScanValue}
use Rattle.core_parts.specs.View.{AreOne, CoreValue, IsProgressOf, Shows, ShowsTxn}

-- ---- a transaction that the table knows
module _ (v : CoreValue) (s : State) (k : Standing) (h : Shows v s k) (t : ℕ) (x : TxnState) (here : table.state_of t v.txns.active ≡ Some x) where
  pub one : AreOne (Some x) (s.txns t)
  one = subst (λ o. AreOne o (s.txns t)) here (h.txns t)

  pub at : txn_at s t ≡ one.0
  at = ap (λ o. unwrap_or o new_txn) one.1

  pub known : s.txns t ≡ None → ⊥
  known e = not_none one.1 e

  pub is_ready : x.progress ≡ Ready → IsReady (txn_at s t)
  is_ready e = (
    ap (λ (y : Active). y.phase) at ∙ subst (λ p. IsProgressOf p one.0.phase) e one.2.phase,
    ap (λ (y : Active). y.rolling) at ∙ one.2.rolling ∙ ap rolls e,
  )

  pub listed : as_list (txn_at s t).changes ≡ x.changes
  listed = ap (λ (y : Active). as_list y.changes) at ∙ one.2.changes

  pub many : length (as_list (txn_at s t).changes) ≡ length x.changes
  many = ap length listed

  pub places_are : reserved s.pledges t ≡ x.reserved
  places_are = ap (λ o. unwrap_or o 0) (h.pledges t ∙ ap (option_map (λ (y : TxnState). y.reserved)) here)

-- where the list is empty there is no change
pub unchanged : (cs : Changes) → as_list cs ≡ [] → cs ≡ Unchanged
unchanged Unchanged e = refl
unchanged (older ▹ c) e = absurd (omega (arith, ap length e, length-append (as_list older) (c ∷ [])))

pub same_number : (n m : ℕ) → n ≡ m → eqb n m ≡ true
same_number n m e = elim (eqb_tells n m) [ inl p ↦ p.0 | inr p ↦ absurd (p.1 e) ]

pub other_number : (n m : ℕ) → n ≢ m → eqb n m ≡ false
other_number n m e = elim (eqb_tells n m) [ inl p ↦ absurd (e p.1) | inr p ↦ p.0 ]

-- what no step of a transaction changes
pub record KeepsRest (v : CoreValue) (s : State) (v' : CoreValue) (s' : State) : Type 0 where
  pub life : v'.life ≡ v.life
  pub pages : v'.heap.pages ≡ v.heap.pages
  pub capacity : v'.index.capacity ≡ v.index.capacity
  pub cleaned : v'.cleaned ≡ v.cleaned
  pub scan : v'.scan ≡ v.scan
  pub tried : v'.tried ≡ v.tried
  pub attempts : v'.attempts ≡ v.attempts
  pub commits : v'.commits ≡ v.commits
  pub begun : v'.txns.begun ≡ v.txns.begun
  pub many : length v'.txns.active ≡ length v.txns.active
  pub same_life : s'.life ≡ s.life
  pub same_pages : s'.pages ≡ s.pages
  pub same_places : s'.places ≡ s.places
  pub same_cleaned : s'.cleaned ≡ s.cleaned
  pub same_bound : s'.bound ≡ s.bound
  pub same_given : s'.given ≡ s.given
  pub same_missed : s'.missed ≡ s.missed
  pub same_taken : s'.taken ≡ s.taken

module _ (v : CoreValue) (s : State) (k : Standing) (h : Shows v s k) (t : ℕ) (x : TxnState) (here : table.state_of t v.txns.active ≡ Some x) (x' : TxnState)
    (v' : CoreValue) (s' : State) (k' : Standing) where
  -- the transaction's state is now x', and so many places are reserved and pledged
  pub record HasMoved : Type 0 where
    pub rows : s'.rows ≡ v'.heap.rows
    pub entries : s'.entries ≡ v'.index.entries
    pub txn : Active
    pub txns : s'.txns ≡ with_txn s t txn
    pub is : ShowsTxn x' txn
    pub holder : (q : Place) → s'.holder q ≡ holder_of q v'.txns.active
    pub places : s'.pledges ≡ insert s.pledges t x'.reserved
    pub pledged : v'.index.pledged + x.reserved ≡ v.index.pledged + x'.reserved
    pub states : (u : ℕ) → table.state_of u v'.txns.active ≡ cond (eqb u t) (Some x') (table.state_of u v.txns.active)
    pub rest : KeepsRest v s v' s'
    pub standing : k' ≡ record k { made = v'.last }

  module _ (did : HasMoved) where
    by : (u : ℕ) (b : Bool) → eqb u t ≡ b → table.state_of u v'.txns.active ≡ cond b (Some x') (table.state_of u v.txns.active)
    by u b e = did.states u ∙ ap (λ c. cond c (Some x') (table.state_of u v.txns.active)) e

    txns_are : (u : ℕ) → AreOne (table.state_of u v'.txns.active) (s'.txns u)
    txns_are u = elim (nat_decided u t) [
      | inl same ↦ subst (λ o. AreOne o (s'.txns u)) (sym (by u true (same_number u t same)))
          (did.txn, ap (λ f. f u) did.txns ∙ ap (with_txn s t did.txn) same ∙ txn_here s t did.txn, did.is)
      | inr other ↦ subst (λ o. AreOne o (s'.txns u)) (sym (by u false (other_number u t other)))
          (subst (AreOne (table.state_of u v.txns.active)) (sym (ap (λ f. f u) did.txns ∙ txn_apart s t did.txn u other)) (h.txns u))
    ]

    pledges_are : (u : ℕ) → get s'.pledges u ≡ option_map (λ (y : TxnState). y.reserved) (table.state_of u v'.txns.active)
    pledges_are u = ap (λ m. get m u) did.places ∙ elim (nat_decided u t) [
      | inl same ↦
          ap (get (insert s.pledges t x'.reserved)) same ∙ get-set_at_same nat_exact s.pledges t (Some x'.reserved)
          ∙ sym (ap (option_map (λ (y : TxnState). y.reserved)) (by u true (same_number u t same)))
      | inr other ↦
          get-set_at_other nat_exact s.pledges t (Some x'.reserved) u other ∙ h.pledges u
          ∙ sym (ap (option_map (λ (y : TxnState). y.reserved)) (by u false (other_number u t other)))
    ]

    pledged_is : all_reserved s'.pledges ≡ v'.index.pledged
    pledged_is =
        ap all_reserved did.places
        ∙ sums _ _ _ _ _ _ _ (reserved_insert s.pledges t x'.reserved) (places_are v s k h t x here) h.pledged did.pledged
      where
        sums : (all before old res pledged pledged' m : ℕ) → all + old ≡ before + m → old ≡ res → before ≡ pledged → pledged' + res ≡ pledged + m
            → all ≡ pledged'
        sums all before old res pledged pledged' m e f g i = omega (arith, e, f, g, i)

    pub moved_shown : Shows v' s' k'
    moved_shown =
        let r : KeepsRest v s v' s' = did.rest in
        record {
          rows = did.rows;
          entries = did.entries;
          txns = txns_are;
          holder = did.holder;
          pledges = pledges_are;
          pledged = pledged_is;
          life = r.same_life ∙ h.life ∙ sym r.life;
          pages = r.same_pages ∙ h.pages ∙ sym r.pages;
          scan_pages = ap (λ (w : ScanValue). w.pages) r.scan ∙ h.scan_pages ∙ sym r.pages;
          places = r.same_places ∙ h.places ∙ sym r.capacity;
          cleaned = r.same_cleaned ∙ h.cleaned ∙ sym r.cleaned;
          bound = r.same_bound ∙ h.bound ∙ ap (λ (w : ScanValue). w.last) (sym r.scan);
          scan = record {
            run = h.scan.run;
            made = subst (λ w. HasRun w h.scan.run) (sym r.scan) h.scan.made;
            given = λ p. ap (λ f. f p) r.same_given ∙ h.scan.given p;
            missed = λ p. ap (λ f. f p) r.same_missed ∙ h.scan.missed p;
            taken = λ n. ap (λ f. f n) r.same_taken ∙ h.scan.taken n;
            in_a_row = ap (λ (n : Standing). n.scanned) did.standing ∙ h.scan.in_a_row;
            untaken = λ page n wanted le. ap (λ f. f n) r.same_taken ∙ h.scan.untaken page n (ap (λ (w : ScanValue). w.wanted) (sym r.scan) ∙ wanted) le;
          };
          made = ap (λ (n : Standing). n.made) did.standing;
          begun = ap (λ (n : Standing). n.begun) did.standing ∙ h.begun ∙ sym r.begun;
          active = ap (λ (n : Standing). n.active) did.standing ∙ h.active ∙ sym r.many;
          attempts = ap (λ (n : Standing). n.attempts) did.standing ∙ h.attempts ∙ sym r.tried;
          all_attempts = r.attempts ∙ h.all_attempts ∙ ap (λ (n : Standing). min n.all_attempts (2 ^ 64 - 1)) (sym did.standing);
          commits = ap (λ (n : Standing). n.commits) did.standing ∙ h.commits ∙ sym r.commits;
        }

-- A step of one transaction on one row: what holds of that row and that transaction is enough.
use Rattle.std.proofs.Common.{None, Option, Some, ap, inl, inr, subst, sym, true, ℕ, ◌<◌, ◌∙◌, ◌≡◌, ◌≢◌, ◌⊎◌}
use Rattle.std.specs.Cmp.{nat_cmp_total}
use Rattle.std.specs.FinMap.{get, nat_cmp-IsAntisymmetric}
use Rattle.record_values.specs.Orders.{rid_cmp-IsAntisymmetric, rid_cmp_total, is_above}
use Rattle.record_values.specs.Values.{Place}
use Rattle.record_values.specs.declared.pair.Mark.TheVariants.{Live}
use Rattle.record_values.specs.declared.pair.Pair.{Pair}
use Rattle.record_values.specs.declared.row.Row.{Row}
use Rattle.model.specs.Table.{IsPairOf, Table}
use Rattle.record_values.specs.Entries.{Index}
use Rattle.model.specs.declared.life.Life.TheVariants.{Absent, Building}
use Rattle.core_model.proofs.Latest.{holds_more, not_none, phase_same}
use Rattle.core_model.proofs.Orders.{decided, update_apart, update_here}
use Rattle.core_model.specs.Changes.{latest, pair_of}
use Rattle.core_model.specs.Invariants.{IsBacked, IsBusyWith, IsChained, IsCoherent, IsHeld, IsHolderOf, IsPhaseOf, IsUnfinished, IsVisibleOrAhead, TxnHolds}
use Rattle.core_model.specs.Invariants.{made_of}
use Rattle.core_model.specs.States.{Active, State}
use Rattle.core_model.specs.Steps.{is_indexed, with_txn}

pub nat_decided : (a b : ℕ) → (a ≡ b) ⊎ (a ≢ b)
nat_decided a b = decided nat_cmp_total nat_cmp-IsAntisymmetric a b

pub rid_decided : (a b : Place) → (a ≡ b) ⊎ (a ≢ b)
rid_decided a b = decided rid_cmp_total rid_cmp-IsAntisymmetric a b

pub txn_here : (s : State) (t : ℕ) (x : Active) → with_txn s t x t ≡ Some x
txn_here s t x = update_here nat_cmp_total s.txns t (Some x)

pub txn_apart : (s : State) (t : ℕ) (x : Active) (u : ℕ) → u ≢ t → with_txn s t x u ≡ s.txns u
txn_apart s t x u n = update_apart nat_cmp-IsAntisymmetric s.txns t (Some x) u n

pub same_some : {A : Type 0} {a b : A} {o : Option A} → o ≡ Some a → o ≡ Some b → a ≡ b
same_some p q = cc

pub on_table : (rows other : Table) (p : Pair) → get other p.rid ≡ get rows p.rid → IsPairOf rows p → IsPairOf other p
on_table rows other p e h = record { row = h.row; is_there = e ∙ h.is_there; has_key = h.has_key }

module _ (s : State) (rows' : Table) (entries' : Index) (holder' : Place → Option ℕ) (r : Place) (t : ℕ) (x x' : Active) where
  abbrev pub moved : State
  moved = record s { rows = rows'; entries = entries'; txns = with_txn s t x'; holder = holder' }

  pub record Frame : Type 0 where
    pub rows : (q : Place) → q ≢ r → get rows' q ≡ get s.rows q
    pub entries : (p : Pair) → p.rid ≢ r → get entries' p ≡ get s.entries p
    pub holder : (q : Place) → q ≢ r → holder' q ≡ s.holder q
    pub was : s.txns t ≡ Some x
    pub mine : (u : ℕ) → s.holder r ≡ Some u → u ≡ t
    pub held : holder' r ≡ Some t
    pub idle : (q : Place) → q ≢ r → IsBusyWith x.changes x.phase q → ⊥
    pub latest : (q : Place) (v : Option Row) → q ≢ r → latest (made_of x') q v ≡ latest (made_of x) q v

  pub record Local : Type 0 where
    pub row : get rows' r ≡ latest (made_of x') r (get s.committed r)
    pub inside : r.page < s.pages
    pub names : IsHolderOf holder' t x'.changes
    pub chained : IsChained s.committed x'.changes
    pub phase : IsPhaseOf (is_indexed s.life) entries' x'.changes x'.phase x'.rolling
    pub sound : (p : Pair) → p.rid ≡ r → get entries' p ≡ Some Live → IsPairOf rows' p
    pub visible : (row : Row) → get rows' r ≡ Some row → (IsUnfinished moved r → ⊥) → IsVisibleOrAhead moved (pair_of r row)
    pub empty : s.life ≡ Absent → (p : Pair) → p.rid ≡ r → get entries' p ≡ None
    pub backed : (highest : Option Pair) → s.life ≡ Building highest → (p : Pair) → p.rid ≡ r → s.given p ≡ true → is_above s.bound p ≡ true → IsBacked moved p

  module _ (f : Frame) (l : Local) (i : IsCoherent s) where
    moved_free : (q : Place) → holder' q ≡ None → get rows' q ≡ get s.committed q
    moved_free q e = elim (rid_decided q r) [
      | inl same ↦ absurd (not_none f.held (ap holder' (sym same) ∙ e))
      | inr n ↦ f.rows q n ∙ i.free q (sym (f.holder q n) ∙ e)
    ]

    here_held : IsHeld moved r t
    here_held = record { txn = x'; active = txn_here s t x'; row = l.row; inside = l.inside }

    elsewhere_held : (q : Place) (u : ℕ) → q ≢ r → IsHeld s q u → IsHeld moved q u
    elsewhere_held q u n h = elim (nat_decided u t) [
      | inl same ↦
          let is : h.txn ≡ x = same_some h.active (ap s.txns same ∙ f.was) in
          record {
            txn = x';
            active = ap (with_txn s t x') same ∙ txn_here s t x';
            row = f.rows q n ∙ h.row ∙ ap (λ y. latest (made_of y) q (get s.committed q)) is ∙ sym (f.latest q (get s.committed q) n);
            inside = h.inside;
          }
      | inr m ↦ record { txn = h.txn; active = txn_apart s t x' u m ∙ h.active; row = f.rows q n ∙ h.row; inside = h.inside }
    ]

    moved_held : (q : Place) (u : ℕ) → holder' q ≡ Some u → IsHeld moved q u
    moved_held q u e = elim (rid_decided q r) [
      | inl same ↦
          let who : t ≡ u = same_some f.held (ap holder' (sym same) ∙ e) in
          subst (λ w. IsHeld moved q w) who (subst (λ w. IsHeld moved w t) (sym same) here_held)
      | inr n ↦ elsewhere_held q u n (i.held q u (sym (f.holder q n) ∙ e))
    ]

    moved_inside : (q : Place) (row : Row) → get rows' q ≡ Some row → q.page < s.pages
    moved_inside q row e = elim (rid_decided q r) [
      | inl same ↦ subst (λ (w : Place). w.page < s.pages) (sym same) l.inside
      | inr n ↦ i.inside q row (sym (f.rows q n) ∙ e)
    ]

    not_here : (q : Place) (u : ℕ) → u ≢ t → s.holder q ≡ Some u → q ≢ r
    not_here q u m e same = m (f.mine u (ap s.holder (sym same) ∙ e))

    moved_txns : (u : ℕ) (y : Active) → with_txn s t x' u ≡ Some y → TxnHolds moved u y
    moved_txns u y e = elim (nat_decided u t) [
      | inl same ↦
          let is : x' ≡ y = same_some (txn_here s t x') (ap (with_txn s t x') (sym same) ∙ e) in
          let here : TxnHolds moved t x' = record { names = l.names; chained = l.chained; phase = l.phase } in
          subst (λ w. TxnHolds moved u w) is (subst (λ w. TxnHolds moved w x') (sym same) here)
      | inr m ↦
          let h : TxnHolds s u y = i.txns u y (sym (txn_apart s t x' u m) ∙ e) in
          record {
            names = holds_more s.holder holder' u (λ q k. f.holder q (not_here q u m k) ∙ k) y.changes h.names;
            chained = h.chained;
            phase = phase_same (is_indexed s.life) s.holder u s.entries entries' (λ p k.
                f.entries p (not_here p.rid u m k)) y.changes y.phase y.rolling h.names h.phase;
          }
    ]

    moved_sound : (p : Pair) → get entries' p ≡ Some Live → IsPairOf rows' p
    moved_sound p e = elim (rid_decided p.rid r) [
      | inl same ↦ l.sound p same e
      | inr n ↦ on_table s.rows rows' p (f.rows p.rid n) (i.sound p (sym (f.entries p n) ∙ e))
    ]

    still_unfinished : (q : Place) → q ≢ r → IsUnfinished s q → IsUnfinished moved q
    still_unfinished q n h = elim (nat_decided h.transaction t) [
      | inl same ↦
          let is : h.txn ≡ x = same_some h.active (ap s.txns same ∙ f.was) in
          absurd (f.idle q n (subst (λ (y : Active). IsBusyWith y.changes y.phase q) is h.busy))
      | inr m ↦ record { transaction = h.transaction; txn = h.txn; active = txn_apart s t x' h.transaction m ∙ h.active; busy = h.busy }
    ]

    visible_same : (p : Pair) → get entries' p ≡ get s.entries p → IsVisibleOrAhead s p → IsVisibleOrAhead moved p
    visible_same p e h = elim h [ inl live ↦ inl (e ∙ live) | inr w ↦ inr (e ∙ w.0, w.1) ]

    moved_visible : (q : Place) (row : Row) → get rows' q ≡ Some row → (IsUnfinished moved q → ⊥) → IsVisibleOrAhead moved (pair_of q row)
    moved_visible q row e idle = elim (rid_decided q r) [
      | inl same ↦
          subst (λ (w : Place). get rows' w ≡ Some row → (IsUnfinished moved w → ⊥) → IsVisibleOrAhead moved (pair_of w row)) (sym same) (l.visible row) e idle
      | inr n ↦ visible_same (pair_of q row) (f.entries (pair_of q row) n) (i.visible q row (sym (f.rows q n) ∙ e) (λ h. idle (still_unfinished q n h)))
    ]

    moved_empty : s.life ≡ Absent → (p : Pair) → get entries' p ≡ None
    moved_empty e p = elim (rid_decided p.rid r) [
      | inl same ↦ l.empty e p same
      | inr n ↦ f.entries p n ∙ i.empty e p
    ]

    backed_same : (p : Pair) → p.rid ≢ r → IsBacked s p → IsBacked moved p
    backed_same p n h = elim h [ inl is ↦ inl (on_table s.rows rows' p (f.rows p.rid n) is) | inr some ↦ inr (λ e. some (sym (f.entries p n) ∙ e)) ]

    moved_backed : (highest : Option Pair) → s.life ≡ Building highest → (p : Pair) → s.given p ≡ true → is_above s.bound p ≡ true → IsBacked moved p
    moved_backed highest b p g a = elim (rid_decided p.rid r) [
      | inl same ↦ l.backed highest b p same g a
      | inr n ↦ backed_same p n (i.backed highest b p g a)
    ]

    pub framed : IsCoherent moved
    framed = record {
      free = moved_free;
      held = moved_held;
      inside = moved_inside;
      txns = moved_txns;
      sound = moved_sound;
      visible = moved_visible;
      empty = moved_empty;
      backed = moved_backed;
      behind = i.behind;
    }

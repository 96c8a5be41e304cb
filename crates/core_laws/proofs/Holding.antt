-- What a core holds that stands for the abstract one.
use Rattle.std.proofs.Common.{List, None, Option, Some, [], ap, arith, cond, eqb, false, inl, inr, length, refl, slice_get, subst, suc, sym, true, ℕ, ◌++◌, ◌+◌}
use Rattle.std.proofs.Common.{◌-◌, ◌∙◌, ◌∷◌, ◌≡◌, ◌≢◌, ◌≤◌}
use Rattle.std.proofs.lemmas.Bool.Decides.{eqb_tells}
use Rattle.std.proofs.lemmas.List.{length-append}
use Rattle.std.specs.FinMap.{get, get-empty, len}
use Rattle.std.specs.Option.{option_map}
use Rattle.std.specs.Ordering.{nat_cmp}
use Rattle.std.specs.Prelude.{take}
use Rattle.records.specs.ChangeValue.{ChangeValue}
use Rattle.record_values.specs.Maps.{get-set_at_other, get-set_at_same, nat_exact}
use Rattle.records.specs.RecordValue.{RecordValue}
use Rattle.record_values.specs.Values.{Place}
use Rattle.record_values.specs.declared.pair.Pair.{Pair}
use Rattle.model.specs.Given.{IsBeginning, given_after}
use Rattle.model.specs.History.{Item, life_after, table_after}
use Rattle.model.specs.Table.{IsPairOf}
use Rattle.model.specs.declared.life.Life.TheVariants.{Complete}
use Rattle.txn_table.specs.Table.{TxnState, state_of}
use Rattle.txn_table.specs.declared.progress.Progress.{Progress}
use Rattle.txn_table.specs.declared.progress.Progress.TheVariants.{OwesEntry, OwesRow, Ready, Rolling, UndoesEntry, UndoesRow}
use Rattle.core_model.proofs.Laws.{made_holds, nat_decided, whole}
use Rattle.core_model.specs.Changes.{Changes, Unchanged, as_list, pair_of, ◌▹◌}
use Rattle.core_model.specs.Histories.{CanOpen, IsCovered, IsFaithful, Opened, no_writes}
use Rattle.core_model.specs.Invariants.{IsBusyWith, IsUnfinished}
use Rattle.core_model.specs.Records.{HasCells, IsListOf}
use Rattle.core_model.specs.States.{Active, Made, Phase, State}
use Rattle.core_model.specs.Steps.{all_reserved}
use Rattle.core_model.proofs.ReplyLaws.{served_faithful, served_recovers}
use Rattle.core_model.specs.Events.{Event, Reply, Standing}
use Rattle.core_model.specs.Served.{items_of}
use Rattle.core_parts.specs.View.{AreOne, CoreValue, IsProgressOf, Shows}
use Rattle.core_parts.specs.Moves.{txn_shown}
use Rattle.core_laws.specs.Calls.{HasReplied}
use Rattle.core_laws.specs.Holds.{HoldsHistory, IsBeingChanged, IsHalfway, ShowsRows, cells_shown, lists_of}

-- ---- the cells
same_number : (n m : ℕ) → n ≡ m → eqb n m ≡ true
same_number n m e = elim (eqb_tells n m) [ inl p ↦ p.0 | inr p ↦ absurd (p.1 e) ]

other_number : (n m : ℕ) → n ≢ m → eqb n m ≡ false
other_number n m e = elim (eqb_tells n m) [ inl p ↦ absurd (e p.1) | inr p ↦ p.0 ]

-- under each number stand the changes of the transaction that has it
list_at : (txns : List (ℕ × TxnState)) (t : ℕ) → get (lists_of txns) t ≡ option_map (λ (x : TxnState). x.changes) (state_of t txns)
list_at [] t = get-empty nat_cmp t
list_at (e ∷ txns) t = elim (nat_decided t e.0) [
  | inl same ↦
      ap (get (lists_of (e ∷ txns))) same ∙ get-set_at_same nat_exact (lists_of txns) e.0 (Some e.1.changes)
      ∙ sym (ap (λ b. option_map (λ (x : TxnState). x.changes) (cond b (Some e.1) (state_of t txns))) (same_number t e.0 same))
  | inr other ↦
      get-set_at_other nat_exact (lists_of txns) e.0 (Some e.1.changes) t other ∙ list_at txns t
      ∙ sym (ap (λ b. option_map (λ (x : TxnState). x.changes) (cond b (Some e.1) (state_of t txns))) (other_number t e.0 other))
]

is_list : (o : Option TxnState) (a : Option Active) → AreOne o a → IsListOf (option_map (λ (x : TxnState). x.changes) o) a
is_list None a one = subst (IsListOf None) (sym one) tt
is_list (Some x) a one = subst (IsListOf (Some x.changes)) (sym one.1) (sym one.2.changes)

module _ (v : CoreValue) (s : State) (k : Standing) (h : Shows v s k) where
  pub cells : HasCells s (cells_shown v)
  cells = record {
    rows = sym h.rows;
    entries = sym h.entries;
    pending = λ t. subst (λ o. IsListOf o (s.txns t)) (sym (list_at v.txns.active t)) (is_list (txn_shown v t) (s.txns t) (h.txns t));
    life = sym h.life;
  }

-- ---- rows that are being changed
last_of : (xs : List ChangeValue) (c : ChangeValue) → slice_get (xs ++ c ∷ []) (length (xs ++ c ∷ []) - 1) ≡ Some c
last_of [] c = refl
last_of (x ∷ xs) c =
    let more : length (x ∷ xs ++ c ∷ []) - 1 ≡ suc (length (xs ++ c ∷ []) - 1) = omega (arith, length-append xs (c ∷ [])) in
    ap (slice_get (x ∷ xs ++ c ∷ [])) more ∙ last_of xs c

halfway : (p : Progress) (phase : Phase) → IsProgressOf p phase → phase ≢ Made → IsHalfway p
halfway Ready phase at busy = absurd (busy at)
halfway OwesRow phase at busy = tt
halfway OwesEntry phase at busy = tt
halfway Rolling phase at busy = absurd (busy at)
halfway UndoesRow phase at busy = tt
halfway UndoesEntry phase at busy = tt

same_active : (a b : Active) → (◌≡◌ {A = Option Active} (Some a) (Some b)) → a ≡ b
same_active a b e = cc

module _ (v : CoreValue) (r : Place) (t : ℕ) where
  by_changes : (x : TxnState) (phase : Phase) (cs : Changes) → txn_shown v t ≡ Some x → as_list cs ≡ x.changes → IsProgressOf x.progress phase
      → IsBusyWith cs phase r → IsBeingChanged v r
  by_changes x phase Unchanged here same at busy = absurd busy
  by_changes x phase (older ▹ c) here same at busy = record {
    number = t;
    txn = x;
    active = here;
    change = c;
    newest = subst (λ (xs : List ChangeValue). slice_get xs (length xs - 1) ≡ Some c) same (last_of (as_list older) c);
    of_row = busy.0;
    halfway = halfway x.progress phase at busy.1;
  }

  by_txn : (o : Option TxnState) (a : Active) → txn_shown v t ≡ o → AreOne o (Some a) → IsBusyWith a.changes a.phase r → IsBeingChanged v r
  by_txn None a here one busy = absurd (some_is_none one)
    where
      some_is_none : (◌≡◌ {A = Option Active} (Some a) None) → ⊥
      some_is_none e = absurd cc
  by_txn (Some x) a here one busy =
      let b : Active = one.0 in
      let same : a ≡ b = same_active a b one.1 in
      by_changes x b.phase b.changes here one.2.changes one.2.phase (subst (λ (y : Active). IsBusyWith y.changes y.phase r) same busy)

module _ (v : CoreValue) (s : State) (k : Standing) (h : Shows v s k) where
  being_changed : (r : Place) → IsUnfinished s r → IsBeingChanged v r
  being_changed r u = by_txn v r u.transaction (txn_shown v u.transaction) u.txn refl
      (subst (AreOne (txn_shown v u.transaction)) u.active (h.txns u.transaction)) u.busy

  covered : (p : Pair) → IsCovered v.life v.scan.last p → IsCovered s.life s.bound p
  covered p is = subst (λ l. IsCovered l s.bound p) (sym h.life) (subst (λ b. IsCovered v.life b p) (sym h.bound) is)

  room : len s.entries + all_reserved s.pledges ≤ s.places → len v.index.entries + v.index.pledged ≤ v.index.capacity
  room le = sums _ _ _ _ _ _ (ap len h.entries) h.pledged h.places le
    where
      sums : (a b c d e f : ℕ) → a ≡ b → c ≡ d → e ≡ f → a + c ≤ e → b + d ≤ f
      sums a b c d e f p q r l = omega (arith, p, q, r, l)

  pub holding : (o : Opened) (items : List Item) → IsFaithful s (table_after o.given.table items) → s.life ≡ life_after o.given.life items
      → HoldsHistory o items v
  holding o items f life = record {
    table = f.back (cells_shown v) (cells v s k h);
    life = sym h.life ∙ life;
    sound = λ p live. subst (λ rows. IsPairOf rows p) h.rows (f.sound p (ap (λ m. get m p) h.entries ∙ live));
    complete = λ r row there still is.
        sym (ap (λ m. get m (pair_of r row)) h.entries)
        ∙ f.complete r row (ap (λ m. get m r) h.rows ∙ there) (λ u. still (being_changed r u)) (covered (pair_of r row) is);
    empty = λ absent p. sym (ap (λ m. get m p) h.entries) ∙ f.empty (h.life ∙ absent) p;
    room = room f.fits;
  }

module _ (o : Opened) (can : CanOpen o) (pairs : List (Event × Reply)) (handed : List RecordValue) (v : CoreValue) (so : HasReplied o pairs handed v) where
  pub holds : HoldsHistory o (items_of no_writes pairs) v
  holds =
      let f = served_faithful o can (handed ++ v.outbox) pairs so.state so.standing so.served in
      holding v so.state so.standing so.stands.shown o (items_of no_writes pairs) f.0 f.1

  pub shows_rows : v.life ≡ Complete → v.txns.active ≡ [] → ShowsRows v
  shows_rows complete quiet p =
      let h : Shows v so.state so.standing = so.stands.shown in
      let is = whole so.state (made_holds o can (handed ++ v.outbox) (items_of no_writes pairs) _ so.state so.served.log) (h.life ∙ complete) none_active p in (
        λ live. subst (λ rows. IsPairOf rows p) h.rows (is.0 (ap (λ m. get m p) h.entries ∙ live)),
        λ pair. sym (ap (λ m. get m p) h.entries) ∙ is.1 (subst (λ rows. IsPairOf rows p) (sym h.rows) pair),
      )
    where
      none_active : (t : ℕ) → so.state.txns t ≡ None
      none_active t = subst (λ txns. AreOne (state_of t txns) (so.state.txns t)) quiet (so.stands.shown.txns t)

  pub numbered : v.last ≡ o.given.last + length (handed ++ v.outbox)
  numbered = sym so.stands.shown.made ∙ so.served.number

  pub recovers : (n : ℕ) → n ≤ length (handed ++ v.outbox)
      → IsBeginning o.given (items_of no_writes pairs) (o.given.last + n) (given_after o.given (take n (handed ++ v.outbox)))
  recovers n le = (served_recovers o can (handed ++ v.outbox) pairs so.state so.standing so.served n le).0

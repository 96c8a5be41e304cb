-- With a complete index each pair of a committed row has an entry, whatever transactions are active.
use Rattle.std.proofs.Common.{Bool, None, Option, Some, ap, cond, false, inl, inr, refl, subst, sym, true, ℕ, ◌∙◌, ◌≡◌, ◌≢◌, ◌⊎◌, List}
use Rattle.std.specs.Cmp.Lexicographic.{slice_cmp}
use Rattle.std.specs.FinMap.{get}
use Rattle.std.specs.Ordering.{eq_by_cmp, nat_cmp}
use Rattle.records.specs.ChangeValue.{ChangeValue}
use Rattle.records.specs.Spelling.{new_row, old_row}
use Rattle.record_values.specs.Maps.{key_is, other_key, rid_exact, same_key}
use Rattle.record_values.specs.Orders.{rid_cmp}
use Rattle.record_values.specs.Values.{Place}
use Rattle.record_values.specs.declared.pair.Mark.TheVariants.{Live}
use Rattle.record_values.specs.declared.pair.Pair.{Pair}
use Rattle.record_values.specs.declared.row.Row.{Row}
use Rattle.model.specs.Pairs as pairs
use Rattle.model.specs.declared.life.Life.TheVariants.{Complete}
use Rattle.core_model.proofs.Laws.{faithful, not_none, rid_decided, same_some}
use Rattle.core_model.specs.Changes.{Changes, Unchanged, gone, latest, new_pair, old_pair, pair_of, ◌▹◌}
use Rattle.core_model.specs.Histories.{IsCovered}
use Rattle.core_model.specs.Invariants.{HasShape, Invariant, IsBusyWith, IsChained, IsHeld, IsHolderOf, IsShaped, IsUnfinished, applied_of}
use Rattle.core_model.specs.States.{Active, Made, NewMarked, OldMarked, OldSet, Phase, RowSet, State}
use Rattle.core_model.specs.Steps.{is_applied, is_indexed}
use Rattle.core_committed.proofs.Entered.{AreEntered, HasOldPairs, IsEntered}
use Rattle.core_committed.proofs.Marks.{key_exact}

-- ---- one change

-- a pair goes, unless the row in its place has its key
gone_or : (rid : Place) (row : Row) (new : Option Row)
    → (gone true rid (Some row) new ≡ Some (pair_of rid row)) ⊎ ((n : Row) × (new ≡ Some n) × (n.key ≡ row.key))
gone_or rid row None = inl refl
gone_or rid row (Some n) = by (pairs.same_key row n) refl
  where
    by : (b : Bool) → pairs.same_key row n ≡ b
        → (cond b None (Some (pair_of rid row)) ≡ Some (pair_of rid row)) ⊎ ((m : Row) × (◌≡◌ {A = Option Row} (Some n) (Some m)) × (m.key ≡ row.key))
    by true same = inr (n, refl, sym (key_is key_exact row.key n.key same))
    by false other = inl refl

-- none goes where the key stays
none_gone : (rid : Place) (row other : Row) → row.key ≡ other.key → gone true rid (Some row) (Some other) ≡ None
none_gone rid row other same = ap (λ b. cond b None (Some (pair_of rid row)))
    (ap (λ (k : List ℕ). eq_by_cmp (slice_cmp nat_cmp) k other.key) same ∙ same_key key_exact other.key)

-- a change that is not made as it is, or not taken back whole, moves a pair
moves_none : (c : ChangeValue) (phase : Phase) → HasShape true c phase → phase ≢ Made → old_pair true c ≡ None → new_pair true c ≡ None → ⊥
moves_none c OldMarked shape busy old new = not_none shape.is old
moves_none c RowSet shape busy old new = not_none shape.is new
moves_none c Made shape busy old new = busy refl
moves_none c (NewMarked applied) shape busy old new = not_none shape.is new
moves_none c OldSet shape busy old new = not_none shape.is old

busy_held : (holder : Place → Option ℕ) (t : ℕ) (cs : Changes) (phase : Phase) (r : Place) → IsBusyWith cs phase r → IsHolderOf holder t cs → holder r ≡ Some t
busy_held holder t Unchanged phase r busy names = absurd busy
busy_held holder t (older ▹ c) phase r busy names = ap holder (sym busy.0) ∙ names.0

module _ (s : State) (i : Invariant s) (complete : s.life ≡ Complete) (r : Place) (row : Row) (was : get s.committed r ≡ Some row) where
  abbrev HasEntry : Type 0
  HasEntry = get s.entries (pair_of r row) ≢ None

  -- a row with the committed row's key
  abbrev Keeps : Option Row → Type 0
  Keeps o = (now : Row) × (o ≡ Some now) × (now.key ≡ row.key)

  pair_same : (rid : Place) (now : Row) → rid ≡ r → now.key ≡ row.key → pair_of rid now ≡ pair_of r row
  pair_same rid now place key = λ j. record { key = key j; rid = place j }

  -- where the place shows such a row, and no change of it is halfway, its pair is visible
  shown : Keeps (get s.rows r) → (IsUnfinished s r → ⊥) → HasEntry
  shown keeps idle none =
      let now : Row = keeps.0 in
      let covered : IsCovered s.life s.bound (pair_of r now) = subst (λ life. IsCovered life s.bound (pair_of r now)) (sym complete) tt in
      let live : get s.entries (pair_of r now) ≡ Some Live = (faithful s i).complete r now keeps.1 idle covered in
      not_none live (ap (get s.entries) (pair_same r now refl keeps.2) ∙ none)

  -- a change of the place, made where the key was kept, keeps it or takes the committed row's pair away
  change_keeps : (c : ChangeValue) → c.rid ≡ r → Keeps (old_row c.rows) → IsEntered s.entries (old_pair true c) → HasEntry ⊎ Keeps (new_row c.rows)
  change_keeps c place before entered = elim (gone_or c.rid before.0 (new_row c.rows)) [
    | inl moved ↦ inl (subst (λ (p : Pair). get s.entries p ≢ None) (pair_same c.rid before.0 place before.2)
        (subst (IsEntered s.entries) (ap (λ o. gone true c.rid o (new_row c.rows)) before.1 ∙ moved) entered))
    | inr kept ↦ inr (kept.0, kept.1, kept.2 ∙ before.2)
  ]

  here : (older : Changes) (c : ChangeValue) → c.rid ≡ r → latest (older ▹ c) r (get s.committed r) ≡ new_row c.rows
  here older c place = ap (λ b. cond b (new_row c.rows) (latest older r (get s.committed r)))
      (ap (λ q. eq_by_cmp rid_cmp r q) place ∙ same_key rid_exact r)

  elsewhere : (older : Changes) (c : ChangeValue) → c.rid ≢ r → latest (older ▹ c) r (get s.committed r) ≡ latest older r (get s.committed r)
  elsewhere older c other = ap (λ b. cond b (new_row c.rows) (latest older r (get s.committed r))) (other_key rid_exact r c.rid (λ e. other (sym e)))

  -- what a change found is what the older ones made
  before_is : (older : Changes) (c : ChangeValue) → c.rid ≡ r → old_row c.rows ≡ latest older c.rid (get s.committed c.rid)
      → Keeps (latest older r (get s.committed r)) → Keeps (old_row c.rows)
  before_is older c place chained keeps = (keeps.0, chained ∙ ap (λ q. latest older q (get s.committed q)) place ∙ keeps.1, keeps.2)

  -- changes keep the key, or have taken the pair away
  changes_keep : (cs : Changes) → IsChained s.committed cs → AreEntered true s.entries cs → HasEntry ⊎ Keeps (latest cs r (get s.committed r))
  changes_keep Unchanged chained entered = inr (row, was, refl)
  changes_keep (older ▹ c) chained entered = elim (changes_keep older chained.1 entered.1) [
    | inl there ↦ inl there
    | inr keeps ↦ elim (rid_decided c.rid r) [
      | inl place ↦ elim (change_keeps c place (before_is older c place chained.0 keeps) entered.0) [
        | inl there ↦ inl there
        | inr kept ↦ inr (kept.0, here older c place ∙ kept.1, kept.2)
      ]
      | inr other ↦ inr (keeps.0, elsewhere older c other ∙ keeps.1, keeps.2)
    ]
  ]

  -- a change of the place that is halfway has taken the pair away
  halfway : (older : Changes) (c : ChangeValue) (phase : Phase) → c.rid ≡ r → phase ≢ Made → HasShape true c phase
      → Keeps (old_row c.rows) → IsEntered s.entries (old_pair true c) → HasEntry
  halfway older c phase place busy shape before entered = elim (change_keeps c place before entered) [
    | inl there ↦ there
    | inr kept ↦
        let both : before.0.key ≡ kept.0.key = before.2 ∙ sym kept.2 in
        let old : old_pair true c ≡ None =
        ap (λ o. gone true c.rid o (new_row c.rows)) before.1 ∙ ap (gone true c.rid (Some before.0)) kept.1 ∙ none_gone c.rid before.0 kept.0 both in
        let new : new_pair true c ≡ None =
        ap (λ o. gone true c.rid o (old_row c.rows)) kept.1 ∙ ap (gone true c.rid (Some kept.0)) before.1 ∙ none_gone c.rid kept.0 before.0 (sym both) in
        absurd (moves_none c phase shape busy old new)
  ]

  module _ (cs : Changes) (phase : Phase) (row_is : get s.rows r ≡ latest (applied_of cs (is_applied phase)) r (get s.committed r))
      (chained : IsChained s.committed cs) (entered : AreEntered true s.entries cs) (shaped : IsShaped true cs phase)
      (idle : (IsBusyWith cs phase r → ⊥) → IsUnfinished s r → ⊥) where
    -- all changes are made
    whole : applied_of cs (is_applied phase) ≡ cs → (IsBusyWith cs phase r → ⊥) → HasEntry
    whole all calm = elim (changes_keep cs chained entered) [
      | inl there ↦ there
      | inr keeps ↦ shown (keeps.0, row_is ∙ ap (λ (made : Changes). latest made r (get s.committed r)) all ∙ keeps.1, keeps.2) (idle calm)
    ]

  -- with the newest change halfway
  newest : (older : Changes) (c : ChangeValue) (phase : Phase) → phase ≢ Made
      → get s.rows r ≡ latest (applied_of (older ▹ c) (is_applied phase)) r (get s.committed r)
      → IsChained s.committed (older ▹ c) → AreEntered true s.entries (older ▹ c) → HasShape true c phase
      → ((IsBusyWith (older ▹ c) phase r → ⊥) → IsUnfinished s r → ⊥) → HasEntry
  newest older c phase busy row_is chained entered shape idle = elim (changes_keep older chained.1 entered.1) [
    | inl there ↦ there
    | inr keeps ↦ elim (rid_decided c.rid r) [
      | inl place ↦ halfway older c phase place busy shape (before_is older c place chained.0 keeps) entered.0
      | inr other ↦ shown (keeps.0, row_is ∙ either other (is_applied phase) ∙ keeps.1, keeps.2) (idle (λ b. other b.0))
    ]
  ]
    where
      either : c.rid ≢ r → (b : Bool) → latest (applied_of (older ▹ c) b) r (get s.committed r) ≡ latest older r (get s.committed r)
      either other true = elsewhere older c other
      either other false = refl

  of_holder : (cs : Changes) (phase : Phase) → get s.rows r ≡ latest (applied_of cs (is_applied phase)) r (get s.committed r)
      → IsChained s.committed cs → AreEntered true s.entries cs → IsShaped true cs phase
      → ((IsBusyWith cs phase r → ⊥) → IsUnfinished s r → ⊥) → HasEntry
  of_holder Unchanged phase row_is chained entered shaped idle = whole Unchanged phase row_is chained entered shaped idle refl (λ b. b)
  of_holder (older ▹ c) OldMarked row_is chained entered shaped idle = newest older c OldMarked (λ e. cc) row_is chained entered shaped idle
  of_holder (older ▹ c) RowSet row_is chained entered shaped idle = newest older c RowSet (λ e. cc) row_is chained entered shaped idle
  of_holder (older ▹ c) Made row_is chained entered shaped idle = whole (older ▹ c) Made row_is chained entered shaped idle refl (λ b. b.1 refl)
  of_holder (older ▹ c) (NewMarked applied) row_is chained entered shaped idle =
      newest older c (NewMarked applied) (λ e. cc) row_is chained entered shaped idle
  of_holder (older ▹ c) OldSet row_is chained entered shaped idle = newest older c OldSet (λ e. cc) row_is chained entered shaped idle

  indexed : is_indexed s.life ≡ true
  indexed = ap is_indexed complete

  unfinished_held : (u : IsUnfinished s r) → s.holder r ≡ Some u.transaction
  unfinished_held u = busy_held s.holder u.transaction u.txn.changes u.txn.phase r u.busy (i.coherent.txns u.transaction u.txn u.active).names

  pub has_entry : HasOldPairs s → HasEntry
  has_entry old = by (s.holder r) refl
    where
      by : (o : Option ℕ) → s.holder r ≡ o → HasEntry
      by None free = shown (row, i.coherent.free r free ∙ was, refl) (λ u. not_none (unfinished_held u) free)
      by (Some t) held =
          let h : IsHeld s r t = i.coherent.held r t held in
          let x : Active = h.txn in
          of_holder x.changes x.phase h.row (i.coherent.txns t x h.active).chained
          (subst (λ b. AreEntered b s.entries x.changes) indexed (old t x h.active))
          (subst (λ b. IsShaped b x.changes x.phase) indexed (i.fit.txns t x h.active).shaped)
          (λ calm u.
          let number : u.transaction ≡ t = same_some (unfinished_held u) held in
          let one : u.txn ≡ x = same_some (sym (ap s.txns number) ∙ u.active) h.active in
          calm (subst (λ (y : Active). IsBusyWith y.changes y.phase r) one u.busy))

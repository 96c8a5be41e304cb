-- Each step of the builder and of the cleaner keeps the invariant.
use Rattle.std.proofs.Common.{Bool, None, Option, Some, ap, false, inl, inr, nat_eq, not, refl, subst, sym, true, true≢false, ℕ, ◌&&◌, ◌<◌, ◌||◌, ◌∙◌, ◌≡◌, ◌≢◌}
use Rattle.std.proofs.Common.{◌⊎◌}
use Rattle.std.specs.Cmp.Lexicographic.{nat_list_cmp_total}
use Rattle.std.specs.FinMap.{get, get-empty, nat_cmp-IsAntisymmetric, slice_cmp-IsAntisymmetric}
use Rattle.record_values.specs.Maps.{get-set_at_other, get-set_at_same, pair_exact, set_at}
use Rattle.record_values.specs.Orders.{pair_cmp, is_above}
use Rattle.record_values.specs.Values.{Place}
use Rattle.record_values.specs.declared.pair.Mark.{Mark}
use Rattle.record_values.specs.declared.pair.Mark.TheVariants.{Live, Marked}
use Rattle.record_values.specs.declared.pair.Pair.{Pair}
use Rattle.record_values.specs.declared.row.Row.{Row}
use Rattle.record_values.specs.KeyActions.{after_action}
use Rattle.model.specs.Table.{IsPairOf, Table}
use Rattle.record_values.specs.Entries.{Index}
use Rattle.record_values.specs.declared.key_action.KeyAction.TheVariants.{BuildPut}
use Rattle.model.specs.declared.life.Life.{Life}
use Rattle.model.specs.declared.life.Life.TheVariants.{Absent, Building, Complete}
use Rattle.core_model.proofs.Cells.{pair_decided}
use Rattle.core_model.proofs.Latest.{not_none, phase_kept, phase_same}
use Rattle.core_model.proofs.Orders.{above_trans, by_test, level, not_above}
use Rattle.core_model.specs.Changes.{pair_of}
use Rattle.core_model.specs.Invariants.{IsAhead, IsBacked, IsCoherent, IsHeld, IsPhaseOf, IsVisibleOrAhead, TxnHolds}
use Rattle.core_model.specs.States.{Active, State}
use Rattle.core_model.specs.Steps.{CanAttempt, CanClean, CanFinish, IsBuilding, IsPassed, attempted, created, dropped, is_indexed, is_pair_of}
use Rattle.core_model.specs.Steps.{page_taken}

-- the index is created, where it was absent and no transaction is active
module _ (s : State) (i : IsCoherent s) (absent : s.life ≡ Absent) (quiet : (t : ℕ) → s.txns t ≡ None) where
  created_held : (r : Place) (t : ℕ) → s.holder r ≡ Some t → IsHeld (created s) r t
  created_held r t e = absurd (not_none (i.held r t e).active (quiet t))

  created_txns : (t : ℕ) (x : Active) → s.txns t ≡ Some x → TxnHolds (created s) t x
  created_txns t x e = absurd (not_none e (quiet t))

  pub create_keeps : IsCoherent (created s)
  create_keeps = record {
    free = i.free;
    held = created_held;
    inside = i.inside;
    txns = created_txns;
    sound = i.sound;
    visible = λ r row e idle. inr (i.empty absent (pair_of r row), (refl, refl));
    empty = λ e p. i.empty absent p;
    backed = λ h e p g a. absurd (true≢false (sym g));
    behind = λ h e p a. subst (λ o. is_above o p ≡ true) (building_is e) refl;
  }
    where
      building_is : {h : Option Pair} → Building None ≡ Building h → None ≡ h
      building_is e = cc

-- the index is dropped, where no transaction is active
module _ (s : State) (i : IsCoherent s) (quiet : (t : ℕ) → s.txns t ≡ None) where
  dropped_held : (r : Place) (t : ℕ) → s.holder r ≡ Some t → IsHeld (dropped s) r t
  dropped_held r t e = absurd (not_none (i.held r t e).active (quiet t))

  dropped_txns : (t : ℕ) (x : Active) → s.txns t ≡ Some x → TxnHolds (dropped s) t x
  dropped_txns t x e = absurd (not_none e (quiet t))

  pub drop_keeps : IsCoherent (dropped s)
  drop_keeps = record {
    free = i.free;
    held = dropped_held;
    inside = i.inside;
    txns = dropped_txns;
    sound = λ p e. absurd (not_none e (get-empty pair_cmp p));
    visible = λ r row e idle. inr (get-empty pair_cmp (pair_of r row), tt);
    empty = λ e p. get-empty pair_cmp p;
    backed = λ h e p g a. absurd (true≢false (sym g));
    behind = λ h e p a. absurd (no_build e);
  }
    where
      no_build : {h : Option Pair} → Absent ≡ Building h → ⊥
      no_build e = cc

pub or_true : (a b : Bool) → (a || b) ≡ true → (a ≡ true) ⊎ (b ≡ true)
or_true true b e = inl refl
or_true false b e = inr e

pub and_right : (a b : Bool) → (a && b) ≡ true → b ≡ true
and_right true b e = e
and_right false b e = absurd (true≢false (sym e))

no_more : (a b c : Bool) → a ≡ false → c ≡ true → (a || (b && not c)) ≡ false
no_more a true c e f = rw (e, f) refl
no_more a false c e f = rw e refl

pub pair_by_test : (rows : Table) (p : Pair) (o : Option Row) → get rows p.rid ≡ o → is_pair_of o p ≡ true → IsPairOf rows p
pair_by_test rows p None e t = absurd (true≢false (sym t))
pair_by_test rows p (Some row) e t = record { row = row; is_there = e; has_key = by_test (slice_cmp-IsAntisymmetric nat_cmp-IsAntisymmetric) row.key p.key t }

test_by_pair : (r : Place) (row : Row) (o : Option Row) → o ≡ Some row → is_pair_of o (pair_of r row) ≡ true
test_by_pair r row o e = ap (λ v. is_pair_of v (pair_of r row)) e ∙ level nat_list_cmp_total row.key

-- the builder takes a page
module _ (s : State) (i : IsCoherent s) (n : ℕ) where
  page_held : (r : Place) (t : ℕ) → s.holder r ≡ Some t → IsHeld (page_taken s n) r t
  page_held r t e = let h : IsHeld s r t = i.held r t e in record { txn = h.txn; active = h.active; row = h.row; inside = h.inside }

  page_txns : (t : ℕ) (x : Active) → s.txns t ≡ Some x → TxnHolds (page_taken s n) t x
  page_txns t x e = let h : TxnHolds s t x = i.txns t x e in record { names = h.names; chained = h.chained; phase = h.phase }

  page_ahead : (r : Place) (row : Row) → get s.rows r ≡ Some row → (life : Life) → IsAhead life s.bound s.missed (pair_of r row)
      → IsAhead life s.bound (page_taken s n).missed (pair_of r row)
  page_ahead r row e Absent a = tt
  page_ahead r row e (Building h) a = (a.0, no_more (s.missed (pair_of r row)) (nat_eq r.page n) _ a.1 (test_by_pair r row (get s.rows r) e))
  page_ahead r row e Complete a = a

  page_visible : (r : Place) (row : Row) → get s.rows r ≡ Some row → IsVisibleOrAhead s (pair_of r row) → IsVisibleOrAhead (page_taken s n) (pair_of r row)
  page_visible r row e h = elim h [ inl live ↦ inl live | inr w ↦ inr (w.0, page_ahead r row e s.life w.1) ]

  page_backed : (h : Option Pair) → s.life ≡ Building h → (p : Pair) → (page_taken s n).given p ≡ true → is_above s.bound p ≡ true → IsBacked (page_taken s n) p
  page_backed h b p g a = elim (or_true (s.given p) _ g) [
    | inl before ↦ i.backed h b p before a
    | inr now ↦ inl (pair_by_test s.rows p (get s.rows p.rid) refl (and_right _ _ now))
  ]

  pub take_keeps : IsCoherent (page_taken s n)
  take_keeps = record {
    free = i.free;
    held = page_held;
    inside = i.inside;
    txns = page_txns;
    sound = i.sound;
    visible = λ r row e idle. page_visible r row e (i.visible r row e (λ h.
        idle (record { transaction = h.transaction; txn = h.txn; active = h.active; busy = h.busy })));
    empty = i.empty;
    backed = page_backed;
    behind = i.behind;
  }

-- the builder leaves an entry that is there
pub build_put_some : (mark : Mark) → after_action BuildPut (Some mark) ≡ Some mark
build_put_some Live = refl
build_put_some Marked = refl

-- the builder attempts a pair
module _ (s : State) (i : IsCoherent s) (p : Pair) (can : CanAttempt s p) where
  abbrev entries' : Index
  entries' = set_at s.entries p (after_action BuildPut (get s.entries p))

  attempt_here : get entries' p ≡ after_action BuildPut (get s.entries p)
  attempt_here = get-set_at_same pair_exact s.entries p (after_action BuildPut (get s.entries p))

  attempt_other : (q : Pair) → q ≢ p → get entries' q ≡ get s.entries q
  attempt_other q n = get-set_at_other pair_exact s.entries p (after_action BuildPut (get s.entries p)) q n

  -- what is there stays
  present_stays : (q : Pair) (mark : Mark) → get s.entries q ≡ Some mark → get entries' q ≡ Some mark
  present_stays q mark e = elim (pair_decided q p) [
    | inl same ↦ ap (get entries') same ∙ attempt_here ∙ ap (after_action BuildPut) (ap (get s.entries) (sym same) ∙ e) ∙ build_put_some mark
    | inr n ↦ attempt_other q n ∙ e
  ]

  placed_is : (q : Pair) (o : Option Mark) → get s.entries p ≡ o → after_action BuildPut o ≡ Some Live → q ≡ p → IsPairOf s.rows q
  placed_is q None e l same = elim (i.backed can.building.0 can.building.1 p can.given can.rising) [
    | inl is ↦ subst (IsPairOf s.rows) (sym same) is
    | inr some ↦ absurd (some e)
  ]
  placed_is q (Some mark) e l same = i.sound q (ap (get s.entries) same ∙ e ∙ sym (build_put_some mark) ∙ l)

  attempt_sound : (q : Pair) → get entries' q ≡ Some Live → IsPairOf s.rows q
  attempt_sound q e = elim (pair_decided q p) [
    | inl same ↦ placed_is q (get s.entries p) refl (sym attempt_here ∙ ap (get entries') (sym same) ∙ e) same
    | inr n ↦ i.sound q (sym (attempt_other q n) ∙ e)
  ]

  attempt_held : (r : Place) (t : ℕ) → s.holder r ≡ Some t → IsHeld (attempted s p) r t
  attempt_held r t e = let h : IsHeld s r t = i.held r t e in record { txn = h.txn; active = h.active; row = h.row; inside = h.inside }

  marked_stays : (q : Pair) → get s.entries q ≡ Some Marked → get entries' q ≡ Some Marked
  marked_stays q e = present_stays q Marked e

  attempt_txns : (t : ℕ) (x : Active) → s.txns t ≡ Some x → TxnHolds (attempted s p) t x
  attempt_txns t x e =
      let h : TxnHolds s t x = i.txns t x e in
      record {
        names = h.names;
        chained = h.chained;
        phase = phase_kept
            (is_indexed s.life) s.entries entries' marked_stays x.changes x.phase x.rolling h.phase;
      }

  not_building : {A : Type 0} (h : Option Pair) → s.life ≡ Absent → s.life ≡ Building h → A
  not_building h a b = absurd (true≢false (sym (ap is_indexed b) ∙ ap is_indexed a))

  -- a pair ahead of the builder is the one attempted, or stays ahead
  attempt_ahead : (q : Pair) → q.rid.page < s.pages → get s.entries q ≡ None → is_above s.bound q ≡ true → s.missed q ≡ false
      → IsVisibleOrAhead (attempted s p) q
  attempt_ahead q inside none a m = elim (pair_decided q p) [
    | inl same ↦ inl (ap (get entries') same ∙ attempt_here ∙ ap (after_action BuildPut) (ap (get s.entries) (sym same) ∙ none))
    | inr n ↦ inr (attempt_other q n ∙ none, subst (λ life. IsAhead life (Some p) s.missed q) (sym can.building.1) (later _ refl n, m))
  ]
    where
      later : (b : Bool) → is_above (Some p) q ≡ b → q ≢ p → is_above (Some p) q ≡ true
      later true e n = e
      later false e n = elim (not_above p q e) [
        | inl same ↦ absurd (n same)
        | inr below ↦ absurd (true≢false (sym (can.none_left q a below (can.all_taken q.rid.page inside)) ∙ m))
      ]

  attempt_visible : (r : Place) (row : Row) → get s.rows r ≡ Some row → IsVisibleOrAhead s (pair_of r row) → IsVisibleOrAhead (attempted s p) (pair_of r row)
  attempt_visible r row e h = elim h [
    | inl live ↦ inl (present_stays (pair_of r row) Live live)
    | inr w ↦
        let ahead : (is_above s.bound (pair_of r row) ≡ true)
        × (s.missed (pair_of r row) ≡ false) = subst (λ life. IsAhead life s.bound s.missed (pair_of r row)) can.building.1 w.1 in
        attempt_ahead (pair_of r row) (i.inside r row e) w.0 ahead.0 ahead.1
  ]

  attempt_backed : (h : Option Pair) → s.life ≡ Building h → (q : Pair) → s.given q ≡ true → is_above (Some p) q ≡ true → IsBacked (attempted s p) q
  attempt_backed h b q g a = elim (i.backed h b q g (above_trans s.bound p q can.rising a)) [
    | inl is ↦ inl is
    | inr some ↦ inr (λ e. some (still_none (get s.entries q) refl e))
  ]
    where
      still_none : (o : Option Mark) → get s.entries q ≡ o → get entries' q ≡ None → get s.entries q ≡ None
      still_none None k e = k
      still_none (Some mark) k e = absurd (not_none (present_stays q mark k) e)

  pub attempt_keeps : IsCoherent (attempted s p)
  attempt_keeps = record {
    free = i.free;
    held = attempt_held;
    inside = i.inside;
    txns = attempt_txns;
    sound = attempt_sound;
    visible = λ r row e idle. attempt_visible r row e (i.visible r row e (λ h.
        idle (record { transaction = h.transaction; txn = h.txn; active = h.active; busy = h.busy })));
    empty = λ e q. not_building can.building.0 e can.building.1;
    backed = attempt_backed;
    behind = λ h b q a. i.behind h b q (above_trans s.bound p q can.rising a);
  }

-- the builder's place is recorded
module _ (s : State) (i : IsCoherent s) (b : IsBuilding s.life) where
  abbrev recorded : State
  recorded = record s { life = Building s.bound }

  recorded_txns : (t : ℕ) (x : Active) → s.txns t ≡ Some x → TxnHolds recorded t x
  recorded_txns t x e =
      let h : TxnHolds s t x = i.txns t x e in
      record { names = h.names; chained = h.chained; phase = subst (λ life. IsPhaseOf (is_indexed life) s.entries x.changes x.phase x.rolling) b.1 h.phase }

  recorded_held : (r : Place) (t : ℕ) → s.holder r ≡ Some t → IsHeld recorded r t
  recorded_held r t e = let h : IsHeld s r t = i.held r t e in record { txn = h.txn; active = h.active; row = h.row; inside = h.inside }

  recorded_visible : (p : Pair) → IsVisibleOrAhead s p → IsVisibleOrAhead recorded p
  recorded_visible p h = elim h [ inl live ↦ inl live | inr w ↦ inr (w.0, subst (λ life. IsAhead life s.bound s.missed p) b.1 w.1) ]

  pub checkpoint_keeps : IsCoherent recorded
  checkpoint_keeps = record {
    free = i.free;
    held = recorded_held;
    inside = i.inside;
    txns = recorded_txns;
    sound = i.sound;
    visible = λ r row e idle. recorded_visible (pair_of r row)
        (i.visible r row e (λ h. idle (record { transaction = h.transaction; txn = h.txn; active = h.active; busy = h.busy })));
    empty = λ e p. absurd (true≢false (ap is_indexed e));
    backed = λ h e p g a. on_recorded p (i.backed b.0 b.1 p g a);
    behind = λ h e p a. subst (λ o. is_above o p ≡ true) (same_highest e) a;
  }
    where
      same_highest : {h : Option Pair} → Building s.bound ≡ Building h → s.bound ≡ h
      same_highest e = cc

      on_recorded : (p : Pair) → IsBacked s p → IsBacked recorded p
      on_recorded p h = elim h [ inl is ↦ inl is | inr some ↦ inr some ]

-- the index is complete
module _ (s : State) (i : IsCoherent s) (can : CanFinish s) where
  abbrev finished : State
  finished = record s { life = Complete }

  finished_txns : (t : ℕ) (x : Active) → s.txns t ≡ Some x → TxnHolds finished t x
  finished_txns t x e =
      let h : TxnHolds s t x = i.txns t x e in
      record {
        names = h.names;
        chained = h.chained;
        phase = subst (λ life.
            IsPhaseOf (is_indexed life) s.entries x.changes x.phase x.rolling) can.building.1 h.phase;
      }

  finished_held : (r : Place) (t : ℕ) → s.holder r ≡ Some t → IsHeld finished r t
  finished_held r t e = let h : IsHeld s r t = i.held r t e in record { txn = h.txn; active = h.active; row = h.row; inside = h.inside }

  finished_visible : (r : Place) (row : Row) → get s.rows r ≡ Some row → IsVisibleOrAhead s (pair_of r row) → IsVisibleOrAhead finished (pair_of r row)
  finished_visible r row e h = elim h [
    | inl live ↦ inl live
    | inr w ↦
        let ahead : (is_above s.bound (pair_of r row) ≡ true)
        × (s.missed (pair_of r row) ≡ false) = subst (λ life. IsAhead life s.bound s.missed (pair_of r row)) can.building.1 w.1 in
        absurd (true≢false (sym (can.none_left (pair_of r row) ahead.0 (can.all_taken r.page (i.inside r row e))) ∙ ahead.1))
  ]

  pub finish_keeps : IsCoherent finished
  finish_keeps = record {
    free = i.free;
    held = finished_held;
    inside = i.inside;
    txns = finished_txns;
    sound = i.sound;
    visible = λ r row e idle. finished_visible r row e
        (i.visible r row e (λ h. idle (record { transaction = h.transaction; txn = h.txn; active = h.active; busy = h.busy })));
    empty = λ e p. absurd (true≢false (ap is_indexed e));
    backed = λ h e p g a. absurd (cc);
    behind = λ h e p a. absurd (cc);
  }

-- the cleaner takes out a marked entry
module _ (s : State) (i : IsCoherent s) (p : Pair) (can : CanClean s p) where
  abbrev fewer : Index
  fewer = set_at s.entries p None

  abbrev cleaner : State
  cleaner = record s { entries = fewer; cleaned = Some p }

  clean_here : get fewer p ≡ None
  clean_here = get-set_at_same pair_exact s.entries p None

  clean_other : (q : Pair) → q ≢ p → get fewer q ≡ get s.entries q
  clean_other q n = get-set_at_other pair_exact s.entries p None q n

  clean_held : (r : Place) (t : ℕ) → s.holder r ≡ Some t → IsHeld cleaner r t
  clean_held r t e = let h : IsHeld s r t = i.held r t e in record { txn = h.txn; active = h.active; row = h.row; inside = h.inside }

  clean_txns : (t : ℕ) (x : Active) → s.txns t ≡ Some x → TxnHolds cleaner t x
  clean_txns t x e =
      let h : TxnHolds s t x = i.txns t x e in
      record {
        names = h.names;
        chained = h.chained;
        phase = phase_same (is_indexed s.life) s.holder t s.entries fewer (λ q k.
            clean_other q (λ same. not_none (ap (λ w. s.holder w.rid) (sym same) ∙ k) can.free)) x.changes x.phase x.rolling h.names h.phase;
      }

  clean_sound : (q : Pair) → get fewer q ≡ Some Live → IsPairOf s.rows q
  clean_sound q e = elim (pair_decided q p) [
    | inl same ↦ absurd (not_none e (ap (get fewer) same ∙ clean_here))
    | inr n ↦ i.sound q (sym (clean_other q n) ∙ e)
  ]

  -- a row that is not in hand has no marked entry
  clean_visible : (q : Pair) → IsVisibleOrAhead s q → IsVisibleOrAhead cleaner q
  clean_visible q h = elim (pair_decided q p) [
    | inl same ↦ absurd (unmarked same h)
    | inr n ↦ elim h [ inl live ↦ inl (clean_other q n ∙ live) | inr w ↦ inr (clean_other q n ∙ w.0, w.1) ]
  ]
    where
      unmarked : q ≡ p → IsVisibleOrAhead s q → ⊥
      unmarked same h =
          let marked : get s.entries q ≡ Some Marked = ap (get s.entries) same ∙ can.marked in
          elim h [ inl live ↦ absurd (two_marks live marked) | inr w ↦ absurd (not_none marked w.0) ]
        where
          two_marks : {o : Option Mark} → o ≡ Some Live → o ≡ Some Marked → ⊥
          two_marks a b = absurd (cc)

  passed_by : (life : Life) → s.life ≡ life → IsPassed life p → (h : Option Pair) → s.life ≡ Building h → is_above s.bound p ≡ true → ⊥
  passed_by Absent e k h b a = absurd k
  passed_by (Building o) e k h b a = true≢false (sym (i.behind o e p a) ∙ k)
  passed_by Complete e k h b a = absurd (apart_lives (sym e ∙ b))
    where
      apart_lives : Complete ≡ Building h → ⊥
      apart_lives e = absurd (cc)

  clean_backed : (h : Option Pair) → s.life ≡ Building h → (q : Pair) → s.given q ≡ true → is_above s.bound q ≡ true → IsBacked cleaner q
  clean_backed h b q g a = elim (pair_decided q p) [
    | inl same ↦ absurd (passed_by s.life refl can.passed h b (ap (is_above s.bound) (sym same) ∙ a))
    | inr n ↦ elim (i.backed h b q g a) [ inl is ↦ inl is | inr some ↦ inr (λ e. some (sym (clean_other q n) ∙ e)) ]
  ]

  clean_empty : s.life ≡ Absent → (q : Pair) → get fewer q ≡ None
  clean_empty e q = elim (pair_decided q p) [
    | inl same ↦ ap (get fewer) same ∙ clean_here
    | inr n ↦ clean_other q n ∙ i.empty e q
  ]

  pub clean_keeps : IsCoherent cleaner
  clean_keeps = record {
    free = i.free;
    held = clean_held;
    inside = i.inside;
    txns = clean_txns;
    sound = clean_sound;
    visible = λ r row e idle. clean_visible (pair_of r row)
        (i.visible r row e (λ h. idle (record { transaction = h.transaction; txn = h.txn; active = h.active; busy = h.busy })));
    empty = clean_empty;
    backed = clean_backed;
    behind = i.behind;
  }

-- the cleaner's place alone changes
module _ (s : State) (i : IsCoherent s) (place : Option Pair) where
  abbrev placed : State
  placed = record s { cleaned = place }

  pub place_keeps : IsCoherent placed
  place_keeps = record {
    free = i.free;
    held = λ r t e. let h : IsHeld s r t = i.held r t e in record { txn = h.txn; active = h.active; row = h.row; inside = h.inside };
    inside = i.inside;
    txns = λ t x e. let h : TxnHolds s t x = i.txns t x e in record { names = h.names; chained = h.chained; phase = h.phase };
    sound = i.sound;
    visible = λ r row e idle. i.visible r row e (λ h. idle (record { transaction = h.transaction; txn = h.txn; active = h.active; busy = h.busy }));
    empty = i.empty;
    backed = i.backed;
    behind = i.behind;
  }

-- Each step of a transaction keeps the invariant.
use Rattle.std.proofs.Common.{Bool, List, None, Option, Some, [], ap, cond, false, inl, inr, refl, subst, sym, true, ℕ, ◌++◌, ◌<◌, ◌∙◌, ◌∷◌, ◌≡◌, ◌≢◌, ◌⊎◌}
use Rattle.std.specs.Cmp.{nat_cmp_total}
use Rattle.std.specs.Cmp.Lexicographic.{nat_list_cmp_total}
use Rattle.std.specs.FinMap.{entries, get, nat_cmp-IsAntisymmetric}
use Rattle.std.specs.Ordering.{eq_by_cmp, nat_cmp}
use Rattle.records.specs.ChangeValue.{ChangeValue}
use Rattle.record_values.specs.Maps.{get-set_at, get-set_at_same, pair_exact, rid_exact, set_at}
use Rattle.record_values.specs.Orders.{rid_cmp, rid_cmp-IsAntisymmetric, rid_cmp_total}
use Rattle.records.specs.Spelling.{new_row, old_row}
use Rattle.record_values.specs.Values.{Place}
use Rattle.record_values.specs.declared.pair.Mark.TheVariants.{Live, Marked}
use Rattle.record_values.specs.declared.pair.Pair.{Pair}
use Rattle.record_values.specs.declared.row.Row.{Row}
use Rattle.model.specs.Committed.{writes_of}
use Rattle.model.specs.Table.{Table, applied}
use Rattle.record_values.specs.Entries.{Index}
use Rattle.model.specs.declared.life.Life.{Life}
use Rattle.model.specs.declared.life.Life.TheVariants.{Absent, Building, Complete}
use Rattle.model.specs.declared.write.Write.{Write}
use Rattle.core_model.proofs.Cells.{Ends, Replaced, mark_step, put_step, row_step}
use Rattle.core_model.proofs.Frames.{moved, nat_decided, rid_decided, same_some, txn_apart, txn_here}
use Rattle.core_model.proofs.Latest.{Gone, Stays, chained_same, gone_is, holds_more, latest_here, latest_other, latest_unnamed, not_none, stays}
use Rattle.core_model.proofs.Orders.{apart, level, update_apart, update_here, update_twice}
use Rattle.core_model.specs.Changes.{Changes, Unchanged, gone, latest, as_list, new_pair, old_pair, pair_of, same_key, ◌▹◌}
use Rattle.core_model.specs.Histories.{write_of}
use Rattle.core_model.specs.Invariants.{HasPair, IsAhead, IsBusyWith, IsChained, IsCoherent, IsHeld, IsHolderOf, IsInPhase, IsPhaseOf, IsUnfinished}
use Rattle.core_model.specs.Invariants.{IsVisibleOrAhead, TxnHolds, applied_of, made_of}
use Rattle.core_model.specs.States.{Active, Made, NewMarked, OldMarked, OldSet, Phase, RowSet, State}
use Rattle.core_model.specs.Steps.{IsReady, carried_on, freed, is_applied, is_indexed, left, new_txn, row_made, row_undone, started, undone, undone_first}
use Rattle.core_model.specs.Steps.{undone_row, update, with_change, with_entry, with_txn, without_newest}

all_applied : (cs : Changes) → applied_of cs true ≡ cs
all_applied Unchanged = refl
all_applied (older ▹ c) = refl

made_phase : (indexed : Bool) (entries : Index) (cs : Changes) (rolling : Bool) → IsPhaseOf indexed entries cs Made rolling
made_phase indexed entries Unchanged rolling = refl
made_phase indexed entries (older ▹ c) rolling = tt

-- a row that stays by one name stays by the other
both_stay : (a b : Row) → a.key ≡ b.key → same_key a b ≡ true
both_stay a b e = ap (λ k. same_key a (record { key = k; body = b.body })) (sym e) ∙ same_key_level a
  where
    same_key_level : (a : Row) → same_key a a ≡ true
    same_key_level a = level nat_list_cmp_total a.key

-- where a pair goes and none comes, no row comes
one_way : (indexed : Bool) (r : Place) (a b : Option Row) (p : Pair) → gone indexed r a b ≡ Some p → gone indexed r b a ≡ None → b ≡ None
one_way false r a b p e n = absurd (not_none e refl)
one_way true r None b p e n = absurd (not_none e refl)
one_way true r (Some x) None p e n = refl
one_way true r (Some x) (Some y) p e n =
    let stay : Stays y (Some x) = stays r y (Some x) n in
    let key : x.key ≡ y.key = ap (λ w. w.key) (same_some refl stay.is) ∙ stay.key in
    absurd (not_none e (rw (both_stay x y key) refl))

-- a busy row is held by the transaction that is busy with it
named_by : (holder : Place → Option ℕ) (t : ℕ) (cs : Changes) (phase : Phase) (r : Place) → IsHolderOf holder t cs → IsBusyWith cs phase r → holder r ≡ Some t
named_by holder t Unchanged phase r h b = absurd b
named_by holder t (older ▹ c) phase r h b = ap holder (sym b.0) ∙ h.0

busy_phase : (cs : Changes) (phase : Phase) (r : Place) → IsBusyWith cs phase r → phase ≢ Made
busy_phase Unchanged phase r b = absurd b
busy_phase (older ▹ c) phase r b = b.1

unfinished_by : (s : State) → IsCoherent s → (r : Place) (h : IsUnfinished s r) → s.holder r ≡ Some h.transaction
unfinished_by s i r h = named_by s.holder h.transaction h.txn.changes h.txn.phase r (i.txns h.transaction h.txn h.active).names h.busy

-- a row whose holder is through with its change is not in hand
pub not_unfinished : (s : State) → IsCoherent s → (r : Place) (t : ℕ) (x : Active) → s.txns t ≡ Some x → x.phase ≡ Made
    → ((u : ℕ) → s.holder r ≡ Some u → u ≡ t) → IsUnfinished s r → ⊥
not_unfinished s i r t x active made mine h =
    let who : h.transaction ≡ t = mine h.transaction (unfinished_by s i r h) in
    let is : h.txn ≡ x = same_some h.active (ap s.txns who ∙ active) in
    busy_phase h.txn.changes h.txn.phase r h.busy (ap (λ y. y.phase) is ∙ made)

replaced_or : (s : State) (r : Place) (row : Row) (v : Option Row) (life : Life) → s.life ≡ life → gone (is_indexed life) r (Some row) v ≡ None
    → (s.life ≡ Absent) ⊎ Stays row v
replaced_or s r row v Absent e g = inl e
replaced_or s r row v (Building h) e g = inr (stays r row v g)
replaced_or s r row v Complete e g = inr (stays r row v g)

stays_or : (s : State) (r : Place) (row : Row) (v : Option Row) → gone (is_indexed s.life) r (Some row) v ≡ None → (s.life ≡ Absent) ⊎ Stays row v
stays_or s r row v g = replaced_or s r row v s.life refl g

no_index_visible : (s : State) → IsCoherent s → (p : Pair) → s.life ≡ Absent → IsVisibleOrAhead s p
no_index_visible s i p e = inr (i.empty e p, subst (λ life. IsAhead life s.bound s.missed p) (sym e) tt)

-- the row had this key before, and was visible
visible_before : (s : State) → IsCoherent s → (r : Place) (row : Row) (v : Option Row) → get s.rows r ≡ v → (IsUnfinished s r → ⊥) → (s.life ≡ Absent)
    ⊎ Stays row v → IsVisibleOrAhead s (pair_of r row)
visible_before s i r row v at idle (inl e) = no_index_visible s i (pair_of r row) e
visible_before s i r row v at idle (inr stay) =
    subst (λ k. IsVisibleOrAhead s (record { key = k; rid = r })) stay.key (i.visible r stay.it (at ∙ stay.is) idle)

replace_stays : (s : State) (r : Place) (row : Row) (v : Option Row) → (s.life ≡ Absent) ⊎ Stays row v → Replaced s r row v
unfolding Replaced
replace_stays s r row v (inl e) = inl e
replace_stays s r row v (inr stay) = inr (inl stay)

replace_marked : (s : State) (r : Place) (row : Row) (v : Option Row) → get s.entries (pair_of r row) ≡ Some Marked → Replaced s r row v
unfolding Replaced
replace_marked s r row v e = inr (inr e)

made_applied : (x : Active) → x.phase ≡ Made → made_of x ≡ x.changes
made_applied x e = ap (λ phase. applied_of x.changes (is_applied phase)) e ∙ all_applied x.changes

-- ---- the first step of a change
module _ (s : State) (i : IsCoherent s) (t : ℕ) (x : Active) (c : ChangeValue) (active : s.txns t ≡ Some x) (ready : IsReady x)
    (before : get s.rows c.rid ≡ (old_row c.rows)) (free : (s.holder c.rid ≡ None) ⊎ (s.holder c.rid ≡ Some t)) (inside : c.rid.page < s.pages) where
  indexed : Bool
  indexed = is_indexed s.life

  abbrev holder' : Place → Option ℕ
  holder' = update rid_cmp s.holder c.rid (Some t)

  old : TxnHolds s t x
  old = i.txns t x active

  mine : (u : ℕ) → s.holder c.rid ≡ Some u → u ≡ t
  mine u e = elim free [ inl none ↦ absurd (not_none e none) | inr held ↦ same_some e held ]

  kept : (q : Place) → s.holder q ≡ Some t → holder' q ≡ Some t
  kept q e = elim (rid_decided q c.rid) [
    | inl same ↦ ap holder' same ∙ update_here rid_cmp_total s.holder c.rid (Some t)
    | inr n ↦ update_apart rid_cmp-IsAntisymmetric s.holder c.rid (Some t) q n ∙ e
  ]

  started_from : (old_row c.rows) ≡ latest x.changes c.rid (get s.committed c.rid)
  started_from = elim free [
    | inl none ↦ sym before ∙ i.free c.rid none ∙ sym (latest_unnamed s.holder t x.changes c.rid (get s.committed c.rid) old.names (λ e. not_none e none))
    | inr held ↦
        let h : IsHeld s c.rid t = i.held c.rid t held in
        sym before ∙ h.row ∙ ap (λ y. latest (made_of y) c.rid (get s.committed c.rid)) (same_some h.active active)
        ∙ ap (λ cs. latest cs c.rid (get s.committed c.rid)) (made_applied x ready.0)
  ]

  start_ends : (phase : Phase) → ((q : Place) (v : Option Row) → q ≢ c.rid → latest (made_of (with_change x c phase)) q v ≡ latest x.changes q v)
      → Ends s holder' c.rid t x (with_change x c phase)
  start_ends phase same = record {
    holder = λ q n. update_apart rid_cmp-IsAntisymmetric s.holder c.rid (Some t) q n;
    was = active;
    mine = mine;
    held = update_here rid_cmp_total s.holder c.rid (Some t);
    idle = λ q n b. busy_phase x.changes x.phase q b ready.0;
    latest = λ q v n. same q v n ∙ ap (λ cs. latest cs q v) (sym (made_applied x ready.0));
    inside = inside;
    names = (update_here rid_cmp_total s.holder c.rid (Some t), holds_more s.holder holder' t kept x.changes old.names);
    chained = (started_from, old.chained);
  }

  start_marked : (p : Pair) → old_pair (is_indexed s.life) c ≡ Some p → IsCoherent (started s t x c (Some p))
  start_marked p e =
      let g : Gone (is_indexed s.life) c.rid (old_row c.rows) p = gone_is _ c.rid (old_row c.rows) (new_row c.rows) p e in
      mark_step s holder' c.rid t x (with_change x c OldMarked) i (start_ends OldMarked (λ q v n. refl)) p (ap (λ w. w.rid) g.pair) g.there (before
      ∙ started_from)
      (record { it = p; is = e; holds = λ k. get-set_at_same pair_exact s.entries p (Some Marked) })
      (refl, λ k. absurd (cc))

  row_set_phase : (new : Option Pair) → new_pair (is_indexed s.life) c ≡ new → IsInPhase (is_indexed s.life) s.entries c (row_made new) x.rolling
  row_set_phase None e = tt
  row_set_phase (Some p) e = record { it = p; is = e; holds = tt }

  start_latest : (new : Option Pair) (q : Place) (v : Option Row) → q ≢ c.rid → latest (made_of (with_change x c (row_made new))) q v ≡ latest x.changes q v
  start_latest None q v n = latest_other c x.changes q v n
  start_latest (Some p) q v n = latest_other c x.changes q v n

  start_here : (new : Option Pair) (v : Option Row) → latest (made_of (with_change x c (row_made new))) c.rid v ≡ (new_row c.rows)
  start_here None v = latest_here c x.changes v
  start_here (Some p) v = latest_here c x.changes v

  start_visible : (new : Option Pair) → new_pair (is_indexed s.life) c ≡ new → (row : Row) → (new_row c.rows) ≡ Some row
      → (IsUnfinished (moved s (set_at s.rows c.rid (new_row c.rows)) s.entries holder' c.rid t x (with_change x c (row_made new))) c.rid → ⊥)
      → IsVisibleOrAhead s (pair_of c.rid row)
  start_visible None e row at idle =
      visible_before s i c.rid row (old_row c.rows) before (not_unfinished s i c.rid t x active ready.0 mine)
      (stays_or s c.rid row (old_row c.rows) (ap (λ v. gone (is_indexed s.life) c.rid v (old_row c.rows)) (sym at) ∙ e))
  start_visible (Some p) e row at idle =
      absurd (idle (record { transaction = t; txn = with_change x c RowSet; active = txn_here s t (with_change x c RowSet); busy = (refl, λ k. absurd (cc)) }))

  start_replaced : old_pair (is_indexed s.life) c ≡ None → (row : Row) → get s.rows c.rid ≡ Some row → Replaced s c.rid row (new_row c.rows)
  start_replaced e row at = replace_stays s c.rid row (new_row c.rows)
      (stays_or s c.rid row (new_row c.rows) (ap (λ v. gone (is_indexed s.life) c.rid v (new_row c.rows)) (sym at ∙ before) ∙ e))

  start_set : (new : Option Pair) → new_pair (is_indexed s.life) c ≡ new → old_pair (is_indexed s.life) c ≡ None
      → IsCoherent (moved s (set_at s.rows c.rid (new_row c.rows)) s.entries holder' c.rid t x (with_change x c (row_made new)))
  start_set new e none = row_step s holder' c.rid t x (with_change x c (row_made new)) i (start_ends (row_made new) (start_latest new)) (new_row c.rows)
      (row_set_phase new e) (start_replaced none)
      (sym (start_here new (get s.committed c.rid))) (start_visible new e)

  pub start_keeps : (o : Option Pair) → old_pair (is_indexed s.life) c ≡ o → IsCoherent (started s t x c o)
  start_keeps (Some p) e = start_marked p e
  start_keeps None e = start_set _ refl e

-- ---- the steps that a change owes, and those that take it back
module _ (s : State) (i : IsCoherent s) (t : ℕ) (c : ChangeValue) (older : Changes) (phase : Phase) (rolling : Bool)
    (active : s.txns t ≡ Some (record { changes = older ▹ c; phase = phase; rolling = rolling })) where
  abbrev x : Active
  x = record { changes = older ▹ c; phase = phase; rolling = rolling }

  was : TxnHolds s t x
  was = i.txns t x active

  held : s.holder c.rid ≡ Some t
  held = was.names.0

  row_now : get s.rows c.rid ≡ latest (made_of x) c.rid (get s.committed c.rid)
  row_now =
      let h : IsHeld s c.rid t = i.held c.rid t held in
      h.row ∙ ap (λ y. latest (made_of y) c.rid (get s.committed c.rid)) (same_some h.active active)

  row_inside : c.rid.page < s.pages
  row_inside = (i.held c.rid t held).inside

  busy_here : (q : Place) → q ≢ c.rid → IsBusyWith x.changes x.phase q → ⊥
  busy_here q n b = n (sym b.0)

  latest_applied : (b : Bool) (q : Place) (v : Option Row) → q ≢ c.rid → latest (applied_of (older ▹ c) b) q v ≡ latest older q v
  latest_applied true q v n = latest_other c older q v n
  latest_applied false q v n = refl

  on_ends : (x' : Active) → ((q : Place) (v : Option Row) → q ≢ c.rid → latest (made_of x') q v ≡ latest older q v) → IsHolderOf s.holder t x'.changes
      → IsChained s.committed x'.changes → Ends s s.holder c.rid t x x'
  on_ends x' same names chained = record {
    holder = λ q n. refl;
    was = active;
    mine = λ u e. same_some e held;
    held = held;
    idle = busy_here;
    latest = λ q v n. same q v n ∙ sym (latest_applied (is_applied phase) q v n);
    inside = row_inside;
    names = names;
    chained = chained;
  }

  -- the same change, in another phase
  phase_ends : (next : Phase) (b : Bool) → Ends s s.holder c.rid t x (record { changes = older ▹ c; phase = next; rolling = b })
  phase_ends next b = on_ends (record { changes = older ▹ c; phase = next; rolling = b }) (latest_applied (is_applied next)) was.names was.chained

  older_latest : (q : Place) (v : Option Row) → latest (made_of (without_newest older)) q v ≡ latest older q v
  older_latest q v = ap (λ cs. latest cs q v) (all_applied older)

  popped_ends : Ends s s.holder c.rid t x (without_newest older)
  popped_ends = on_ends (without_newest older) (λ q v n. older_latest q v) was.names.1 was.chained.1

  abbrev in_phase : Phase → Bool → Active
  in_phase next b = record { changes = older ▹ c; phase = next; rolling = b }

  not_owing : (p : Pair) → new_pair (is_indexed s.life) c ≡ Some p → Gone (is_indexed s.life) c.rid (new_row c.rows) p
  not_owing p e = gone_is _ c.rid (new_row c.rows) (old_row c.rows) p e

  -- the row is set
  row_phase : (new : Option Pair) → new_pair (is_indexed s.life) c ≡ new → IsInPhase (is_indexed s.life) s.entries c (row_made new) rolling
  row_phase None e = tt
  row_phase (Some p) e = record { it = p; is = e; holds = tt }

  row_latest : (new : Option Pair) (v : Option Row) → (new_row c.rows) ≡ latest (made_of (in_phase (row_made new) rolling)) c.rid v
  row_latest None v = sym (latest_here c older v)
  row_latest (Some p) v = sym (latest_here c older v)

  row_visible : (new : Option Pair) (p : Pair) → old_pair (is_indexed s.life) c ≡ Some p → new_pair (is_indexed s.life) c ≡ new → (row : Row)
      → (new_row c.rows) ≡ Some row
      → (IsUnfinished (moved s (set_at s.rows c.rid (new_row c.rows)) s.entries s.holder c.rid t x (in_phase (row_made new) rolling)) c.rid → ⊥)
      → IsVisibleOrAhead s (pair_of c.rid row)
  row_visible None p o e row at idle = absurd (not_none at (one_way (is_indexed s.life) c.rid (old_row c.rows) (new_row c.rows) p o e))
  row_visible (Some q) p o e row at idle =
      absurd (idle (record {
        transaction = t;
        txn = in_phase RowSet rolling;
        active = txn_here s t (in_phase RowSet rolling);
        busy = (refl, λ k. absurd (cc));
      }))

  owed_row : phase ≡ OldMarked → rolling ≡ false → (h : HasPair (old_pair (is_indexed s.life) c) (λ p. rolling ≡ false → get s.entries p ≡ Some Marked))
      → (new : Option Pair) → new_pair (is_indexed s.life) c ≡ new
      → IsCoherent (moved s (set_at s.rows c.rid (new_row c.rows)) s.entries s.holder c.rid t x (in_phase (row_made new) rolling))
  owed_row e forward h new n =
      let g : Gone (is_indexed s.life) c.rid (old_row c.rows) h.it = gone_is _ c.rid (old_row c.rows) (new_row c.rows) h.it h.is in
      let row : get s.rows c.rid ≡ (old_row c.rows) = row_now ∙ ap (λ ph. latest (applied_of (older ▹ c) (is_applied ph)) c.rid (get s.committed c.rid)) e
      ∙ sym was.chained.0 in
      row_step s s.holder c.rid t x (in_phase (row_made new) rolling) i (phase_ends (row_made new) rolling) (new_row c.rows) (row_phase new n)
      (λ of at. replace_marked s c.rid of (new_row c.rows) (ap (get s.entries) (ap (pair_of c.rid) (same_some (sym row ∙ at) g.is) ∙ sym g.pair)
      ∙ h.holds forward))
      (row_latest new (get s.committed c.rid)) (row_visible new h.it h.is n)

  -- the new pair is put
  owed_put : is_applied phase ≡ true → (p : Pair) → new_pair (is_indexed s.life) c ≡ Some p
      → IsCoherent (moved s s.rows (set_at s.entries p (Some Live)) s.holder c.rid t x (in_phase Made rolling))
  owed_put e p n =
      let g : Gone (is_indexed s.life) c.rid (new_row c.rows) p = not_owing p n in
      let row : get s.rows c.rid ≡ latest (older ▹ c) c.rid (get s.committed c.rid) = row_now
      ∙ ap (λ b. latest (applied_of (older ▹ c) b) c.rid (get s.committed c.rid)) e in
      put_step s s.holder c.rid t x (in_phase Made rolling) i (phase_ends Made rolling) p (ap (λ w. w.rid) g.pair) g.there row
      g.of (row ∙ latest_here c older (get s.committed c.rid) ∙ g.is) (sym g.pair) tt

  -- the new pair is marked, as the undo begins
  undo_mark : (p : Pair) → new_pair (is_indexed s.life) c ≡ Some p
      → IsCoherent (moved s s.rows (set_at s.entries p (Some Marked)) s.holder c.rid t x (in_phase (NewMarked (is_applied phase)) true))
  undo_mark p n =
      let g : Gone (is_indexed s.life) c.rid (new_row c.rows) p = not_owing p n in
      mark_step s s.holder c.rid t x (in_phase (NewMarked (is_applied phase)) true) i (phase_ends (NewMarked (is_applied phase)) true) p
      (ap (λ w. w.rid) g.pair) g.there row_now
      (record { it = p; is = n; holds = get-set_at_same pair_exact s.entries p (Some Marked) })
      (refl, λ k. absurd (cc))

  -- the old row is set
  undo_ends : (old : Option Pair) → Ends s s.holder c.rid t x (row_undone x older old)
  undo_ends None = popped_ends
  undo_ends (Some p) = phase_ends OldSet true

  undo_phase : (old : Option Pair) → old_pair (is_indexed s.life) c ≡ old
      → IsPhaseOf (is_indexed s.life) s.entries (row_undone x older old).changes (row_undone x older old).phase (row_undone x older old).rolling
  undo_phase None e = made_phase (is_indexed s.life) s.entries older true
  undo_phase (Some p) e = record { it = p; is = e; holds = tt }

  undo_latest : (old : Option Pair) → (old_row c.rows) ≡ latest (made_of (row_undone x older old)) c.rid (get s.committed c.rid)
  undo_latest None = was.chained.0 ∙ sym (older_latest c.rid (get s.committed c.rid))
  undo_latest (Some p) = was.chained.0

  undo_visible : (old : Option Pair) → old_pair (is_indexed s.life) c ≡ old
      → ((row : Row) → (old_row c.rows) ≡ Some row → old_pair (is_indexed s.life) c ≡ None → phase ≡ Made) → (row : Row) → (old_row c.rows) ≡ Some row
      → (IsUnfinished (moved s (set_at s.rows c.rid (old_row c.rows)) s.entries s.holder c.rid t x (row_undone x older old)) c.rid → ⊥)
      → IsVisibleOrAhead s (pair_of c.rid row)
  undo_visible None e quiet row at idle =
      let made : phase ≡ Made = quiet row at e in
      let after : get s.rows c.rid ≡ (new_row c.rows) = row_now ∙ ap (λ ph. latest (applied_of (older ▹ c) (is_applied ph)) c.rid (get s.committed c.rid)) made
      ∙ latest_here c older (get s.committed c.rid) in
      visible_before s i c.rid row (new_row c.rows) after (not_unfinished s i c.rid t x active made (λ u k. same_some k held))
      (stays_or s c.rid row (new_row c.rows) (ap (λ v. gone (is_indexed s.life) c.rid v (new_row c.rows)) (sym at) ∙ e))
  undo_visible (Some p) e quiet row at idle =
      absurd (idle (record { transaction = t; txn = in_phase OldSet true; active = txn_here s t (in_phase OldSet true); busy = (refl, λ k. absurd (cc)) }))

  undo_replaced : (b : Bool) → is_applied phase ≡ b → ((row : Row) → (new_row c.rows) ≡ Some row → Replaced s c.rid row (old_row c.rows)) → (row : Row)
      → get s.rows c.rid ≡ Some row → Replaced s c.rid row (old_row c.rows)
  undo_replaced true e new row at =
      new row (sym (latest_here c older (get s.committed c.rid)) ∙ sym (row_now ∙ ap (λ b. latest (applied_of (older ▹ c) b) c.rid (get s.committed c.rid)) e)
      ∙ at)
  undo_replaced false e new row at =
      let before : (old_row c.rows) ≡ Some row = was.chained.0 ∙ sym (row_now ∙ ap (λ b. latest (applied_of (older ▹ c) b) c.rid (get s.committed c.rid)) e)
      ∙ at in
      replace_stays s c.rid row (old_row c.rows) (inr (record { it = row; is = before; key = refl }))

  undo_row_by : (old : Option Pair) → old_pair (is_indexed s.life) c ≡ old → ((row : Row) → (new_row c.rows) ≡ Some row → Replaced s c.rid row (old_row c.rows))
      → ((row : Row) → (old_row c.rows) ≡ Some row → old_pair (is_indexed s.life) c ≡ None → phase ≡ Made)
      → IsCoherent (moved s (set_at s.rows c.rid (old_row c.rows)) s.entries s.holder c.rid t x (row_undone x older old))
  undo_row_by old e new quiet =
      row_step s s.holder c.rid t x (row_undone x older old) i (undo_ends old) (old_row c.rows) (undo_phase old e) (undo_replaced _ refl new) (undo_latest old)
      (undo_visible old e quiet)

  undo_row : ((row : Row) → (new_row c.rows) ≡ Some row → Replaced s c.rid row (old_row c.rows))
      → ((row : Row) → (old_row c.rows) ≡ Some row → old_pair (is_indexed s.life) c ≡ None → phase ≡ Made) → IsCoherent (undone_row s t x c older)
  undo_row new quiet = undo_row_by _ refl new quiet

  -- the old pair is put
  undo_put : is_applied phase ≡ false → (p : Pair) → old_pair (is_indexed s.life) c ≡ Some p
      → IsCoherent (moved s s.rows (set_at s.entries p (Some Live)) s.holder c.rid t x (without_newest older))
  undo_put e p n =
      let g : Gone (is_indexed s.life) c.rid (old_row c.rows) p = gone_is _ c.rid (old_row c.rows) (new_row c.rows) p n in
      let row : get s.rows c.rid ≡ latest older c.rid (get s.committed c.rid) = row_now
      ∙ ap (λ b. latest (applied_of (older ▹ c) b) c.rid (get s.committed c.rid)) e in
      put_step s s.holder c.rid t x (without_newest older) i popped_ends p (ap (λ w. w.rid) g.pair) g.there (row
      ∙ sym (older_latest c.rid (get s.committed c.rid)))
      g.of (row ∙ sym was.chained.0 ∙ g.is) (sym g.pair) (made_phase (is_indexed s.life) _ older true)

  -- with no new pair: what the change made of the row has the key of what it was
  no_new : new_pair (is_indexed s.life) c ≡ None → (row : Row) → (new_row c.rows) ≡ Some row → Replaced s c.rid row (old_row c.rows)
  no_new e row at = replace_stays s c.rid row (old_row c.rows)
      (stays_or s c.rid row (old_row c.rows) (ap (λ v. gone (is_indexed s.life) c.rid v (old_row c.rows)) (sym at) ∙ e))

  new_marked : (h : HasPair (new_pair (is_indexed s.life) c) (λ p. get s.entries p ≡ Some Marked)) → (row : Row) → (new_row c.rows) ≡ Some row
      → Replaced s c.rid row (old_row c.rows)
  new_marked h row at =
      let g : Gone (is_indexed s.life) c.rid (new_row c.rows) h.it = not_owing h.it h.is in
      replace_marked s c.rid row (old_row c.rows) (ap (get s.entries) (ap (pair_of c.rid) (same_some at g.is) ∙ sym g.pair) ∙ h.holds)

  -- with no old pair but a new one there was no row
  none_before : (p : Pair) → new_pair (is_indexed s.life) c ≡ Some p → (row : Row) → (old_row c.rows) ≡ Some row → old_pair (is_indexed s.life) c ≡ None
      → phase ≡ Made
  none_before p n row at o = absurd (not_none at (one_way (is_indexed s.life) c.rid (new_row c.rows) (old_row c.rows) p n o))

  pub undo_first : (o : Option Pair) → new_pair (is_indexed s.life) c ≡ o
      → ((row : Row) → (old_row c.rows) ≡ Some row → old_pair (is_indexed s.life) c ≡ None → phase ≡ Made)
      → IsCoherent (undone_first s t x c older (is_applied phase) o)
  undo_first (Some p) e quiet = undo_mark p e
  undo_first None e quiet = undo_row (no_new e) quiet

next_put : (s : State) (i : IsCoherent s) (t : ℕ) (c : ChangeValue) (older : Changes) (rolling : Bool)
    (active : s.txns t ≡ Some (record { changes = older ▹ c; phase = RowSet; rolling = rolling }))
    → HasPair (new_pair (is_indexed s.life) c) (λ p. Unit {0}) → (new : Option Pair) → new_pair (is_indexed s.life) c ≡ new
    → IsCoherent (record s { entries = with_entry s.entries new Live; txns = with_txn s t (record { changes = older ▹ c; phase = Made; rolling = rolling }) })
next_put s i t c older rolling active h None e = absurd (not_none h.is e)
next_put s i t c older rolling active h (Some p) e = owed_put s i t c older RowSet rolling active refl p e

next_by : (s : State) (i : IsCoherent s) (t : ℕ) (cs : Changes) (phase : Phase) (rolling : Bool)
    → s.txns t ≡ Some (record { changes = cs; phase = phase; rolling = rolling }) → rolling ≡ false
    → IsCoherent (carried_on s t (record { changes = cs; phase = phase; rolling = rolling }) cs phase)
next_by s i t Unchanged phase rolling active forward = i
next_by s i t (older ▹ c) OldMarked rolling active forward = owed_row s i t c older OldMarked rolling active refl forward (i.txns t _ active).phase _ refl
next_by s i t (older ▹ c) RowSet rolling active forward = next_put s i t c older rolling active (i.txns t _ active).phase _ refl
next_by s i t (older ▹ c) Made rolling active forward = i
next_by s i t (older ▹ c) (NewMarked b) rolling active forward = i
next_by s i t (older ▹ c) OldSet rolling active forward = i

pub next_keeps : (s : State) → IsCoherent s → (t : ℕ) (x : Active) → s.txns t ≡ Some x → x.rolling ≡ false → IsCoherent (carried_on s t x x.changes x.phase)
next_keeps s i t x active forward = next_by s i t x.changes x.phase x.rolling active forward

-- a transaction is replaced by one that stands for the same rows
module _ (s : State) (i : IsCoherent s) (t : ℕ) (x' : Active) (rows : (r : Place) → s.holder r ≡ Some t
    → get s.rows r ≡ latest (made_of x') r (get s.committed r))
    (busy : (r : Place) (h : IsUnfinished s r) → h.transaction ≡ t → IsBusyWith x'.changes x'.phase r) (holds : TxnHolds s t x') where
  abbrev redone : State
  redone = record s { txns = with_txn s t x' }

  redone_held : (r : Place) (u : ℕ) → s.holder r ≡ Some u → IsHeld redone r u
  redone_held r u e =
      let h : IsHeld s r u = i.held r u e in
      elim (nat_decided u t) [
        | inl same ↦ record { txn = x'; active = ap (with_txn s t x') same ∙ txn_here s t x'; row = rows r (e ∙ ap Some same); inside = h.inside }
        | inr n ↦ record { txn = h.txn; active = txn_apart s t x' u n ∙ h.active; row = h.row; inside = h.inside }
      ]

  on_redone : (u : ℕ) (y : Active) → TxnHolds s u y → TxnHolds redone u y
  on_redone u y h = record { names = h.names; chained = h.chained; phase = h.phase }

  redone_txns : (u : ℕ) (y : Active) → with_txn s t x' u ≡ Some y → TxnHolds redone u y
  redone_txns u y e = elim (nat_decided u t) [
    | inl same ↦
        let is : x' ≡ y = same_some (txn_here s t x') (ap (with_txn s t x') (sym same) ∙ e) in
        subst (λ w. TxnHolds redone u w) is (subst (λ w. TxnHolds redone w x') (sym same) (on_redone t x' holds))
    | inr n ↦ on_redone u y (i.txns u y (sym (txn_apart s t x' u n) ∙ e))
  ]

  redone_unfinished : (r : Place) → IsUnfinished s r → IsUnfinished redone r
  redone_unfinished r h = elim (nat_decided h.transaction t) [
    | inl same ↦ record { transaction = t; txn = x'; active = txn_here s t x'; busy = busy r h same }
    | inr n ↦ record { transaction = h.transaction; txn = h.txn; active = txn_apart s t x' h.transaction n ∙ h.active; busy = h.busy }
  ]

  pub redone_keeps : IsCoherent redone
  redone_keeps = record {
    free = i.free;
    held = redone_held;
    inside = i.inside;
    txns = redone_txns;
    sound = i.sound;
    visible = λ r row e idle. i.visible r row e (λ h. idle (redone_unfinished r h));
    empty = i.empty;
    backed = i.backed;
    behind = i.behind;
  }

undo_none : (s : State) (i : IsCoherent s) (t : ℕ) (phase : Phase) (rolling : Bool)
    → s.txns t ≡ Some (record { changes = Unchanged; phase = phase; rolling = rolling })
    → IsCoherent (record s { txns = with_txn s t (record { changes = Unchanged; phase = phase; rolling = true }) })
undo_none s i t phase rolling active =
    redone_keeps s i t (record { changes = Unchanged; phase = phase; rolling = true })
    (λ r e. let h : IsHeld s r t = i.held r t e in h.row ∙ ap (λ y. latest (made_of y) r (get s.committed r)) (same_some h.active active))
    (λ r h same. subst (λ (y : Active). IsBusyWith y.changes y.phase r) (same_some h.active (ap s.txns same ∙ active)) h.busy)
    (record { names = tt; chained = tt; phase = (i.txns t _ active).phase })

undo_old : (s : State) (i : IsCoherent s) (t : ℕ) (c : ChangeValue) (older : Changes) (rolling : Bool)
    (active : s.txns t ≡ Some (record { changes = older ▹ c; phase = OldSet; rolling = rolling }))
    → HasPair (old_pair (is_indexed s.life) c) (λ p. Unit {0}) → (old : Option Pair) → old_pair (is_indexed s.life) c ≡ old
    → IsCoherent (record s { entries = with_entry s.entries old Live; txns = with_txn s t (without_newest older) })
undo_old s i t c older rolling active h None e = absurd (not_none h.is e)
undo_old s i t c older rolling active h (Some p) e = undo_put s i t c older OldSet rolling active refl p e

undo_by : (s : State) (i : IsCoherent s) (t : ℕ) (cs : Changes) (phase : Phase) (rolling : Bool)
    → s.txns t ≡ Some (record { changes = cs; phase = phase; rolling = rolling })
    → IsCoherent (undone s t (record { changes = cs; phase = phase; rolling = rolling }) cs phase)
undo_by s i t Unchanged phase rolling active = undo_none s i t phase rolling active
undo_by s i t (older ▹ c) OldMarked rolling active =
    let h : HasPair (old_pair (is_indexed s.life) c) (λ p. rolling ≡ false → get s.entries p ≡ Some Marked) = (i.txns t _ active).phase in
    undo_first s i t c older OldMarked rolling active _ refl (λ row at o. absurd (not_none h.is o))
undo_by s i t (older ▹ c) RowSet rolling active =
    let h : HasPair (new_pair (is_indexed s.life) c) (λ p. Unit {0}) = (i.txns t _ active).phase in
    undo_first s i t c older RowSet rolling active _ refl (none_before s i t c older RowSet rolling active h.it h.is)
undo_by s i t (older ▹ c) Made rolling active = undo_first s i t c older Made rolling active _ refl (λ row at o. refl)
undo_by s i t (older ▹ c) (NewMarked b) rolling active =
    let h : HasPair (new_pair (is_indexed s.life) c) (λ p. get s.entries p ≡ Some Marked) = (i.txns t _ active).phase in
    undo_row s i t c older (NewMarked b) rolling active (new_marked s i t c older (NewMarked b) rolling active h)
    (none_before s i t c older (NewMarked b) rolling active h.it h.is)
undo_by s i t (older ▹ c) OldSet rolling active = undo_old s i t c older rolling active (i.txns t _ active).phase _ refl

pub undo_keeps : (s : State) → IsCoherent s → (t : ℕ) (x : Active) → s.txns t ≡ Some x → IsCoherent (undone s t x x.changes x.phase)
undo_keeps s i t x active = undo_by s i t x.changes x.phase x.rolling active

pub begin_keeps : (s : State) → IsCoherent s → (t : ℕ) → s.txns t ≡ None → IsCoherent (record s { txns = with_txn s t new_txn })
begin_keeps s i t none =
    redone_keeps s i t new_txn
    (λ r e. absurd (not_none (i.held r t e).active none))
    (λ r h same. absurd (not_none (ap s.txns (sym same) ∙ h.active) none))
    (record { names = tt; chained = tt; phase = refl })

-- ---- a transaction leaves
freed_none : (t : ℕ) (o : Option ℕ) → freed t o ≡ None → (o ≡ None) ⊎ (o ≡ Some t)
freed_none t None e = inl refl
freed_none t (Some u) e = elim (nat_decided u t) [
  | inl same ↦ inr (ap Some same)
  | inr n ↦ absurd (not_none refl (sym (ap (λ b. cond b None (Some u)) (apart nat_cmp-IsAntisymmetric u t n)) ∙ e))
]

freed_here : (t : ℕ) → freed t (Some t) ≡ None
freed_here t = ap (λ b. cond b None (Some t)) (level nat_cmp_total t)

freed_other : (t u : ℕ) → u ≢ t → freed t (Some u) ≡ Some u
freed_other t u n = ap (λ b. cond b None (Some u)) (apart nat_cmp-IsAntisymmetric u t n)

freed_some : (t u : ℕ) (o : Option ℕ) → freed t o ≡ Some u → (o ≡ Some u) × (u ≢ t)
freed_some t u None e = absurd (not_none e refl)
freed_some t u (Some w) e = elim (nat_decided w t) [
  | inl same ↦ absurd (not_none e (ap (λ y. freed t (Some y)) same ∙ freed_here t))
  | inr n ↦
      let is : w ≡ u = same_some (freed_other t w n) e in
      (ap Some is, λ k. n (is ∙ k))
]

module _ (s : State) (i : IsCoherent s) (t : ℕ) (x : Active) (active : s.txns t ≡ Some x) (made : x.phase ≡ Made) (committed' : Table)
    (same : (r : Place) → s.holder r ≡ Some t → get s.rows r ≡ get committed' r) (other : (r : Place) → s.holder r ≢ Some t
    → get committed' r ≡ get s.committed r) where
  abbrev gone_txn : State
  gone_txn = left s t committed'

  gone_apart : (u : ℕ) → u ≢ t → gone_txn.txns u ≡ s.txns u
  gone_apart u n = update_apart nat_cmp-IsAntisymmetric s.txns t None u n

  not_mine : (r : Place) (u : ℕ) → u ≢ t → s.holder r ≡ Some u → s.holder r ≢ Some t
  not_mine r u n e k = n (same_some e k)

  gone_free : (r : Place) → freed t (s.holder r) ≡ None → get s.rows r ≡ get committed' r
  gone_free r e = elim (freed_none t (s.holder r) e) [
    | inl none ↦ i.free r none ∙ sym (other r (λ k. not_none k none))
    | inr held ↦ same r held
  ]

  gone_held : (r : Place) (u : ℕ) → freed t (s.holder r) ≡ Some u → IsHeld gone_txn r u
  gone_held r u e =
      let k : (s.holder r ≡ Some u) × (u ≢ t) = freed_some t u (s.holder r) e in
      let h : IsHeld s r u = i.held r u k.0 in
      record {
        txn = h.txn;
        active = gone_apart u k.1 ∙ h.active;
        row = h.row ∙ ap (latest (made_of h.txn) r) (sym (other r (not_mine r u k.1 k.0)));
        inside = h.inside;
      }

  gone_txns : (u : ℕ) (y : Active) → gone_txn.txns u ≡ Some y → TxnHolds gone_txn u y
  gone_txns u y e = elim (nat_decided u t) [
    | inl is ↦ absurd (not_none e (ap gone_txn.txns is ∙ update_here nat_cmp_total s.txns t None))
    | inr n ↦
        let h : TxnHolds s u y = i.txns u y (sym (gone_apart u n) ∙ e) in
        record {
          names = holds_more s.holder gone_txn.holder u (λ r k. ap (freed t) k ∙ freed_other t u n) y.changes h.names;
          chained = chained_same s.holder u s.committed committed' (λ r k. other r (not_mine r u n k)) y.changes h.names h.chained;
          phase = h.phase;
        }
  ]

  gone_unfinished : (r : Place) → IsUnfinished s r → IsUnfinished gone_txn r
  gone_unfinished r h = elim (nat_decided h.transaction t) [
    | inl is ↦
        let who : h.txn ≡ x = same_some h.active (ap s.txns is ∙ active) in
        absurd (busy_phase h.txn.changes h.txn.phase r h.busy (ap (λ y. y.phase) who ∙ made))
    | inr n ↦ record { transaction = h.transaction; txn = h.txn; active = gone_apart h.transaction n ∙ h.active; busy = h.busy }
  ]

  leave_keeps : IsCoherent gone_txn
  leave_keeps = record {
    free = gone_free;
    held = gone_held;
    inside = i.inside;
    txns = gone_txns;
    sound = i.sound;
    visible = λ r row e idle. i.visible r row e (λ h. idle (gone_unfinished r h));
    empty = i.empty;
    backed = i.backed;
    behind = i.behind;
  }

writes_of-append : (cs ds : List ChangeValue) → writes_of (cs ++ ds) ≡ writes_of cs ++ writes_of ds
writes_of-append [] ds = refl
writes_of-append (c ∷ cs) ds = ap (λ ws. write_of c ∷ ws) (writes_of-append cs ds)

applied-append : (table : Table) (writes later : List Write) → applied table (writes ++ later) ≡ applied (applied table writes) later
applied-append table [] later = refl
applied-append table (w ∷ writes) later = applied-append (set_at table w.rid w.row) writes later

-- the writes of a change after those of the older ones
pub newest_last : (c : ChangeValue) (older : Changes) → writes_of (as_list (older ▹ c)) ≡ writes_of (as_list older) ++ write_of c ∷ []
newest_last c older = writes_of-append (as_list older) (c ∷ [])

-- a commit of these changes leaves what the newest change of each row set
pub committed_at : (cs : Changes) (table : Table) (r : Place) → get (applied table (writes_of (as_list cs))) r ≡ latest cs r (get table r)
committed_at Unchanged table r = refl
committed_at (older ▹ c) table r =
    ap (λ ws. get (applied table ws) r) (newest_last c older)
    ∙ ap (λ w. get w r) (applied-append table (writes_of (as_list older)) (write_of c ∷ []))
    ∙ get-set_at rid_exact (applied table (writes_of (as_list older))) c.rid (new_row c.rows) r
    ∙ ap (cond (eq_by_cmp rid_cmp r c.rid) (new_row c.rows)) (committed_at older table r)

pub commit_keeps : (s : State) → IsCoherent s → (t : ℕ) (x : Active) → s.txns t ≡ Some x → IsReady x
    → IsCoherent (left s t (applied s.committed (writes_of (as_list x.changes))))
commit_keeps s i t x active ready =
    leave_keeps s i t x active ready.0 (applied s.committed (writes_of (as_list x.changes)))
    (λ r e.
    let h : IsHeld s r t = i.held r t e in
    h.row ∙ ap (λ y. latest (made_of y) r (get s.committed r)) (same_some h.active active) ∙ ap (λ cs. latest cs r (get s.committed r)) (made_applied x ready.0)
    ∙ sym (committed_at x.changes s.committed r))
    (λ r n. committed_at x.changes s.committed r ∙ latest_unnamed s.holder t x.changes r (get s.committed r) (i.txns t x active).names n)

end_by : (s : State) (i : IsCoherent s) (t : ℕ) (phase : Phase) (rolling : Bool)
    → s.txns t ≡ Some (record { changes = Unchanged; phase = phase; rolling = rolling }) → IsCoherent (left s t s.committed)
end_by s i t phase rolling active =
    leave_keeps s i t (record { changes = Unchanged; phase = phase; rolling = rolling }) active (i.txns t _ active).phase s.committed
    (λ r e. let h : IsHeld s r t = i.held r t e in h.row ∙ ap (λ y. latest (made_of y) r (get s.committed r)) (same_some h.active active))
    (λ r n. refl)

pub end_keeps : (s : State) → IsCoherent s → (t : ℕ) (x : Active) → s.txns t ≡ Some x → x.changes ≡ Unchanged → IsCoherent (left s t s.committed)
end_keeps s i t x active none = end_by s i t x.phase x.rolling (active ∙ ap (λ cs. Some (record { changes = cs; phase = x.phase; rolling = x.rolling })) none)

-- ---- a change is taken back whole, all steps of its undo from the first on, however far it or its undo had come
module _ (s : State) (t : ℕ) (c : ChangeValue) (older : Changes) where
  abbrev pub half_undone : Active → Option Pair → State
  half_undone x' new = record s { entries = with_entry s.entries new Marked; rows = set_at s.rows c.rid (old_row c.rows); txns = with_txn s t x' }

  abbrev pub taken_off_whole : Option Pair → Option Pair → State
  taken_off_whole new old = record s {
    entries = with_entry (with_entry s.entries new Marked) old Live;
    rows = set_at s.rows c.rid (old_row c.rows);
    txns = with_txn s t (without_newest older);
  }

  -- whatever its phase was
  row_undone_same : (a b : Phase) (m n : Bool) (o : Option Pair)
      → row_undone (record { changes = older ▹ c; phase = a; rolling = m }) older o
      ≡ row_undone (record { changes = older ▹ c; phase = b; rolling = n }) older o
  row_undone_same a b m n None = refl
  row_undone_same a b m n (Some p) = refl

  module _ (i : IsCoherent s) (phase : Phase) (rolling : Bool)
      (active : s.txns t ≡ Some (record { changes = older ▹ c; phase = phase; rolling = rolling })) where
    quiet_by : (phase : Phase) → IsInPhase (is_indexed s.life) s.entries c phase rolling → new_pair (is_indexed s.life) c ≡ None
        → old_pair (is_indexed s.life) c ≡ None → phase ≡ Made
    quiet_by OldMarked h n o = absurd (not_none h.is o)
    quiet_by RowSet h n o = absurd (not_none h.is n)
    quiet_by Made h n o = refl
    quiet_by (NewMarked b) h n o = absurd (not_none h.is n)
    quiet_by OldSet h n o = absurd (not_none h.is o)

    first_two : (new : Option Pair) → new_pair (is_indexed s.life) c ≡ new
        → IsCoherent (half_undone (row_undone (record { changes = older ▹ c; phase = phase; rolling = true }) older (old_pair (is_indexed s.life) c)) new)
    first_two None n =
        subst (λ x'. IsCoherent (half_undone x' None)) (row_undone_same phase phase rolling true (old_pair (is_indexed s.life) c))
        (undo_row s i t c older phase rolling active (no_new s i t c older phase rolling active n) (λ row at o. quiet_by phase (i.txns t _ active).phase n o))
    first_two (Some p) n =
        let x' : Active = record { changes = older ▹ c; phase = NewMarked (is_applied phase); rolling = true } in
        let s' : State = moved s s.rows (set_at s.entries p (Some Marked)) s.holder c.rid t
        (record { changes = older ▹ c; phase = phase; rolling = rolling }) x' in
        let i' : IsCoherent s' = undo_mark s i t c older phase rolling active p n in
        let active' : s'.txns t ≡ Some x' = txn_here s t x' in
        let done : IsCoherent (undone_row s' t x' c older) = undo_row s' i' t c older (NewMarked (is_applied phase)) true active'
        (new_marked s' i' t c older (NewMarked (is_applied phase)) true active'
        (record { it = p; is = n; holds = get-set_at_same pair_exact s.entries p (Some Marked) }))
        (none_before s' i' t c older (NewMarked (is_applied phase)) true active' p n) in
        subst (λ f. IsCoherent (record s { entries = set_at s.entries p (Some Marked); rows = set_at s.rows c.rid (old_row c.rows); txns = f }))
        (update_twice nat_cmp s.txns t (Some x') _
        ∙ ap (λ y. with_txn s t y) (row_undone_same (NewMarked (is_applied phase)) phase true true (old_pair (is_indexed s.life) c))) done

    last_one : (new old : Option Pair) → old_pair (is_indexed s.life) c ≡ old
        → IsCoherent (half_undone (row_undone (record { changes = older ▹ c; phase = phase; rolling = true }) older old) new)
        → IsCoherent (taken_off_whole new old)
    last_one new None o j = j
    last_one new (Some p) o j =
        let x' : Active = record { changes = older ▹ c; phase = OldSet; rolling = true } in
        let s' : State = half_undone x' new in
        let active' : s'.txns t ≡ Some x' = txn_here s t x' in
        subst (λ f. IsCoherent (record s {
          entries = set_at (with_entry s.entries new Marked) p (Some Live);
          rows = set_at s.rows c.rid (old_row c.rows);
          txns = f;
        }))
        (update_twice nat_cmp s.txns t (Some x') _) (undo_put s' j t c older OldSet true active' refl p o)

    pub undo_whole : IsCoherent (taken_off_whole (new_pair (is_indexed s.life) c) (old_pair (is_indexed s.life) c))
    undo_whole = last_one _ _ refl (first_two _ refl)

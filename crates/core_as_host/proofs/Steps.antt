-- Each step of the store as steps of host and index.
use Rattle.std.proofs.Common.{Bool, List, None, Option, Some, ap, cond, false, inl, inr, nat_eq, not, refl, subst, sym}
use Rattle.std.proofs.Common.{true, true≢false, ℕ, ◌&&◌, ◌<◌, ◌||◌, ◌∙◌, ◌≡◌}
use Rattle.std.proofs.Common.{◌++◌, ◌≢◌, ◌⊎◌}
use Rattle.std.proofs.lemmas.Bool.Decides.{eqb_tells}
use Rattle.std.specs.FinMap.{empty, get, get-empty, insert, nat_cmp-IsAntisymmetric, remove, same_map}
use Rattle.std.specs.Ordering.{nat_cmp}
use Rattle.records.specs.ChangeValue.{ChangeValue}
use Rattle.records.specs.Spelling.{new_row, old_row}
use Rattle.record_values.specs.Entries.{Index}
use Rattle.record_values.specs.KeyActions.{after_action}
use Rattle.record_values.specs.Maps.{set_at}
use Rattle.record_values.specs.Orders.{is_above, pair_cmp, pair_cmp-IsAntisymmetric, pair_cmp_total, rid_cmp, rid_cmp_total}
use Rattle.record_values.specs.Values.{Place}
use Rattle.record_values.specs.declared.key_action.KeyAction.TheVariants.{BuildPut}
use Rattle.record_values.specs.declared.pair.Mark.{Mark}
use Rattle.record_values.specs.declared.pair.Mark.TheVariants.{Live, Marked}
use Rattle.record_values.specs.declared.pair.Pair.{Pair}
use Rattle.record_values.specs.declared.row.Row.{Row}
use Rattle.model.specs.Pairs.{gone}
use Rattle.model.specs.Table.{Table}
use Rattle.model.specs.declared.life.Life.{Life as StoreLife}
use Rattle.model.specs.declared.life.Life.TheVariants.{Absent, Building as StoreBuilding, Complete as StoreComplete}
use Rattle.core_model.proofs.Laws.{level, nat_decided, not_none, same_some, step_keeps, txn_apart, update_apart, update_here}
use Rattle.core_model.specs.Changes.{Changes, Unchanged, latest, new_pair, old_pair, ◌▹◌}
use Rattle.core_model.specs.Histories.{highest_of}
use Rattle.core_model.specs.Invariants.{HasPair, Invariant, IsAhead, IsBusyWith, IsChained, IsCoherent, IsHeld, IsHolderOf, IsOneBuild, IsPhaseOf, IsUnfinished}
use Rattle.core_model.specs.Invariants.{Runs as StoreRuns, TxnHolds, applied_of, made_of}
use Rattle.core_model.specs.Invariants.{no_step as no_store_step, one_step as one_store_step}
use Rattle.core_model.specs.States.{Active, Made, NewMarked, OldMarked, OldSet, Phase, Pledges, RowSet, State}
use Rattle.core_model.specs.Steps as store
use Rattle.core_model.specs.Steps.{Attempt, Begin, Checkpoint, Clean, Commit, Create, Drop, End, Finish, Keep, MachineStep, Next, Start, Take, Undo, Wrap}
use Rattle.core_model.specs.Steps.{CanStart, IsReady, carried_on, is_indexed, new_txn, row_made, row_undone, started}
use Rattle.core_model.specs.Steps.{txn_at, undoing, undone, undone_first, undone_row}
use Rattle.core_model.specs.Steps.{is_applied, update, with_change, with_entry, with_phase, with_txn, without_newest}
use Rattle.online_model.specs.Keeping.{IsCreated}
use Rattle.online_model.specs.World as step
use Rattle.online_model.specs.World.{IsMarkedAt, IsOfRow, Runs, World, is_among, is_pair_of, is_put_due, no_step, one_step, pair_at}
use Rattle.online_model.specs.declared.life.Life.{Life}
use Rattle.online_model.specs.declared.life.Life.TheVariants.{Building, Complete}
use Rattle.core_as_host.specs.Hosting.{GetsTo, IsSameLife, IsWorldOf, key_of, reopened}
use Rattle.core_as_host.proofs.Moves.{by_change, by_mark, by_none, by_nothing, by_one, by_put}
use Rattle.core_as_host.proofs.Rows.{gone_apart, gone_key, gone_none, is_on_page, no_put, on_page, page_pairs, pair_by_test, set_same, test_by_pair}

level_nat : (k : ℕ) → nat_eq k k ≡ true
level_nat k = elim (eqb_tells k k) [ inl same ↦ same.0 | inr other ↦ absurd (other.1 refl) ]

-- ---- what a phase is not
no_mark : OldMarked ≡ Made → ⊥
no_mark e = absurd (cc)

no_row_set : RowSet ≡ Made → ⊥
no_row_set e = absurd (cc)

no_new_mark : (b : Bool) → NewMarked b ≡ Made → ⊥
no_new_mark b e = absurd (cc)

no_old_set : OldSet ≡ Made → ⊥
no_old_set e = absurd (cc)

-- where a pair is owed, the row's change is not done
row_made_due : (indexed : Bool) (r : Place) (row other : Option Row) → indexed ≡ true → is_put_due (key_of row) ≡ true → key_of row ≢ key_of other
    → row_made (gone indexed r row other) ≢ Made
row_made_due indexed r row other there due n e = owed (gone indexed r row other) refl e
  where
    owed : (o : Option Pair) → gone indexed r row other ≡ o → row_made o ≡ Made → ⊥
    owed (Some p) is made = no_row_set made
    owed None is made = elim (gone_none r row other (ap (λ b. gone b r row other) (sym there) ∙ is)) [
      | inl none ↦ no_put (key_of row) none due
      | inr same ↦ n same
    ]

module _ (s : State) (w : World) (i : IsCoherent s) (h : IsWorldOf s w) where
  life_indexed : (life : StoreLife) (online : Life) → IsSameLife life online → is_indexed life ≡ true
  life_indexed (StoreBuilding highest) online e = refl
  life_indexed StoreComplete online e = refl
  life_indexed Absent online e = absurd e

  indexed : is_indexed s.life ≡ true
  indexed = life_indexed s.life w.life h.life

  no_pair : (r : Place) (row other : Option Row) → gone (is_indexed s.life) r row other ≡ None → (key_of row ≡ None) ⊎ (key_of row ≡ key_of other)
  no_pair r row other e = gone_none r row other (ap (λ b. gone b r row other) (sym indexed) ∙ e)

  -- a place with no row may get one
  may_set : (r : Place) (o : Option Row) → key_of (get s.rows r) ≡ key_of o → key_of o ≡ None → IsMarkedAt w r
  may_set r o e n key k = absurd (not_none (sym (h.rows r ∙ e ∙ n) ∙ k) refl)

  -- a row whose pair is marked may be changed
  may_change : (r : Place) (o : Option Row) (p : Pair) → key_of (get s.rows r) ≡ key_of o → p.rid ≡ r → key_of o ≡ Some p.key
      → get s.entries p ≡ Some Marked → IsMarkedAt w r
  may_change r o p e at has marked key k =
      let same : key ≡ p.key = same_some k (h.rows r ∙ e ∙ has) in
      let is : pair_at r key ≡ p = λ j. record { key = same j; rid = sym at j } in
      inl (ap (get w.entries) is ∙ ap (λ (m : Index). get m p) h.entries ∙ marked)

  -- ---- the first step of a change
  module _ (t : ℕ) (c : ChangeValue) (a : CanStart s t c) (pledges : Pledges) where
    abbrev x : Active
    x = txn_at s t

    idle : (r : Place) → IsBusyWith x.changes x.phase r → ⊥
    idle r b = not_busy x.changes x.phase a.ready.0 b
      where
        not_busy : (cs : Changes) (phase : Phase) → phase ≡ Made → IsBusyWith cs phase r → ⊥
        not_busy Unchanged phase e b = b
        not_busy (older ▹ d) phase e b = b.1 e

    abbrev begun : Option Pair → State
    begun o = record (started s t x c o) { pledges = pledges }

    abbrev quiet : Active
    quiet = with_change x c (row_made (new_pair (is_indexed s.life) c))

    pub start_goes : (o : Option Pair) → old_pair (is_indexed s.life) c ≡ o → GetsTo w (begun o)
    start_goes (Some p) e =
        let at : p.rid ≡ c.rid = (gone_key (is_indexed s.life) c.rid (old_row c.rows) (new_row c.rows) p e).0 in
        by_mark s w h t x a.active (with_change x c OldMarked) (update rid_cmp s.holder c.rid (Some t)) pledges p
        (λ r n b. idle r b) (sym at, no_mark)
    start_goes None e = elim (no_pair c.rid (old_row c.rows) (new_row c.rows) e) [
      | inl none ↦
          by_change s w h t x a.active quiet (update rid_cmp s.holder c.rid (Some t)) pledges c.rid (new_row c.rows)
          (λ q n b. idle q b)
          (λ due. (
            refl,
            row_made_due (is_indexed s.life) c.rid (new_row c.rows) (old_row c.rows) indexed due
                (λ same. no_put (key_of (new_row c.rows)) (same ∙ none) due),
          ))
          (may_set c.rid (old_row c.rows) (ap key_of a.before) none)
      | inr same ↦
          by_nothing s w h t x a.active quiet (update rid_cmp s.holder c.rid (Some t)) pledges (set_at s.rows c.rid (new_row c.rows))
          (set_same s.rows c.rid (new_row c.rows) (sym same ∙ ap key_of (sym a.before)))
          (λ r b. absurd (idle r b))
    ]

  -- ---- its later steps, and those that take it back
  module _ (t : ℕ) (x : Active) (active : s.txns t ≡ Some x) (pledges : Pledges) where
    abbrev paid : State → State
    paid m = record m { pledges = pledges }

    unmoved : GetsTo w (paid s)
    unmoved = by_none w (paid s) (record {
      rows = h.rows;
      busy = λ r b. let u : IsUnfinished s r = h.busy r b in
          record { transaction = u.transaction; txn = u.txn; active = u.active; busy = u.busy };
      entries = h.entries;
      life = h.life;
      pages = h.pages;
      bound = h.bound;
      read_with = h.read_with;
      read_without = h.read_without;
      held_once = h.held_once;
      held_always = h.held_always;
    })

    holds : TxnHolds s t x
    holds = i.txns t x active

    nothing_busy : (phase : Phase) → x.changes ≡ Unchanged → (r : Place) → IsBusyWith x.changes phase r → ⊥
    nothing_busy phase none r b = subst (λ cs. IsBusyWith cs phase r) none b

    module _ (older : Changes) (c : ChangeValue) (is : x.changes ≡ older ▹ c) where
      named : IsHolderOf s.holder t (older ▹ c)
      named = subst (λ cs. IsHolderOf s.holder t cs) is holds.names

      chained : IsChained s.committed (older ▹ c)
      chained = subst (λ cs. IsChained s.committed cs) is holds.chained

      phase_is : IsPhaseOf (is_indexed s.life) s.entries (older ▹ c) x.phase x.rolling
      phase_is = subst (λ cs. IsPhaseOf (is_indexed s.life) s.entries cs x.phase x.rolling) is holds.phase

      row_is : get s.rows c.rid ≡ latest (applied_of (older ▹ c) (is_applied x.phase)) c.rid (get s.committed c.rid)
      row_is =
          let held : IsHeld s c.rid t = i.held c.rid t named.0 in
          let mine : held.txn ≡ x = same_some held.active active in
          held.row ∙ ap (λ (y : Active). latest (made_of y) c.rid (get s.committed c.rid)) mine
          ∙ ap (λ cs. latest (applied_of cs (is_applied x.phase)) c.rid (get s.committed c.rid)) is

      old_there : is_applied x.phase ≡ false → get s.rows c.rid ≡ old_row c.rows
      old_there e = row_is ∙ ap (λ b. latest (applied_of (older ▹ c) b) c.rid (get s.committed c.rid)) e ∙ sym chained.0

      new_there : is_applied x.phase ≡ true → get s.rows c.rid ≡ new_row c.rows
      new_there e =
          row_is ∙ ap (λ b. latest (applied_of (older ▹ c) b) c.rid (get s.committed c.rid)) e
          ∙ ap (λ b. cond b (new_row c.rows) (latest older c.rid (get s.committed c.rid))) (level rid_cmp_total c.rid)

      others : (r : Place) → r ≢ c.rid → IsBusyWith x.changes x.phase r → ⊥
      others r n b = n (sym (subst (λ cs. IsBusyWith cs x.phase r) is b).0)

      others_of : (p : Pair) → p.rid ≡ c.rid → (r : Place) → r ≢ p.rid → IsBusyWith x.changes x.phase r → ⊥
      others_of p at r n b = others r (λ e. n (e ∙ sym at)) b

      busy_in : (phase : Phase) → phase ≢ Made → (r : Place) → c.rid ≡ r → IsBusyWith x.changes phase r
      busy_in phase n r e = subst (λ cs. IsBusyWith cs phase r) (sym is) (e, n)

      goes_on_busy : (phase : Phase) → phase ≢ Made → (r : Place) → IsBusyWith x.changes x.phase r → IsBusyWith x.changes phase r
      goes_on_busy phase n r b = busy_in phase n r (subst (λ cs. IsBusyWith cs x.phase r) is b).0

      -- the row is back, where it had not its new key, or becomes its old one
      undoes : (o : Option Pair) → old_pair (is_indexed s.life) c ≡ o → is_put_due (key_of (old_row c.rows)) ≡ true
          → key_of (old_row c.rows) ≢ key_of (new_row c.rows) → IsBusyWith (row_undone x older o).changes (row_undone x older o).phase c.rid
      undoes (Some p) e due n = busy_in OldSet no_old_set c.rid refl
      undoes None e due n = elim (no_pair c.rid (old_row c.rows) (new_row c.rows) e) [
        | inl none ↦ absurd (no_put (key_of (old_row c.rows)) none due)
        | inr same ↦ absurd (n same)
      ]

      -- ---- the later steps
      mark_next : x.phase ≡ OldMarked → x.rolling ≡ false
          → GetsTo w (paid (carried_on s t x (older ▹ c) OldMarked))
      mark_next now forward =
          let has : HasPair (old_pair (is_indexed s.life) c) (λ p. x.rolling ≡ false → get s.entries p ≡ Some Marked) =
          subst (λ phase. IsPhaseOf (is_indexed s.life) s.entries (older ▹ c) phase x.rolling) now phase_is in
          let its : (has.it.rid ≡ c.rid) × (key_of (old_row c.rows) ≡ Some has.it.key) =
          gone_key (is_indexed s.life) c.rid (old_row c.rows) (new_row c.rows) has.it has.is in
          let apart : key_of (old_row c.rows) ≢ key_of (new_row c.rows) =
          gone_apart (is_indexed s.life) c.rid (old_row c.rows) (new_row c.rows) has.it has.is in
          let back : get s.rows c.rid ≡ old_row c.rows = old_there (ap is_applied now) in
          by_change s w h t x active (with_phase x (row_made (new_pair (is_indexed s.life) c))) s.holder pledges c.rid (new_row c.rows) others
          (λ due. busy_in (row_made (new_pair (is_indexed s.life) c))
          (row_made_due (is_indexed s.life) c.rid (new_row c.rows) (old_row c.rows) indexed due (λ e. apart (sym e))) c.rid refl)
          (may_change c.rid (old_row c.rows) has.it (ap key_of back) its.0 its.1 (has.holds forward))

      put_by : (o : Option Pair) → new_pair (is_indexed s.life) c ≡ o → x.phase ≡ RowSet
          → GetsTo w (paid (record s { entries = with_entry s.entries o Live; txns = with_txn s t (with_phase x Made) }))
      put_by None e now =
          let has : HasPair (new_pair (is_indexed s.life) c) (λ p. Unit {0}) =
          subst (λ phase. IsPhaseOf (is_indexed s.life) s.entries (older ▹ c) phase x.rolling) now phase_is in
          absurd (not_none has.is e)
      put_by (Some p) e now =
          let its : (p.rid ≡ c.rid) × (key_of (new_row c.rows) ≡ Some p.key) =
          gone_key (is_indexed s.life) c.rid (new_row c.rows) (old_row c.rows) p e in
          by_put s w h t x active (with_phase x Made) s.holder pledges p (others_of p its.0)
          (ap (λ r. key_of (get s.rows r)) its.0 ∙ ap key_of (new_there (ap is_applied now)) ∙ its.1)

      -- ---- the steps that take it back
      row_back : is_applied x.phase ≡ false → x.phase ≢ Made → (o : Option Pair) → old_pair (is_indexed s.life) c ≡ o
          → key_of (old_row c.rows) ≢ key_of (new_row c.rows)
          → GetsTo w (paid (record s { rows = set_at s.rows c.rid (old_row c.rows); txns = with_txn s t (row_undone x older o) }))
      row_back applied unmade (Some p) e apart =
          by_nothing s w h t x active (undoing x OldSet) s.holder pledges (set_at s.rows c.rid (old_row c.rows))
          (set_same s.rows c.rid (old_row c.rows) (ap key_of (sym (old_there applied)))) (λ r b. goes_on_busy OldSet no_old_set r b)
      row_back applied unmade None e apart = elim (no_pair c.rid (old_row c.rows) (new_row c.rows) e) [
        | inl none ↦
            by_change s w h t x active (without_newest older) s.holder pledges c.rid (old_row c.rows) others
            (λ due. absurd (no_put (key_of (old_row c.rows)) none due))
            (may_set c.rid (old_row c.rows) (ap key_of (old_there applied)) none)
        | inr same ↦ absurd (apart same)
      ]

      -- the row is as the change made it, and no pair of it is marked: it has no key, or keeps it
      row_taken_back : x.phase ≡ Made → new_pair (is_indexed s.life) c ≡ None → (o : Option Pair) → old_pair (is_indexed s.life) c ≡ o
          → GetsTo w (paid (record s { rows = set_at s.rows c.rid (old_row c.rows); txns = with_txn s t (row_undone x older o) }))
      row_taken_back now none o e = elim (no_pair c.rid (new_row c.rows) (old_row c.rows) none) [
        | inl gone ↦ taken_back gone
        | inr same ↦
            by_nothing s w h t x active (row_undone x older o) s.holder pledges (set_at s.rows c.rid (old_row c.rows))
            (set_same s.rows c.rid (old_row c.rows) (sym same ∙ ap key_of (sym (new_there (ap is_applied now)))))
            (λ r b. absurd ((subst (λ cs. IsBusyWith cs x.phase r) is b).1 now))
      ]
        where
          taken_back : key_of (new_row c.rows) ≡ None
              → GetsTo w (paid (record s { rows = set_at s.rows c.rid (old_row c.rows); txns = with_txn s t (row_undone x older o) }))
          taken_back gone =
              by_change s w h t x active (row_undone x older o) s.holder pledges c.rid (old_row c.rows) others
              (λ due. undoes o e due (λ same. no_put (key_of (old_row c.rows)) (same ∙ gone) due))
              (may_set c.rid (new_row c.rows) (ap key_of (new_there (ap is_applied now))) gone)

      marks_new : (applied : Bool) (p : Pair) → new_pair (is_indexed s.life) c ≡ Some p
          → GetsTo w (paid (record s { entries = set_at s.entries p (Some Marked); txns = with_txn s t (undoing x (NewMarked applied)) }))
      marks_new applied p e =
          let at : p.rid ≡ c.rid = (gone_key (is_indexed s.life) c.rid (new_row c.rows) (old_row c.rows) p e).0 in
          by_mark s w h t x active (undoing x (NewMarked applied)) s.holder pledges p (others_of p at)
          (busy_in (NewMarked applied) (no_new_mark applied) p.rid (sym at))

      undo_marked : x.phase ≡ OldMarked → (o : Option Pair) → new_pair (is_indexed s.life) c ≡ o
          → GetsTo w (paid (undone_first s t x c older false o))
      undo_marked now (Some p) e = marks_new false p e
      undo_marked now None e =
          let has : HasPair (old_pair (is_indexed s.life) c) (λ p. x.rolling ≡ false → get s.entries p ≡ Some Marked) =
          subst (λ phase. IsPhaseOf (is_indexed s.life) s.entries (older ▹ c) phase x.rolling) now phase_is in
          row_back (ap is_applied now) (λ made. no_mark (sym now ∙ made)) (old_pair (is_indexed s.life) c) refl
          (gone_apart (is_indexed s.life) c.rid (old_row c.rows) (new_row c.rows) has.it has.is)

      undo_set : x.phase ≡ RowSet → (o : Option Pair) → new_pair (is_indexed s.life) c ≡ o
          → GetsTo w (paid (undone_first s t x c older true o))
      undo_set now (Some p) e = marks_new true p e
      undo_set now None e =
          let has : HasPair (new_pair (is_indexed s.life) c) (λ p. Unit {0}) =
          subst (λ phase. IsPhaseOf (is_indexed s.life) s.entries (older ▹ c) phase x.rolling) now phase_is in
          absurd (not_none has.is e)

      undo_made : x.phase ≡ Made → (o : Option Pair) → new_pair (is_indexed s.life) c ≡ o
          → GetsTo w (paid (undone_first s t x c older true o))
      undo_made now (Some p) e = marks_new true p e
      undo_made now None e = row_taken_back now e (old_pair (is_indexed s.life) c) refl

      undo_row : (b : Bool) → x.phase ≡ NewMarked b → GetsTo w (paid (undone_row s t x c older))
      undo_row b now =
          let has : HasPair (new_pair (is_indexed s.life) c) (λ p. get s.entries p ≡ Some Marked) =
          subst (λ phase. IsPhaseOf (is_indexed s.life) s.entries (older ▹ c) phase x.rolling) now phase_is in
          let its : (has.it.rid ≡ c.rid) × (key_of (new_row c.rows) ≡ Some has.it.key) =
          gone_key (is_indexed s.life) c.rid (new_row c.rows) (old_row c.rows) has.it has.is in
          let apart : key_of (old_row c.rows) ≢ key_of (new_row c.rows) =
          λ e. gone_apart (is_indexed s.life) c.rid (new_row c.rows) (old_row c.rows) has.it has.is (sym e) in
          by_applied b now has its apart
        where
          by_applied : (b : Bool) → x.phase ≡ NewMarked b
              → (has : HasPair (new_pair (is_indexed s.life) c) (λ p. get s.entries p ≡ Some Marked))
              → (has.it.rid ≡ c.rid) × (key_of (new_row c.rows) ≡ Some has.it.key)
              → key_of (old_row c.rows) ≢ key_of (new_row c.rows) → GetsTo w (paid (undone_row s t x c older))
          by_applied false now has its apart =
              row_back (ap is_applied now) (λ made. no_new_mark false (sym now ∙ made)) (old_pair (is_indexed s.life) c) refl apart
          by_applied true now has its apart =
              by_change s w h t x active (row_undone x older (old_pair (is_indexed s.life) c)) s.holder pledges c.rid (old_row c.rows) others
              (λ due. undoes (old_pair (is_indexed s.life) c) refl due apart)
              (may_change c.rid (new_row c.rows) has.it (ap key_of (new_there (ap is_applied now))) its.0 its.1 has.holds)

      undo_put : x.phase ≡ OldSet → (o : Option Pair) → old_pair (is_indexed s.life) c ≡ o
          → GetsTo w (paid (record s { entries = with_entry s.entries o Live; txns = with_txn s t (without_newest older) }))
      undo_put now None e =
          let has : HasPair (old_pair (is_indexed s.life) c) (λ p. Unit {0}) =
          subst (λ phase. IsPhaseOf (is_indexed s.life) s.entries (older ▹ c) phase x.rolling) now phase_is in
          absurd (not_none has.is e)
      undo_put now (Some p) e =
          let its : (p.rid ≡ c.rid) × (key_of (old_row c.rows) ≡ Some p.key) =
          gone_key (is_indexed s.life) c.rid (old_row c.rows) (new_row c.rows) p e in
          by_put s w h t x active (without_newest older) s.holder pledges p (others_of p its.0)
          (ap (λ r. key_of (get s.rows r)) its.0 ∙ ap key_of (old_there (ap is_applied now)) ∙ its.1)

    next_goes : x.rolling ≡ false → (cs : Changes) → x.changes ≡ cs → (phase : Phase) → x.phase ≡ phase
        → GetsTo w (paid (carried_on s t x cs phase))
    next_goes forward Unchanged e phase now = unmoved
    next_goes forward (older ▹ c) e OldMarked now = mark_next older c e now forward
    next_goes forward (older ▹ c) e RowSet now = put_by older c e (new_pair (is_indexed s.life) c) refl now
    next_goes forward (older ▹ c) e Made now = unmoved
    next_goes forward (older ▹ c) e (NewMarked b) now = unmoved
    next_goes forward (older ▹ c) e OldSet now = unmoved

    undo_goes : (cs : Changes) → x.changes ≡ cs → (phase : Phase) → x.phase ≡ phase → GetsTo w (paid (undone s t x cs phase))
    undo_goes Unchanged e phase now =
        by_nothing s w h t x active (undoing x phase) s.holder pledges s.rows (λ r. refl) (λ r b. absurd (nothing_busy x.phase e r b))
    undo_goes (older ▹ c) e OldMarked now = undo_marked older c e now (new_pair (is_indexed s.life) c) refl
    undo_goes (older ▹ c) e RowSet now = undo_set older c e now (new_pair (is_indexed s.life) c) refl
    undo_goes (older ▹ c) e Made now = undo_made older c e now (new_pair (is_indexed s.life) c) refl
    undo_goes (older ▹ c) e (NewMarked b) now = undo_row older c e b now
    undo_goes (older ▹ c) e OldSet now = undo_put older c e now (old_pair (is_indexed s.life) c) refl

  -- ---- a transaction begins, or leaves
  same_world : (s' : State) → s'.rows ≡ s.rows → s'.entries ≡ s.entries → s'.life ≡ s.life → s'.pages ≡ s.pages → s'.bound ≡ s.bound
      → s'.given ≡ s.given → s'.missed ≡ s.missed → ((r : Place) → IsUnfinished s r → IsUnfinished s' r) → IsWorldOf s' w
  same_world s' rows entries life pages bound given missed keep = record {
    rows = λ r. h.rows r ∙ ap (λ (m : Table). key_of (get m r)) (sym rows);
    busy = λ r b. keep r (h.busy r b);
    entries = h.entries ∙ sym entries;
    life = subst (λ l. IsSameLife l w.life) (sym life) h.life;
    pages = h.pages ∙ sym pages;
    bound = h.bound ∙ sym bound;
    read_with = λ p. h.read_with p ∙ ap (λ (f : Pair → Bool). f p) (sym given);
    read_without = λ p. h.read_without p ∙ ap (λ (f : Pair → Bool). f p) (sym missed);
    held_once = h.held_once;
    held_always = h.held_always;
  }

  begin_goes : (t : ℕ) → s.txns t ≡ None → GetsTo w (store.after s (Begin t))
  begin_goes t none = by_none w (store.after s (Begin t)) (same_world _ refl refl refl refl refl refl refl (λ r u. elim (nat_decided u.transaction t) [
    | inl here ↦ absurd (not_none u.active (ap s.txns here ∙ none))
    | inr n ↦ record { transaction = u.transaction; txn = u.txn; active = txn_apart s t new_txn u.transaction n ∙ u.active; busy = u.busy }
  ]))

  -- a transaction that has nothing unfinished leaves
  leave_goes : (t : ℕ) (committed : Table) (pledges : Pledges) → ((r : Place) → IsBusyWith (txn_at s t).changes (txn_at s t).phase r → ⊥)
      → s.txns t ≡ Some (txn_at s t) → GetsTo w (record (store.left s t committed) { pledges = pledges })
  leave_goes t committed pledges idle active = by_none w _ (same_world _ refl refl refl refl refl refl refl (λ r u. elim (nat_decided u.transaction t) [
    | inl here ↦
        let is : u.txn ≡ txn_at s t = same_some u.active (ap s.txns here ∙ active) in
        absurd (idle r (subst (λ (y : Active). IsBusyWith y.changes y.phase r) is u.busy))
    | inr n ↦ record {
      transaction = u.transaction;
      txn = u.txn;
      active = update_apart nat_cmp-IsAntisymmetric s.txns t None u.transaction n ∙ u.active;
      busy = u.busy;
    }
  ]))

  none_busy : (cs : Changes) (phase : Phase) (r : Place) → (cs ≡ Unchanged) ⊎ (phase ≡ Made) → IsBusyWith cs phase r → ⊥
  none_busy Unchanged phase r how b = b
  none_busy (older ▹ c) phase r (inr made) b = b.1 made
  none_busy (older ▹ c) phase r (inl none) b = some_change none
    where
      some_change : older ▹ c ≡ Unchanged → ⊥
      some_change e = absurd (cc)

  -- ---- the builder and the cleaner
  same_test : (row : Option Row) (p : Pair) → is_pair_of (key_of row) p ≡ store.is_pair_of row p
  same_test None p = refl
  same_test (Some row) p = refl

  either : (a b c : Bool) → a ≡ b → (a || c) ≡ (c || b)
  either true b true e = refl
  either true b false e = e
  either false b true e = refl
  either false b false e = e

  left_out : (a b c : Bool) → ((a && not (a && b)) || c) ≡ (c || (a && not b))
  left_out true true true = refl
  left_out true true false = refl
  left_out true false true = refl
  left_out true false false = refl
  left_out false b true = refl
  left_out false b false = refl

  its_row : (n : ℕ) (p : Pair) → is_among p (page_pairs s.rows n) ≡ true → IsOfRow w p
  its_row n p e = h.rows p.rid ∙ pair_by_test (key_of (get s.rows p.rid)) p (second (nat_eq p.rid.page n) _ (sym (on_page s.rows n p) ∙ e))
    where
      second : (a b : Bool) → (a && b) ≡ true → b ≡ true
      second true b e = e
      second false b e = absurd (true≢false (sym e))

  take_goes : (n : ℕ) → GetsTo w (store.after s (Take n))
  take_goes n = by_one w (store.after s (Take n)) (step.TakePage n (page_pairs s.rows n))
      (record {
        each = λ p e. h.held_once p (its_row n p e);
        all = λ p at always.
            on_page s.rows n p ∙ both (nat_eq p.rid.page n) _ (same_page p.rid.page n at)
            (test_by_pair (key_of (get s.rows p.rid)) p (sym (h.rows p.rid) ∙ h.held_always p always));
      })
      (record {
        rows = h.rows;
        busy = λ r b. let u : IsUnfinished s r = h.busy r b in
            record { transaction = u.transaction; txn = u.txn; active = u.active; busy = u.busy };
        entries = h.entries;
        life = h.life;
        pages = h.pages;
        bound = h.bound;
        read_with = λ p.
            ap (λ b. b || w.read_with p) (on_page s.rows n p) ∙ either (is_on_page s.rows n p) _ (w.read_with p) (now p)
            ∙ ap (λ b. b || (nat_eq p.rid.page n && store.is_pair_of (get s.rows p.rid) p)) (h.read_with p);
        read_without = λ p.
            ap (λ b. (nat_eq p.rid.page n && not b) || w.read_without p) (on_page s.rows n p)
            ∙ left_out (nat_eq p.rid.page n) (is_pair_of (key_of (get s.rows p.rid)) p) (w.read_without p)
            ∙ ap (λ b. w.read_without p || (nat_eq p.rid.page n && not b)) (same_test (get s.rows p.rid) p)
            ∙ ap (λ b. b || (nat_eq p.rid.page n && not (store.is_pair_of (get s.rows p.rid) p))) (h.read_without p);
        held_once = h.held_once;
        held_always = h.held_always;
      })
    where
      both : (a b : Bool) → a ≡ true → b ≡ true → (a && b) ≡ true
      both true b e f = f
      both false b e f = e

      same_page : (a b : ℕ) → a ≡ b → nat_eq a b ≡ true
      same_page a b e = ap (nat_eq a) (sym e) ∙ level_nat a

      now : (p : Pair) → is_on_page s.rows n p ≡ (nat_eq p.rid.page n && store.is_pair_of (get s.rows p.rid) p)
      now p = ap (λ b. nat_eq p.rid.page n && b) (same_test (get s.rows p.rid) p)

  building : (life : StoreLife) → store.IsBuilding life → (online : Life) → IsSameLife life online → step.IsBuilding online
  building (StoreBuilding highest) b online e = (highest, e)
  building Absent b online e = absurd e
  building StoreComplete b online e = absurd (not_building b.0 b.1)
    where
      not_building : (highest : Option Pair) → StoreComplete ≡ StoreBuilding highest → ⊥
      not_building highest e = absurd (cc)

  builds : store.IsBuilding s.life → step.IsBuilding w.life
  builds b = building s.life b w.life h.life

  same_built : (o : Option Mark) → step.built o ≡ after_action BuildPut o
  same_built None = refl
  same_built (Some Live) = refl
  same_built (Some Marked) = refl

  none_left : ((n : ℕ) → n < s.pages → s.taken n ≡ true) → (q : Pair) → q.rid.page < w.pages → (s.taken q.rid.page ≡ true → s.missed q ≡ true)
      → w.read_without q ≡ true
  none_left all q inside left = h.read_without q ∙ left (all q.rid.page (subst (λ n. q.rid.page < n) h.pages inside))

  unfinished_too : (s' : State) → s'.txns ≡ s.txns → (r : Place) → IsUnfinished s r → IsUnfinished s' r
  unfinished_too s' same r u = record {
    transaction = u.transaction;
    txn = u.txn;
    active = ap (λ (f : ℕ → Option Active). f u.transaction) same ∙ u.active;
    busy = u.busy;
  }

  attempt_goes : (p : Pair) → store.CanAttempt s p → GetsTo w (store.after s (Attempt p))
  attempt_goes p can = by_one w (store.after s (Attempt p)) (step.Attempt p)
      (record {
        building = builds can.building;
        read = h.read_with p ∙ can.given;
        rising = ap (λ b. is_above b p) h.bound ∙ can.rising;
        none_between = λ q inside above below. none_left can.all_taken q inside
            (λ taken. can.none_left q (ap (λ b. is_above b q) (sym h.bound) ∙ above) below taken);
      })
      (record {
        rows = h.rows;
        busy = λ r b. unfinished_too (store.after s (Attempt p)) refl r (h.busy r b);
        entries = ap (λ (m : Index). set_at m p (step.built (get m p))) h.entries ∙ ap (set_at s.entries p) (same_built (get s.entries p));
        life = h.life;
        pages = h.pages;
        bound = refl;
        read_with = h.read_with;
        read_without = h.read_without;
        held_once = h.held_once;
        held_always = h.held_always;
      })

  checkpoint_goes : (p : Pair) → store.IsBuilding s.life → s.bound ≡ Some p → GetsTo w (store.after s (Checkpoint p))
  checkpoint_goes p b at = by_one w (store.after s (Checkpoint p)) step.Checkpoint (builds b)
      (record {
        rows = h.rows;
        busy = λ r b. unfinished_too (store.after s (Checkpoint p)) refl r (h.busy r b);
        entries = h.entries;
        life = ap Building (h.bound ∙ at);
        pages = h.pages;
        bound = h.bound;
        read_with = h.read_with;
        read_without = h.read_without;
        held_once = h.held_once;
        held_always = h.held_always;
      })

  finish_goes : store.CanFinish s → GetsTo w (store.after s Finish)
  finish_goes can = by_one w (store.after s Finish) step.Finish
      (record {
        building = builds can.building;
        none_above = λ q inside above. none_left can.all_taken q inside
            (λ taken. can.none_left q (ap (λ b. is_above b q) (sym h.bound) ∙ above) taken);
      })
      (record {
        rows = h.rows;
        busy = λ r b. unfinished_too (store.after s Finish) refl r (h.busy r b);
        entries = h.entries;
        life = refl;
        pages = h.pages;
        bound = h.bound;
        read_with = h.read_with;
        read_without = h.read_without;
        held_once = h.held_once;
        held_always = h.held_always;
      })

  passed : (life : StoreLife) (p : Pair) → store.IsPassed life p → (online : Life) → IsSameLife life online → step.IsPassed online p
  passed Absent p k online e = absurd e
  passed (StoreBuilding highest) p k online e = subst (λ l. step.IsPassed l p) (sym e) k
  passed StoreComplete p k online e = subst (λ l. step.IsPassed l p) (sym e) tt

  clean_goes : (p : Pair) → store.CanClean s p → GetsTo w (store.after s (Clean p))
  clean_goes p can = by_one w (store.after s (Clean p)) (step.Clean p)
      (record { marked = ap (λ (m : Index). get m p) h.entries ∙ can.marked; passed = passed s.life p can.passed w.life h.life })
      (record {
        rows = h.rows;
        busy = λ r b. unfinished_too (store.after s (Clean p)) refl r (h.busy r b);
        entries = ap (λ (m : Index). set_at m p None) h.entries;
        life = h.life;
        pages = h.pages;
        bound = h.bound;
        read_with = h.read_with;
        read_without = h.read_without;
        held_once = h.held_once;
        held_always = h.held_always;
      })

  pub step_goes : (e : MachineStep) → store.IsEnabled s e → e ≢ Drop → GetsTo w (store.after s e)
  step_goes (Begin t) a n = begin_goes t a
  step_goes (Start t c) a n = start_goes t c a _ (old_pair (is_indexed s.life) c) refl
  step_goes (Next t) a n = next_goes t (txn_at s t) a.0 _ a.1 (txn_at s t).changes refl (txn_at s t).phase refl
  step_goes (Undo t) a n = undo_goes t (txn_at s t) a _ (txn_at s t).changes refl (txn_at s t).phase refl
  step_goes (End t) a n = leave_goes t s.committed _ (λ r. none_busy (txn_at s t).changes (txn_at s t).phase r (inl a.1)) a.0
  step_goes (Commit t) a n = leave_goes t _ _ (λ r. none_busy (txn_at s t).changes (txn_at s t).phase r (inr a.1.0)) a.0
  step_goes Create a n = absurd (subst (λ l. IsSameLife l w.life) a.0 h.life)
  step_goes (Take page) a n = take_goes page
  step_goes (Attempt p) a n = attempt_goes p a
  step_goes (Checkpoint p) a n = checkpoint_goes p a.0 a.1
  step_goes Finish a n = finish_goes a
  step_goes (Clean p) a n = clean_goes p a
  step_goes (Keep p) a n = by_none w _ (same_world _ refl refl refl refl refl refl refl (unfinished_too (store.after s (Keep p)) refl))
  step_goes Wrap a n = by_none w _ (same_world _ refl refl refl refl refl refl refl (unfinished_too (store.after s Wrap) refl))
  step_goes Drop a n = absurd (n refl)

-- ---- the index is created
abbrev at_first : State → World
at_first s = record {
  rows = λ r. key_of (get s.rows r);
  busy = λ r. false;
  entries = s.entries;
  life = Building None;
  pages = s.pages;
  bound = None;
  held_once = λ p. is_pair_of (key_of (get s.rows p.rid)) p;
  held_always = λ p. is_pair_of (key_of (get s.rows p.rid)) p;
  read_with = λ p. false;
  read_without = λ p. false;
}

pub created : (s : State) → Invariant s → store.IsEnabled s Create → (w : World) × IsCreated w × IsWorldOf (store.after s Create) w
created s i a = (
  at_first s,
  record {
    quiet = λ r. refl;
    inside = λ r key e. inside_of r (get s.rows r) refl key e;
    empty = same_map pair_cmp_total pair_cmp-IsAntisymmetric s.entries empty (λ p. i.coherent.empty a.0 p ∙ sym (get-empty pair_cmp p));
    life = refl;
    bound = refl;
    held_once = λ p. refl;
    held_always = λ p. refl;
    read_with = λ p. refl;
    read_without = λ p. refl;
  },
  record {
    rows = λ r. refl;
    busy = λ r b. absurd (true≢false (sym b));
    entries = refl;
    life = refl;
    pages = refl;
    bound = refl;
    read_with = λ p. refl;
    read_without = λ p. refl;
    held_once = λ p e. test_by_pair (key_of (get s.rows p.rid)) p e;
    held_always = λ p e. pair_by_test (key_of (get s.rows p.rid)) p e;
  },
)
  where
    inside_of : (r : Place) (o : Option Row) → get s.rows r ≡ o → (key : List ℕ) → key_of o ≡ Some key → r.page < s.pages
    inside_of r None e key k = absurd (not_none k refl)
    inside_of r (Some row) e key k = i.coherent.inside r row e

-- ---- several steps
runs_on : {a b c : World} {xs ys : List step.Step} → Runs a xs b → Runs b ys c → Runs a (xs ++ ys) c
runs_on no_step later = later
runs_on (one_step e es enabled run) later = one_step e _ enabled (runs_on run later)

joined : {w : World} {s s' : State} (first : GetsTo w s) → GetsTo first.last s' → GetsTo w s'
joined first later = record {
  steps = first.steps ++ later.steps;
  last = later.last;
  run = runs_on first.run later.run;
  is = later.is;
}

pub run_goes : (s s' : State) (w : World) (steps : List MachineStep) → Invariant s → IsWorldOf s w → StoreRuns s steps s' → IsOneBuild steps → GetsTo w s'
run_goes s s' w steps i h no_store_step kept = by_none w s h
run_goes s s' w steps i h (one_store_step e es enabled run) kept =
    let first : GetsTo w (store.after s e) = step_goes s w i.coherent h e enabled kept.0 in
    joined first (run_goes (store.after s e) s' first.last es (step_keeps s e i enabled) first.is run kept.1)

-- ---- the store stops
module _ (s : State) (i : Invariant s) where
  checkpointed : (life : StoreLife) → s.life ≡ life → (p : Pair) → highest_of life ≡ Some p → p.rid.page < s.pages
  checkpointed (StoreBuilding (Some q)) e p k = i.fit.inside.highest p (e ∙ ap StoreBuilding k)
  checkpointed (StoreBuilding None) e p k = absurd (not_none k refl)
  checkpointed Absent e p k = absurd (not_none k refl)
  checkpointed StoreComplete e p k = absurd (not_none k refl)

  ahead_still : (life : StoreLife) → s.life ≡ life → (p : Pair) → IsAhead life s.bound s.missed p → IsAhead life (highest_of life) (λ q. false) p
  ahead_still (StoreBuilding highest) e p a = (i.coherent.behind highest e p a.0, refl)
  ahead_still Absent e p a = a
  ahead_still StoreComplete e p a = a

  above_still : (life : StoreLife) → s.life ≡ life → (highest : Option Pair) → life ≡ StoreBuilding highest → (p : Pair)
      → is_above (highest_of life) p ≡ true → is_above highest p ≡ true
  above_still life e highest k p a = subst (λ l. is_above (highest_of l) p ≡ true) k a

  unfinished_still : (r : Place) → IsUnfinished s r → IsUnfinished (reopened s) r
  unfinished_still r u = record { transaction = u.transaction; txn = u.txn; active = u.active; busy = u.busy }

  reopened_fits : Invariant (reopened s)
  reopened_fits = record {
    fit = record {
      rows = i.fit.rows;
      held = i.fit.held;
      txns = i.fit.txns;
      places = record { fits = i.fit.places.fits; enough = i.fit.places.enough };
      inside = record {
        entries = i.fit.inside.entries;
        bound = λ p e. checkpointed s.life refl p e;
        highest = i.fit.inside.highest;
        given = λ p e. absurd (true≢false (sym e));
      };
      pledged = i.fit.pledged;
    };
    coherent = record {
      free = i.coherent.free;
      held = λ r t e. let h : IsHeld s r t = i.coherent.held r t e in
          record { txn = h.txn; active = h.active; row = h.row; inside = h.inside };
      inside = i.coherent.inside;
      txns = λ t x e. let h : TxnHolds s t x = i.coherent.txns t x e in
          record { names = h.names; chained = h.chained; phase = h.phase };
      sound = i.coherent.sound;
      visible = λ r row e idle. elim (i.coherent.visible r row e (λ u. idle (unfinished_still r u))) [
        | inl live ↦ inl live
        | inr a ↦ inr (a.0, ahead_still s.life refl _ a.1)
      ];
      empty = i.coherent.empty;
      backed = λ highest e p g a. absurd (true≢false (sym g));
      behind = λ highest e p a. above_still s.life refl highest e p a;
    };
  }

  bound_of : (life : StoreLife) (online : Life) → IsSameLife life online → step.highest_of online ≡ highest_of life
  bound_of (StoreBuilding highest) online e = ap step.highest_of e
  bound_of StoreComplete online e = ap step.highest_of e
  bound_of Absent online e = absurd e

  pub reopens : (w : World) → IsWorldOf s w → Invariant (reopened s) × IsWorldOf (reopened s) (step.after w step.Reopen)
  reopens w h = (
    reopened_fits,
    record {
      rows = h.rows;
      busy = λ r b. unfinished_still r (h.busy r b);
      entries = h.entries;
      life = h.life;
      pages = h.pages;
      bound = bound_of s.life w.life h.life;
      read_with = λ p. refl;
      read_without = λ p. refl;
      held_once = λ p e. test_by_pair (w.rows p.rid) p e;
      held_always = λ p e. pair_by_test (w.rows p.rid) p e;
    },
  )

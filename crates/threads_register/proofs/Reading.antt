-- A seat reads back its own rows.
use Rattle.std.proofs.Common.{◌≡◌, ◌⊎◌, ℕ, Bool, true, false, cond, List, Option, Some, None, is_some, not, [], inl, inr, refl, sym, ap, ◌∙◌, subst, ⊎_elim}
use Rattle.std.specs.FinMap.{get}
use Rattle.std.specs.Option.{option_map}
use Rattle.std.specs.Prelude.{option_and_then, slice_get, unwrap_or}
use Rattle.records.specs.ChangeValue.{ChangeValue}
use Rattle.record_values.specs.Maps.{get-set_at_same, rid_exact, same_key}
use Rattle.records.specs.RecordValue.{RecordValue}
use Rattle.records.specs.Spelling.{new_row}
use Rattle.record_values.specs.Values.{Place}
use Rattle.records.specs.declared.change.Rows.{Rows}
use Rattle.records.specs.declared.change.Rows.TheVariants.{Deleted, Inserted, Updated}
use Rattle.record_values.specs.declared.row.Row.{Row}
use Rattle.record_values.specs.declared.pair.Pair.{Pair}
use Rattle.model.specs.Table.{Table}
use Rattle.model.specs.declared.write.Write.{Write}
use Rattle.core_model.proofs.Laws.{made_holds, same_some, txn_here}
use Rattle.core_model.specs.Changes.{Changes, Unchanged, latest, old_pair, ◌▹◌}
use Rattle.core_model.specs.Histories.{CanOpen, Opened, write_of}
use Rattle.core_model.specs.Invariants.{Invariant, IsHeld, IsHolderOf, made_of}
use Rattle.core_model.specs.States.{Active, OldMarked, RowSet, State}
use Rattle.core_model.specs.Steps.{CanStart, IsActive, MachineStep, Start, after, carried_on, is_indexed, started, txn_at, with_change}
use Rattle.core_model.specs.Events.{Event, Reply, standing_after}
use Rattle.core_model.specs.Replies.{Owes, change_of}
use Rattle.core_parts.specs.View.{CoreValue, Serves, Shows}
use Rattle.threads_sessions.specs.Steps.{change_seen, changed, row_now, step_seen, stepped, unfinished_in}
use Rattle.threads_sessions.specs.Values.{active_of, ActiveValue, rows_of, SessionValue}
use Rattle.threads_register.proofs.Lookups.{number_is, row_again, row_set, some_is, with_own}
use Rattle.threads_register.proofs.Seen.{held_mine}
use Rattle.threads_register.proofs.Served.{seen, shown_by, so, unfinished_is}
use Rattle.threads_register.proofs.Steps.{due_of, enabled_of, one_place, owed_of, owes_one, std, step_of, st}
use Rattle.threads_register.specs.Agreement.{IsRegister, newest_write, row_at, row_held}
use Rattle.threads_register.specs.Reading.{ReadsBack, ShowsRow, unfinished_of}

-- ---- the session after a step

changed_row : (new : CoreValue) (t : ℕ) (change : Write) (p : SessionValue) (a : ActiveValue) → active_of t p.active ≡ Some a
    → row_at change.rid (rows_of t (changed p new t change).active) ≡ Some (get new.heap.rows change.rid)
changed_row new t change p a there =
    ap (λ x. row_at change.rid (unwrap_or (option_map (λ (b : ActiveValue). b.rows) x) [])) (with_own (change_seen new change) (λ b. refl) t p.active
    ∙ ap (option_map (change_seen new change)) there)
    ∙ row_set (row_now new change.rid) a.rows

changed_unfinished : (new : CoreValue) (t : ℕ) (change : Write) (p : SessionValue) (a : ActiveValue) → active_of t p.active ≡ Some a
    → unfinished_of (changed p new t change) t ≡ unfinished_in new t change
changed_unfinished new t change p a there =
    ap (option_and_then (λ (b : ActiveValue). b.unfinished)) (with_own (change_seen new change) (λ b. refl) t p.active
    ∙ ap (option_map (change_seen new change)) there)
    ∙ ap (λ n. unfinished_in new n change) (number_is t p.active a there)

stepped_row : (new : CoreValue) (t : ℕ) (rid : Place) (row : Option Row) (p : SessionValue) (a : ActiveValue) → active_of t p.active ≡ Some a
    → row_at rid a.rows ≡ Some row → row_at rid (rows_of t (stepped p new t).active) ≡ Some (get new.heap.rows rid)
stepped_row new t rid row p a there had =
    ap (λ x. row_at rid (unwrap_or (option_map (λ (b : ActiveValue). b.rows) x) [])) (with_own (step_seen new) (λ b. refl) t p.active
    ∙ ap (option_map (step_seen new)) there)
    ∙ (row_again new rid a.rows ∙ ap (option_map (λ (r : Option Row). get new.heap.rows rid)) had)

-- ---- the row after a step

module _ (s : State) (t : ℕ) (c : ChangeValue) (can : CanStart s t c) where
  -- set, or to be set next
  first_row : (o : Option Pair) → (get (started s t (txn_at s t) c o).rows c.rid ≡ new_row c.rows)
      ⊎ (((started s t (txn_at s t) c o).txns t ≡ Some (with_change (txn_at s t) c OldMarked))
      × (get (started s t (txn_at s t) c o).rows c.rid ≡ get s.rows c.rid))
  first_row None = inl (get-set_at_same rid_exact s.rows c.rid (new_row c.rows))
  first_row (Some p) = inr (txn_here s t (with_change (txn_at s t) c OldMarked), refl)

-- an insertion marks no entry
no_old : (indexed : Bool) (c : ChangeValue) (row : Row) → c.rows ≡ Inserted row → old_pair indexed c ≡ None
no_old false c row is = refl
no_old true c row is = ap (λ rows. old_pair true (record c { rows = rows })) is

inserted_row : (s : State) (t : ℕ) (c : ChangeValue) (row : Row) → c.rows ≡ Inserted row → get (after s (Start t c)).rows c.rid ≡ new_row c.rows
inserted_row s t c row is = ap (λ o. get (started s t (txn_at s t) c o).rows c.rid) (no_old (is_indexed s.life) c row is)
    ∙ get-set_at_same rid_exact s.rows c.rid (new_row c.rows)

module _ (s : State) (holds : Invariant s) (t : ℕ) (active : IsActive s t) (owes : Owes (txn_at s t)) where
  abbrev x : Active
  x = txn_at s t

  -- the row of a change that is made but for its new entry
  made_row : (older : Changes) (c : ChangeValue) → x.changes ≡ older ▹ c → x.phase ≡ RowSet → s.holder c.rid ≡ Some t → get s.rows c.rid ≡ new_row c.rows
  made_row older c changes phase holder =
      let held : IsHeld s c.rid t = holds.coherent.held c.rid t holder in
      let same : held.txn ≡ x = same_some held.active active in
      held.row
      ∙ (ap (λ (y : Active). latest (made_of y) c.rid (get s.committed c.rid)) same
      ∙ ((λ i. latest (made_of (record x { changes = changes i; phase = phase i })) c.rid (get s.committed c.rid))
      ∙ ap (λ b. cond b (new_row c.rows) (latest older c.rid (get s.committed c.rid))) (same_key rid_exact c.rid)))

  holder_is : (older : Changes) (c : ChangeValue) → x.changes ≡ older ▹ c → s.holder c.rid ≡ Some t
  holder_is older c changes = (subst (λ cs. IsHolderOf s.holder t cs) changes (holds.coherent.txns t x active).names).0

  next_row : (older : Changes) (c : ChangeValue) → x.changes ≡ older ▹ c → get (after s (MachineStep.Next t)).rows c.rid ≡ new_row c.rows
  next_row older c changes = ⊎_elim
      (λ phase. (λ i. get (carried_on s t x (changes i) (phase i)).rows c.rid) ∙ get-set_at_same rid_exact s.rows c.rid (new_row c.rows))
      (λ phase. (λ i. get (carried_on s t x (changes i) (phase i)).rows c.rid) ∙ made_row older c changes phase (holder_is older c changes))
      owes.0

-- ---- calls

module _ (o : Opened) (can : CanOpen o) (pushed : List RecordValue) (core : CoreValue) (book : List SessionValue) (r : IsRegister o pushed core book) (seat : ℕ)
    (p : SessionValue) (there : slice_get book seat ≡ Some p)
    (txn : ℕ) (own : is_some (active_of txn p.active) ≡ true) where
  abbrev s : State
  s = st o can pushed core book r

  before_is : (q : Place) → get s.rows q ≡ get core.heap.rows q
  before_is q = ap (λ (m : Table). get m q) (so o can pushed core book r).stands.shown.rows

  -- the first step of a change
  module _ (e : Event) (reply : Reply) (new : CoreValue) (sv : Serves core e reply new) (rid : Place) (rows : Rows)
      (step : step_of o can pushed core book r e reply new sv ≡ Some (Start txn (change_of s txn rid rows))) where
    abbrev c : ChangeValue
    c = change_of s txn rid rows

    abbrev later : State
    later = after s (Start txn c)

    can_start : CanStart s txn c
    can_start = enabled_of o can pushed core book r e reply new sv (Some (Start txn c)) step

    shown : Shows new later (standing_after (std o can pushed core book r) reply)
    shown = shown_by o can pushed core book r e reply new sv (Some (Start txn c)) step

    now_is : get new.heap.rows rid ≡ get later.rows rid
    now_is = ap (λ (m : Table). get m rid) (sym shown.rows)

    mine : (a : ActiveValue) × (active_of txn p.active ≡ Some a)
    mine = let its = seen o can pushed core book r seat p there txn own (txn_at s txn) can_start.active in (its.0, its.1)

    row_is : (row : Option Row) → get new.heap.rows rid ≡ row → ShowsRow txn (record { rid = rid; row = row }) (changed p new txn (write_of c))
    row_is row is = changed_row new txn (write_of c) p mine.0 mine.1 ∙ ap Some is

    owed_now : later.txns txn ≡ Some (with_change (txn_at s txn) c OldMarked) → unfinished_of (changed p new txn (write_of c)) txn ≡ Some (write_of c)
    owed_now is = changed_unfinished new txn (write_of c) p mine.0 mine.1
        ∙ (unfinished_is new later (standing_after (std o can pushed core book r) reply) shown txn (with_change (txn_at s txn) c OldMarked) is (write_of c)
        ∙ ap (λ b. cond (not b) (Some (write_of c)) None) can_start.ready.1)

    started_reads : ReadsBack (get core.heap.rows rid) txn (write_of c) (changed p new txn (write_of c))
    started_reads = ⊎_elim
        (λ set. inl (row_is (new_row rows) (now_is ∙ set)))
        (λ waits. inr (owed_now waits.0, row_is (get core.heap.rows rid) (now_is ∙ (waits.1 ∙ before_is rid))))
        (first_row s txn c can_start (old_pair (is_indexed s.life) c))

    inserted_reads : (row : Row) → rows ≡ Inserted row → ShowsRow txn (write_of c) (changed p new txn (write_of c))
    inserted_reads row is = row_is (new_row rows) (now_is ∙ inserted_row s txn c row is)

  pub insert_reads : (row : Row) (rid : Place) (new : CoreValue) → Serves core (Event.Insert txn row) (Reply.Rid rid) new
      → ShowsRow txn (record { rid = rid; row = Some row }) (changed p new txn (record { rid = rid; row = Some row }))
  insert_reads row rid new sv =
      let d = due_of o can pushed core book r (Event.Insert txn row) (Reply.Rid rid) new sv tt in
      let at : rid ≡ d.0 = one_place rid d.0 d.2 in
      inserted_reads (Event.Insert txn row) (Reply.Rid rid) new sv rid (Inserted row) (d.3
      ∙ ap (λ q. Some (Start txn (change_of s txn q (Inserted row)))) (sym at)) row refl

  pub delete_reads : (rid : Place) (new : CoreValue) → Serves core (Event.Delete txn rid) Reply.Stepped new
      → ReadsBack (get core.heap.rows rid) txn (record { rid = rid; row = None }) (changed p new txn (record { rid = rid; row = None }))
  delete_reads rid new sv =
      let d = due_of o can pushed core book r (Event.Delete txn rid) Reply.Stepped new sv tt in
      started_reads (Event.Delete txn rid) Reply.Stepped new sv rid (Deleted d.0) d.3

  pub update_reads : (rid : Place) (row : Row) (new : CoreValue) → Serves core (Event.Update txn rid row) Reply.Stepped new
      → ReadsBack (get core.heap.rows rid) txn (record { rid = rid; row = Some row }) (changed p new txn (record { rid = rid; row = Some row }))
  update_reads rid row new sv =
      let d = due_of o can pushed core book r (Event.Update txn rid row) Reply.Stepped new sv tt in
      started_reads (Event.Update txn rid row) Reply.Stepped new sv rid (Updated d.0 row) d.3

  -- one more step of it
  pub step_reads : (change : Write) → unfinished_of p txn ≡ Some change → (new : CoreValue) → Serves core (Event.Step txn) Reply.Stepped new
      → ShowsRow txn change (stepped p new txn)
  step_reads change to_finish new sv =
      let d = due_of o can pushed core book r (Event.Step txn) Reply.Stepped new sv tt in
      let active : IsActive s txn = (enabled_of o can pushed core book r (Event.Step txn) Reply.Stepped new sv (Some (MachineStep.Next txn)) d.1).0 in
      let owes : Owes (txn_at s txn) = owed_of o can pushed core book r txn new sv in
      let its = seen o can pushed core book r seat p there txn own (txn_at s txn) active in
      let shown = shown_by o can pushed core book r (Event.Step txn) Reply.Stepped new sv (Some (MachineStep.Next txn)) d.1 in
      let holds = made_holds o can _ _ _ s (so o can pushed core book r).served.log in
      let newest : newest_write (txn_at s txn).changes ≡ Some change =
      sym (owes_one (txn_at s txn) owes) ∙ (sym its.2.unfinished ∙ (sym (ap (option_and_then (λ (b : ActiveValue). b.unfinished)) its.1) ∙ to_finish)) in
      by its.0 its.1 its.2.rows holds active owes (ap (λ (m : Table). get m change.rid) (sym shown.rows)) (txn_at s txn).changes refl newest
    where
      by : (a : ActiveValue) → active_of txn p.active ≡ Some a → ((q : Place) → row_at q a.rows ≡ row_held txn (s.holder q) (get s.rows q)) → Invariant s
          → IsActive s txn → Owes (txn_at s txn) → get new.heap.rows change.rid ≡ get (after s (MachineStep.Next txn)).rows change.rid
          → (cs : Changes) → (txn_at s txn).changes ≡ cs → newest_write cs ≡ Some change → ShowsRow txn change (stepped p new txn)
      by a here rows holds active owes now Unchanged changes newest = absurd cc
      by a here rows holds active owes now (older ▹ c) changes newest =
          let same : write_of c ≡ change = some_is (write_of c) change newest in
          let at : c.rid ≡ change.rid = ap (λ (w : Write). w.rid) same in
          let holder : s.holder change.rid ≡ Some txn = ap s.holder (sym at) ∙ holder_is s holds txn active owes older c changes in
          let had : row_at change.rid a.rows ≡ Some (get s.rows change.rid) = rows change.rid
          ∙ (ap (λ h. row_held txn h (get s.rows change.rid)) holder ∙ held_mine txn (get s.rows change.rid)) in
          let set : get (after s (MachineStep.Next txn)).rows change.rid ≡ change.row =
          ap (get (after s (MachineStep.Next txn)).rows) (sym at) ∙ (next_row s holds txn active owes older c changes ∙ ap (λ (w : Write). w.row) same) in
          stepped_row new txn change.rid (get s.rows change.rid) p a here had ∙ ap Some (now ∙ set)

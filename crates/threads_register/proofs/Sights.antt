-- What a session says of the core.
use Rattle.std.proofs.Common.{◌≡◌, ◌⊎◌, ℕ, Bool, true, false, cond, List, [], ◌++◌, Option, Some, None, is_some, not, ◌==◌, ◌&&◌, inl, inr, refl, sym, ap, ◌∙◌}
use Rattle.std.proofs.Common.{subst}
use Rattle.std.specs.FinMap.{get}
use Rattle.std.specs.Option.{option_map}
use Rattle.std.specs.Prelude.{slice_get, unwrap_or}
use Rattle.records.specs.RecordValue.{RecordValue}
use Rattle.record_values.specs.Values.{Place}
use Rattle.record_values.specs.declared.row.Row.{Row}
use Rattle.model.specs.Table.{Table}
use Rattle.model.specs.declared.write.Write.{Write}
use Rattle.txn_table.specs.Table.{holder_of, TxnState, rolls}
use Rattle.txn_table.specs.declared.progress.Progress.{Progress}
use Rattle.txn_table.specs.declared.progress.Progress.TheVariants.{OwesEntry, OwesRow, Ready, Rolling, UndoesEntry, UndoesRow}
use Rattle.core_model.specs.Changes.{Changes, Unchanged, ◌▹◌}
use Rattle.core_model.proofs.Laws.{same_some}
use Rattle.core_model.specs.Histories.{CanOpen, Opened, write_of}
use Rattle.core_model.specs.Invariants.{IsShaped}
use Rattle.core_model.specs.States.{Active, Phase, State}
use Rattle.core_model.specs.Steps.{is_indexed}
use Rattle.core_parts.specs.Moves.{IsReadyOrNone, OwesOrNone, txn_shown}
use Rattle.core_parts.specs.View.{AreOne, CoreValue, IsProgressOf}
use Rattle.threads_sessions.specs.Values.{active_of, ActiveValue, can_go_on, is_ready, rows_of, SessionValue}
use Rattle.threads_register.proofs.Lookups.{some_is}
use Rattle.threads_register.proofs.Seen.{agree_there}
use Rattle.threads_register.proofs.Served.{agreed}
use Rattle.threads_register.proofs.Told.{shows}
use Rattle.threads_register.specs.History.{ShowsCommits}
use Rattle.threads_register.specs.Agreement.{is_owed, IsRegister, IsSeen, newest_write, row_at, row_held}

-- the row of a place that the transaction holds is the one that is there
row_is : (t : ℕ) (holder : Option ℕ) (there row : Option Row) → row_held t holder there ≡ Some row → there ≡ row
row_is t None there row e = absurd cc
row_is t (Some u) there row e = by (t == u) e
  where
    by : (b : Bool) → cond b (Some there) None ≡ Some row → there ≡ row
    by true h = some_is there row h
    by false h = absurd cc

-- nothing is to be finished, and it isn't rolling back: then it is ready, as a step of a phase that is not over is owed
ready_at : (p : Progress) (x : Active) → IsProgressOf p x.phase → x.rolling ≡ rolls p → x.rolling ≡ false → (is_owed x.phase x.rolling ≡ true → ⊥) → p ≡ Ready
ready_at Ready x phase rolling still owes = refl
ready_at OwesRow x phase rolling still owes = absurd (owes (λ i. is_owed (phase i) (rolling i)))
ready_at OwesEntry x phase rolling still owes = absurd (owes (λ i. is_owed (phase i) (rolling i)))
ready_at Rolling x phase rolling still owes = absurd (both (sym rolling ∙ still))
  where
    both : true ≡ false → ⊥
    both e = absurd cc
ready_at UndoesRow x phase rolling still owes = absurd (both (sym rolling ∙ still))
  where
    both : true ≡ false → ⊥
    both e = absurd cc
ready_at UndoesEntry x phase rolling still owes = absurd (both (sym rolling ∙ still))
  where
    both : true ≡ false → ⊥
    both e = absurd cc

owes_at : (p : Progress) (x : Active) → IsProgressOf p x.phase → x.rolling ≡ rolls p → is_owed x.phase x.rolling ≡ true → (p ≡ OwesRow) ⊎ (p ≡ OwesEntry)
owes_at Ready x phase rolling owes = absurd (both (sym (λ i. is_owed (phase i) (rolling i)) ∙ owes))
  where
    both : false ≡ true → ⊥
    both e = absurd cc
owes_at OwesRow x phase rolling owes = inl refl
owes_at OwesEntry x phase rolling owes = inr refl
owes_at Rolling x phase rolling owes = absurd (both (sym (λ i. is_owed (phase i) (rolling i)) ∙ owes))
  where
    both : false ≡ true → ⊥
    both e = absurd cc
owes_at UndoesRow x phase rolling owes = absurd (both (sym (λ i. is_owed (phase.1 i) (rolling i)) ∙ owes))
  where
    both : false ≡ true → ⊥
    both e = absurd cc
owes_at UndoesEntry x phase rolling owes = absurd (both (sym (λ i. is_owed (phase i) (rolling i)) ∙ owes))
  where
    both : false ≡ true → ⊥
    both e = absurd cc

-- a transaction without a change owes nothing, and one whose owed change the session does not have owes nothing
owed_not : (indexed : Bool) (cs : Changes) (phase : Phase) (rolling : Bool) → IsShaped indexed cs phase
    → None ≡ cond (is_owed phase rolling) (newest_write cs) None → is_owed phase rolling ≡ true → ⊥
owed_not indexed Unchanged phase rolling shaped none owes = let both : false ≡ true = sym (ap (λ f. is_owed f rolling) shaped) ∙ owes in absurd cc
owed_not indexed (older ▹ c) phase rolling shaped none owes = let both : None ≡ Some (write_of c) = none
    ∙ ap (λ b. cond b (Some (write_of c)) None) owes in absurd cc

owed_so : (b : Bool) (w : Option Write) (change : Write) → cond b w None ≡ Some change → b ≡ true
owed_so true w change e = refl
owed_so false w change e = absurd cc

can_go : (a : ActiveValue) → can_go_on (Some a) ≡ true → (a.unfinished ≡ None) × (a.rolling ≡ false)
can_go a e = (
  none_is a.unfinished (first (not (is_some a.unfinished)) (not a.rolling) e),
  false_is a.rolling (second (not (is_some a.unfinished)) (not a.rolling) e),
)
  where
    first : (b c : Bool) → (b && c) ≡ true → b ≡ true
    first true c h = refl
    first false c h = absurd cc

    second : (b c : Bool) → (b && c) ≡ true → c ≡ true
    second true c h = h
    second false c h = absurd cc

    none_is : (x : Option Write) → not (is_some x) ≡ true → x ≡ None
    none_is None h = refl
    none_is (Some w) h = absurd cc

    false_is : (b : Bool) → not b ≡ true → b ≡ false
    false_is true h = absurd cc
    false_is false h = refl

module _ (o : Opened) (can : CanOpen o) (pushed : List RecordValue) (core : CoreValue) (book : List SessionValue) (r : IsRegister o pushed core book) (seat : ℕ)
    (p : SessionValue) (there : slice_get book seat ≡ Some p) (t : ℕ) where
  abbrev st : State
  st = r.kept.replied.state

  module _ (a : ActiveValue) (found : active_of t p.active ≡ Some a) where
    abbrev its : (b : ActiveValue) × (x : Active) × (active_of t p.active ≡ Some b) × (st.txns t ≡ Some x) × IsSeen st t b x
    its = agree_there st t (active_of t p.active) (st.txns t) (ap is_some found) (agreed o can pushed core book r seat p there t (ap is_some found))

    abbrev x : Active
    x = its.1

    sight : IsSeen st t a x
    sight = subst (λ b. IsSeen st t b x) (some_is its.0 a (sym its.2 ∙ found)) its.4

    view : (m : Option TxnState) → AreOne m (st.txns t) → (y : TxnState) → m ≡ Some y → IsProgressOf y.progress x.phase × (x.rolling ≡ rolls y.progress)
    view None one y is = absurd cc
    view (Some z) one y is =
        let same : one.0 ≡ x = same_some one.1 its.3 in
        let is_y : z ≡ y = some_is z y is in (
          subst (λ (w : TxnState). IsProgressOf w.progress x.phase) is_y (subst (λ (w : Active). IsProgressOf z.progress w.phase) same one.2.phase),
          ap (λ (w : Active). w.rolling) (sym same) ∙ one.2.rolling ∙ ap (λ (w : TxnState). rolls w.progress) is_y,
        )

    pub ready_here : a.unfinished ≡ None → a.rolling ≡ false → IsReadyOrNone (txn_shown core t)
    ready_here none still = by (txn_shown core t) (view (txn_shown core t) (r.kept.replied.stands.shown.txns t))
      where
        owes_not : is_owed x.phase x.rolling ≡ true → ⊥
        owes_not = owed_not (is_indexed st.life) x.changes x.phase x.rolling (r.kept.replied.stands.fit.txns t x its.3).shaped (sym none ∙ sight.unfinished)

        by : (m : Option TxnState) → ((y : TxnState) → m ≡ Some y → IsProgressOf y.progress x.phase × (x.rolling ≡ rolls y.progress)) → IsReadyOrNone m
        by None so = tt
        by (Some y) so = ready_at y.progress x (so y refl).0 (so y refl).1 (sym sight.rolling ∙ still) owes_not

    pub unfinished_here : (change : Write) → a.unfinished ≡ Some change → OwesOrNone (txn_shown core t)
    unfinished_here change is = by (txn_shown core t) (view (txn_shown core t) (r.kept.replied.stands.shown.txns t))
      where
        owes : is_owed x.phase x.rolling ≡ true
        owes = owed_so (is_owed x.phase x.rolling) (newest_write x.changes) change (sym sight.unfinished ∙ is)

        by : (m : Option TxnState) → ((y : TxnState) → m ≡ Some y → IsProgressOf y.progress x.phase × (x.rolling ≡ rolls y.progress)) → OwesOrNone m
        by None so = tt
        by (Some y) so = owes_at y.progress x (so y refl).0 (so y refl).1 owes

    pub rows_here : (rid : Place) (row : Option Row) → row_at rid a.rows ≡ Some row → get core.heap.rows rid ≡ row
    rows_here rid row is = ap (λ (m : Table). get m rid) (sym r.kept.replied.stands.shown.rows)
        ∙ row_is t (st.holder rid) (get st.rows rid) row (sym (sight.rows rid) ∙ is)

  pub ready : is_ready p t ≡ true → IsReadyOrNone (txn_shown core t)
  ready is = by (active_of t p.active) refl is
    where
      by : (o : Option ActiveValue) → active_of t p.active ≡ o → can_go_on o ≡ true → IsReadyOrNone (txn_shown core t)
      by None found can_it = absurd cc
      by (Some a) found can_it = let so = can_go a can_it in ready_here a found so.0 so.1

  -- what a commit would leave
  pub left_here : is_some (active_of t p.active) ≡ true → (q : Place)
      → row_at q (rows_of t p.active) ≡ row_held t (holder_of q core.txns.active) (get core.heap.rows q)
  left_here own q =
      let its = agree_there st t (active_of t p.active) (st.txns t) own (agreed o can pushed core book r seat p there t own) in
      ap (λ x. row_at q (unwrap_or (option_map (λ (a : ActiveValue). a.rows) x) [])) its.2
      ∙ (its.4.rows q ∙ (λ i. row_held t (r.kept.replied.stands.shown.holder q i) (get (r.kept.replied.stands.shown.rows i) q)))

-- the table at each record
pub tables : (o : Opened) → CanOpen o → (pushed : List RecordValue) (core : CoreValue) (book : List SessionValue) (r : IsRegister o pushed core book)
    → ShowsCommits o (pushed ++ core.outbox) core r.commits.commits
tables o can pushed core book r = shows o can r.kept.calls pushed core r.kept.replied r.commits.commits r.history.those r.history.rising

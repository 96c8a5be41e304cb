-- A seat reads back its own rows after a step.
use Rattle.std.proofs.Common.{◌≡◌, ℕ, Bool, true, false, List, [], Option, None, Some, Result, Ok, Err, IfOk, OnOk, refl, sym, subst}
use Rattle.std.proofs.Math.Logic.{∥∥₁_elim, ∥∥₁_map}
use Rattle.std.specs.Coded.{Coded-set, coded_option}
use Rattle.std.specs.FinMap.{get}
use Rattle.std.specs.Option.{option_map}
use Rattle.std.specs.Prelude.{slice_get, unwrap_or}
use Rattle.record_values.specs.Codes.{coded_row}
use Rattle.records.specs.RecordValue.{RecordValue}
use Rattle.record_values.specs.Values.{Place}
use Rattle.record_values.specs.declared.error.Error.{Error}
use Rattle.record_values.specs.declared.error.Error.TheVariants.{NoSuchTxn}
use Rattle.record_values.specs.declared.row.Row.{Row}
use Rattle.model.specs.declared.write.Write.{Write}
use Rattle.core_model.specs.Histories.{Opened}
use Rattle.core_model.specs.Events.{Event, Reply}
use Rattle.core_parts.specs.Replies.{reply_by}
use Rattle.core_parts.specs.View.{CoreValue, Serves}
use Rattle.threads_sessions.specs.Steps.{changed, stepped}
use Rattle.threads_sessions.specs.Values.{active_of, ActiveValue, is_active, SessionValue}
use Rattle.threads_register.proofs.Laws.{delete_reads, insert_reads, rows_seen, step_reads, update_reads}
use Rattle.threads_register.specs.Agreement.{row_at}
use Rattle.threads_register.specs.Reading.{ReadsBack, ShowsRow, unfinished_of}
use Rattle.locked_core.specs.Names.{IsShared}

module _ (o : Opened) (core new : CoreValue) (pushed : List RecordValue) (book : List SessionValue) (k : ℕ) (p q : SessionValue)
    (there : slice_get book k ≡ Some p) (shared : ∥ IsShared o core pushed book ∥₁) (txn : ℕ) where
  -- a call that isn't refused is of a transaction of the seat
  own : {T : Type 0} (x : T) → (is_active p txn ≡ false → (◌≡◌ {A = Result T Error} (Ok x) (Err NoSuchTxn)) × (new ≡ core)) → is_active p txn ≡ true
  own {T} x foreign = by (is_active p txn) refl
    where
      not_both : (◌≡◌ {A = Result T Error} (Ok x) (Err NoSuchTxn)) → ⊥
      not_both is = absurd cc

      by : (b : Bool) → is_active p txn ≡ b → is_active p txn ≡ true
      by true is = is
      by false is = absurd (not_both (foreign is).0)

  pub insert_row : (row : Row) (result : Result Place Error) → (is_active p txn ≡ false → (result ≡ Err NoSuchTxn) × (new ≡ core))
      → (is_active p txn ≡ true → Serves core (Event.Insert txn row) (reply_by Reply.Rid result) new)
      → IfOk result (λ rid. q ≡ changed p new txn (record { rid = rid; row = Some row }))
      → IfOk result (λ rid. ShowsRow txn (record { rid = rid; row = Some row }) q)
  insert_row row (Ok rid) foreign serves ok =
      let mine = own rid foreign in
      subst (ShowsRow txn (record { rid = rid; row = Some row })) (sym ok)
      (∥∥₁_elim shared (Coded-set (coded_option (coded_option coded_row)) _ _) (λ (h : IsShared o core pushed book).
      insert_reads o h.opens pushed core book h.register k p there txn mine row rid new (serves mine)))
  insert_row row (Err e) foreign serves ok = tt

  pub delete_row : (rid : Place) (result : Result (Unit {0}) Error) → (is_active p txn ≡ false → (result ≡ Err NoSuchTxn) × (new ≡ core))
      → (is_active p txn ≡ true → Serves core (Event.Delete txn rid) (reply_by (λ _. Reply.Stepped) result) new)
      → OnOk result (q ≡ changed p new txn (record { rid = rid; row = None }))
      → OnOk result ∥ ReadsBack (get core.heap.rows rid) txn (record { rid = rid; row = None }) q ∥₁
  delete_row rid (Ok x) foreign serves ok =
      let mine = own x foreign in
      subst (λ y. ∥ ReadsBack (get core.heap.rows rid) txn (record { rid = rid; row = None }) y ∥₁) (sym ok)
      (∥∥₁_map shared (λ (h : IsShared o core pushed book). delete_reads o h.opens pushed core book h.register k p there txn mine rid new (serves mine)))
  delete_row rid (Err e) foreign serves ok = tt

  pub update_row : (rid : Place) (row : Row) (result : Result (Unit {0}) Error) → (is_active p txn ≡ false → (result ≡ Err NoSuchTxn) × (new ≡ core))
      → (is_active p txn ≡ true → Serves core (Event.Update txn rid row) (reply_by (λ _. Reply.Stepped) result) new)
      → OnOk result (q ≡ changed p new txn (record { rid = rid; row = Some row }))
      → OnOk result ∥ ReadsBack (get core.heap.rows rid) txn (record { rid = rid; row = Some row }) q ∥₁
  update_row rid row (Ok x) foreign serves ok =
      let mine = own x foreign in
      subst (λ y. ∥ ReadsBack (get core.heap.rows rid) txn (record { rid = rid; row = Some row }) y ∥₁) (sym ok)
      (∥∥₁_map shared (λ (h : IsShared o core pushed book). update_reads o h.opens pushed core book h.register k p there txn mine rid row new (serves mine)))
  update_row rid row (Err e) foreign serves ok = tt

  pub step_row : (result : Result (Unit {0}) Error) → (is_active p txn ≡ false → (result ≡ Err NoSuchTxn) × (new ≡ core))
      → (is_active p txn ≡ true → Serves core (Event.Step txn) (reply_by (λ _. Reply.Stepped) result) new)
      → OnOk result (q ≡ stepped p new txn) → OnOk result ((change : Write) → unfinished_of p txn ≡ Some change → ShowsRow txn change q)
  step_row (Ok x) foreign serves ok = λ change finish.
      let mine = own x foreign in
      subst (ShowsRow txn change) (sym ok)
      (∥∥₁_elim shared (Coded-set (coded_option (coded_option coded_row)) _ _) (λ (h : IsShared o core pushed book).
      step_reads o h.opens pushed core book h.register k p there txn mine change finish new (serves mine)))
  step_row (Err e) foreign serves ok = tt

-- ---- a row that is held

pub held_row : (o : Opened) (core : CoreValue) (pushed : List RecordValue) (book : List SessionValue) → ∥ IsShared o core pushed book ∥₁
    → (k : ℕ) (session : SessionValue) → slice_get book k ≡ Some session → (txn : ℕ) (rid : Place) (row : Option Row)
    → ShowsRow txn (record { rid = rid; row = row }) session → get core.heap.rows rid ≡ row
held_row o core pushed book shared k session there txn rid row shows =
    ∥∥₁_elim shared (Coded-set (coded_option coded_row) _ _) (λ (h : IsShared o core pushed book). by h (active_of txn session.active) refl shows)
  where
    by : IsShared o core pushed book → (found : Option ActiveValue) → active_of txn session.active ≡ found
        → row_at rid (unwrap_or (option_map (λ (a : ActiveValue). a.rows) found) []) ≡ Some row → get core.heap.rows rid ≡ row
    by h None here is = absurd cc
    by h (Some a) here is = rows_seen o h.opens pushed core book h.register k session there txn a here rid row is

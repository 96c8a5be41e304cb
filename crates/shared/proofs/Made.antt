-- A change of a seat, for whoever was not under the lock.
use Rattle.std.proofs.Common.{◌≡◌, ◌≢◌, ◌⊎◌, inl, inr, ⊎_elim, ℕ, Bool, true, false, List, Option, None, Some, Result, Ok, Err, IfOk, OnOk, is_some, refl, sym}
use Rattle.std.proofs.Common.{ap, ◌∙◌, subst}
use Rattle.std.proofs.Math.Logic.{∥∥₁_elim, ∥∥₁_map, ∥∥₁_map₂, ∥∥₁_prop}
use Rattle.std.specs.FinMap.{get}
use Rattle.std.specs.Prelude.{slice_get}
use Rattle.records.specs.RecordValue.{RecordValue}
use Rattle.record_values.specs.Values.{Place}
use Rattle.record_values.specs.declared.error.Error.{Error}
use Rattle.record_values.specs.declared.error.Error.TheVariants.{NoSuchTxn}
use Rattle.record_values.specs.declared.row.Row.{Row}
use Rattle.model.specs.declared.write.Write.{Write}
use Rattle.core_model.specs.Events.{Event, Reply}
use Rattle.core_model.specs.Histories.{Opened}
use Rattle.core_parts.specs.Replies.{reply_by}
use Rattle.core_parts.specs.View.{CoreValue, Serves}
use Rattle.locked_core.specs.Names.{IsShared}
use Rattle.threads_sessions.specs.Steps.{changed, stepped}
use Rattle.threads_sessions.specs.Values.{active_of, ActiveValue, has_unfinished, is_active, is_ready, is_unfinished, SessionValue}
use Rattle.threads_register.specs.Reading.{ReadsBack}
use Rattle.shared.specs.Changed.{HasChanged, IsUnderWay, row_of, unfinished_of}
use Rattle.shared.specs.Served.{WasChanged}
use Rattle.shared.proofs.Advances.{deleted, followed, inserted, updated}
use Rattle.shared.proofs.Lookups.{unfinished_is_some}
use Rattle.shared.proofs.Single.{rows_single, under_way_single}

-- what is asked of a transaction that is the seat's
owned : {T : Type 0} (b : Bool) (result : Result T Error) (x : T) → result ≡ Ok x → (b ≡ false → result ≡ Err NoSuchTxn) → b ≡ true
owned true result x is foreign = refl
owned false result x is foreign = absurd (not_both (sym is ∙ foreign refl))
  where
    not_both : Ok x ≡ Err NoSuchTxn → ⊥
    not_both e = absurd cc

module _ (o : Opened) (core new : CoreValue) (pushed : List RecordValue) (book : List SessionValue) (shared : ∥ IsShared o core pushed book ∥₁)
    (seat : ℕ) (p q : SessionValue) (there : slice_get book seat ≡ Some p) (t : ℕ) where
  pub insert_made : (is_active p t ≡ true → is_ready p t ≡ true) → (row : Row) (result : Result Place Error) → (is_active p t ≡ false → result ≡ Err NoSuchTxn)
      → (is_active p t ≡ true → Serves core (Event.Insert t row) (reply_by Reply.Rid result) new)
      → IfOk result (λ rid. q ≡ changed p new t (record { rid = rid; row = Some row }))
      → IfOk result (λ rid. IsUnderWay p t (record { rid = rid; row = Some row }) q)
  insert_made ready row (Ok rid) foreign served is =
      let own = owned (is_active p t) (Ok rid) rid refl foreign in
      let w : Write = record { rid = rid; row = Some row } in
      subst (IsUnderWay p t w) (sym is) (∥∥₁_elim shared (under_way_single p t w (changed p new t w)) (λ all.
      inserted o all.opens pushed core new book all.register seat p there t own (ready own) row rid (served own)))
  insert_made ready row (Err e) foreign served is = tt

  pub delete_made : (is_active p t ≡ true → is_ready p t ≡ true) → (rid : Place) (result : Result (Unit {0}) Error)
      → (is_active p t ≡ false → result ≡ Err NoSuchTxn)
      → (is_active p t ≡ true → Serves core (Event.Delete t rid) (reply_by (λ _. Reply.Stepped) result) new)
      → OnOk result (q ≡ changed p new t (record { rid = rid; row = None }))
      → OnOk result (IsUnderWay p t (record { rid = rid; row = None }) q)
  delete_made ready rid (Ok x) foreign served is =
      let own = owned (is_active p t) (Ok x) x refl foreign in
      let w : Write = record { rid = rid; row = None } in
      subst (IsUnderWay p t w) (sym is) (∥∥₁_elim shared (under_way_single p t w (changed p new t w)) (λ all.
      deleted o all.opens pushed core new book all.register seat p there t own (ready own) rid (served own)))
  delete_made ready rid (Err e) foreign served is = tt

  pub update_made : (is_active p t ≡ true → is_ready p t ≡ true) → (rid : Place) (row : Row) (result : Result (Unit {0}) Error)
      → (is_active p t ≡ false → result ≡ Err NoSuchTxn)
      → (is_active p t ≡ true → Serves core (Event.Update t rid row) (reply_by (λ _. Reply.Stepped) result) new)
      → OnOk result (q ≡ changed p new t (record { rid = rid; row = Some row }))
      → OnOk result (IsUnderWay p t (record { rid = rid; row = Some row }) q)
  update_made ready rid row (Ok x) foreign served is =
      let own = owned (is_active p t) (Ok x) x refl foreign in
      let w : Write = record { rid = rid; row = Some row } in
      subst (IsUnderWay p t w) (sym is) (∥∥₁_elim shared (under_way_single p t w (changed p new t w)) (λ all.
      updated o all.opens pushed core new book all.register seat p there t own (ready own) rid row (served own)))
  update_made ready rid row (Err e) foreign served is = tt

  pub step_made : (result : Result (Unit {0}) Error) → (is_active p t ≡ false → result ≡ Err NoSuchTxn)
      → (is_active p t ≡ true → Serves core (Event.Step t) (reply_by (λ _. Reply.Stepped) result) new) → OnOk result (q ≡ stepped p new t)
      → OnOk result ((w : Write) → unfinished_of p t ≡ Some w → IsUnderWay p t w q)
  step_made (Ok x) foreign served is = λ w asked.
      let own = owned (is_active p t) (Ok x) x refl foreign in
      subst (IsUnderWay p t w) (sym is) (∥∥₁_elim shared (under_way_single p t w (stepped p new t)) (λ all.
      followed o all.opens pushed core new book all.register seat p there t own w asked (served own)))
  step_made (Err e) foreign served is = tt

  -- a change was begun, by its first step
  pub was_changed : (e : Event) (w : Write) (result : Result (Unit {0}) Error) → (is_active p t ≡ false → result ≡ Err NoSuchTxn)
      → (is_active p t ≡ true → Serves core e (reply_by (λ _. Reply.Stepped) result) new)
      → OnOk result ∥ ReadsBack (get core.heap.rows w.rid) t w q ∥₁ → OnOk result ∥ WasChanged o seat p e t w q ∥₁
  was_changed e w (Ok x) foreign served row =
      let own = owned (is_active p t) (Ok x) x refl foreign in
      ∥∥₁_map₂ shared row (λ all back.
      record { begun = record { core = core; new = new; pushed = pushed; book = book; shared = all; here = there; serves = served own }; row = back })
  was_changed e w (Err error) foreign served row = tt

-- ---- one step after another

module _ (t : ℕ) (w : Write) where
  -- nothing is made yet, of a change that is to be finished
  pub nothing_made : (p : SessionValue) → unfinished_of p t ≡ Some w → IsUnderWay p t w p
  nothing_made p is = record {
    others = refl;
    rows = λ q apart. refl;
    unfinished = λ there. is;
    row = λ none. absurd (never none);
    ready = λ none.
        absurd (never none);
    stays = λ before there. ∣ inl there ∣₁;
  }
    where
      never : unfinished_of p t ≡ None → ⊥
      never none = not_both (sym is ∙ none)
        where
          not_both : Some w ≡ None → ⊥
          not_both e = absurd cc

  pub more_made : (p q r : SessionValue) → IsUnderWay p t w q → IsUnderWay q t w r → IsUnderWay p t w r
  more_made p q r a b = record {
    others = b.others ∙ a.others;
    rows = λ x apart. b.rows x apart
        ∙ a.rows x apart;
    unfinished = b.unfinished;
    row = b.row;
    ready = b.ready;
    stays = λ before is. ∥∥₁_elim (a.stays before is) ∥∥₁_prop (both before);
  }
    where
      both : (before : Option Row) → (row_of q t w.rid ≡ Some before) ⊎ (row_of q t w.rid ≡ Some w.row) → ∥ (row_of r t w.rid ≡ Some before)
          ⊎ (row_of r t w.rid ≡ Some w.row) ∥₁
      both before (inl there) = b.stays before there
      both before (inr there) = ∥∥₁_map (b.stays w.row there)
          (⊎_elim (λ (x : row_of r t w.rid ≡ Some w.row). inr x) (λ (x : row_of r t w.rid ≡ Some w.row). inr x))

  -- the first step, and then those that follow
  pub all_made : (p q r : SessionValue) (refusal : Option Error) → IsUnderWay p t w q → (unfinished_of q t ≡ None → (refusal ≡ None) × (r ≡ q))
      → ((v : Write) → unfinished_of q t ≡ Some v → HasChanged q t v refusal r) → HasChanged p t w refusal r
  all_made p q r refusal first none some = by (unfinished_of q t) refl
    where
      rest : (e : Option Error) → HasChanged q t w e r → HasChanged p t w e r
      rest None h = (more_made p q r first h.0, h.1)
      rest (Some e) h = (more_made p q r first h.0, h.1)

      by : (u : Option Write) → unfinished_of q t ≡ u → HasChanged p t w refusal r
      by None is =
          let done = none is in
          subst (λ e. HasChanged p t w e r) (sym done.0) (subst (IsUnderWay p t w) (sym done.1) first, ap (λ (v : SessionValue). unfinished_of v t) done.1 ∙ is)
      by (Some v) is = rest refusal (some w (first.unfinished (λ none. never (sym is ∙ none))))
        where
          never : Some v ≡ None → ⊥
          never e = absurd cc

  -- the row at the place, after the steps that follow the first one
  module _ (before : Option Row) (p q r : SessionValue) (refusal : Option Error) (first : IsUnderWay p t w q) (none : unfinished_of q t ≡ None
      → (refusal ≡ None) × (r ≡ q)) (some : (v : Write) → unfinished_of q t ≡ Some v → HasChanged q t v refusal r) where
    -- what is made of the change in the end
    end_made : (e : Option Error) → HasChanged q t w e r → IsUnderWay q t w r
    end_made None h = h.0
    end_made (Some e) h = h.0

    end_row : (e : Option Error) → HasChanged q t w e r → row_of r t w.rid ≡ Some before → ReadsBack before t w r
    end_row None h there = inl (h.0.row h.1)
    end_row (Some e) h there = inr (h.1, there)

    then_row : HasChanged q t w refusal r → ReadsBack before t w q → ∥ ReadsBack before t w r ∥₁
    then_row h (inl there) = ∥∥₁_map ((end_made refusal h).stays w.row there)
        (⊎_elim (λ (x : row_of r t w.rid ≡ Some w.row). inl x) (λ (x : row_of r t w.rid ≡ Some w.row). inl x))
    then_row h (inr old) = ∥∥₁_map ((end_made refusal h).stays before old.1)
        (⊎_elim (λ (x : row_of r t w.rid ≡ Some before). end_row refusal h x) (λ (x : row_of r t w.rid ≡ Some w.row). inl x))

    pub reads_back : ReadsBack before t w q → ∥ ReadsBack before t w r ∥₁
    reads_back there = by (unfinished_of q t) refl
      where
        by : (u : Option Write) → unfinished_of q t ≡ u → ∥ ReadsBack before t w r ∥₁
        by None is = ∣ subst (ReadsBack before t w) (sym (none is).1) there ∣₁
        by (Some v) is = then_row (some w (first.unfinished (λ none. never (sym is ∙ none)))) there
          where
            never : Some v ≡ None → ⊥
            never e = absurd cc

  -- a change that was begun so, after the steps that follow
  pub changed_on : (o : Opened) (seat : ℕ) (e : Event) (p q r : SessionValue) (refusal : Option Error) → IsUnderWay p t w q
      → (unfinished_of q t ≡ None → (refusal ≡ None) × (r ≡ q)) → ((v : Write) → unfinished_of q t ≡ Some v → HasChanged q t v refusal r)
      → ∥ WasChanged o seat p e t w q ∥₁ → ∥ WasChanged o seat p e t w r ∥₁
  changed_on o seat e p q r refusal first none some was =
      ∥∥₁_elim was ∥∥₁_prop (λ (c : WasChanged o seat p e t w q).
      ∥∥₁_map (reads_back (get c.begun.core.heap.rows w.rid) p q r refusal first none some c.row) (λ row. record { begun = c.begun; row = row }))

  -- a row that is set by the first step stays
  pub set_row : (p q r : SessionValue) (refusal : Option Error) → IsUnderWay p t w q → (unfinished_of q t ≡ None → (refusal ≡ None) × (r ≡ q))
      → ((v : Write) → unfinished_of q t ≡ Some v → HasChanged q t v refusal r) → row_of q t w.rid ≡ Some w.row → row_of r t w.rid ≡ Some w.row
  set_row p q r refusal first none some there = ∥∥₁_elim (reads_back w.row p q r refusal first none some (inl there))
      (rows_single (row_of r t w.rid) (Some w.row)) (⊎_elim (λ (x : row_of r t w.rid ≡ Some w.row). x)
      (λ (x : (unfinished_of r t ≡ Some w) × (row_of r t w.rid ≡ Some w.row)). x.1))

pub not_unfinished : (p : SessionValue) (t : ℕ) → is_unfinished p t ≡ false → unfinished_of p t ≡ None
not_unfinished p t is = by (unfinished_of p t) refl (sym (unfinished_is_some p t) ∙ is)
  where
    by : (u : Option Write) → unfinished_of p t ≡ u → is_some u ≡ false → u ≡ None
    by None e none = refl
    by (Some w) e none = absurd cc

pub has_change : (p : SessionValue) (t : ℕ) → is_unfinished p t ≡ true → (w : Write) × (unfinished_of p t ≡ Some w)
has_change p t is = by (unfinished_of p t) refl (sym (unfinished_is_some p t) ∙ is)
  where
    by : (u : Option Write) → unfinished_of p t ≡ u → is_some u ≡ true → (w : Write) × (unfinished_of p t ≡ Some w)
    by None e none = absurd cc
    by (Some w) e some = (w, e)

pub active_too : (p : SessionValue) (t : ℕ) → is_unfinished p t ≡ true → is_active p t ≡ true
active_too p t = by (active_of t p.active)
  where
    by : (o : Option ActiveValue) → has_unfinished o ≡ true → is_some o ≡ true
    by None e = absurd cc
    by (Some a) e = refl

pub not_none : (p : SessionValue) (t : ℕ) → is_unfinished p t ≡ true → unfinished_of p t ≢ None
not_none p t is none = never (sym is ∙ (unfinished_is_some p t ∙ ap is_some none))
  where
    never : true ≡ false → ⊥
    never e = absurd cc

-- a step was refused
pub left_over : (t : ℕ) (w : Write) (p q r : SessionValue) → IsUnderWay p t w q → is_unfinished q t ≡ true → r ≡ q → IsUnderWay p t w r
    × (unfinished_of r t ≡ Some w)
left_over t w p q r made is same = subst (λ (v : SessionValue). IsUnderWay p t w v
    × (unfinished_of v t ≡ Some w)) (sym same) (made, made.unfinished (not_none q t is))

-- a change is left to one of the seat's transactions alone
pub none_foreign : (p : SessionValue) (t : ℕ) (w : Write) → false ≡ is_active p t → unfinished_of p t ≡ Some w → ⊥
none_foreign p t w foreign asked = never (foreign ∙ active_too p t (unfinished_is_some p t ∙ ap is_some asked))
  where
    never : false ≡ true → ⊥
    never e = absurd cc

pub not_refused : (e : Error) → Some e ≡ None → ⊥
not_refused e none = absurd cc

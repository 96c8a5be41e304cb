-- What is shared, after a step of a seat.
use Rattle.std.proofs.Common.{◌≡◌, ◌⊎◌, ◌+◌, ℕ, zero, suc, Bool, true, false, List, [], ◌∷◌, map, Option, None, Some, Result, Ok, Err, IfOk, OnOk, OnErr, inl}
use Rattle.std.proofs.Common.{inr, refl, sym, ap, ◌∙◌, subst, arith}
use Rattle.std.proofs.Math.Logic.{∥∥₁_elim, ∥∥₁_map}
use mathlib.Core.HLevel.{⊥_prop}
use Rattle.std.specs.Prelude.{slice_get, slice_set}
use Rattle.records.specs.RecordValue.{RecordValue}
use Rattle.record_values.specs.Values.{Place}
use Rattle.record_values.specs.declared.pair.Pair.{Pair}
use Rattle.record_values.specs.declared.error.Error.{Error}
use Rattle.record_values.specs.declared.error.Error.TheVariants.{NoSuchTxn}
use Rattle.record_values.specs.declared.row.Row.{Row}
use Rattle.atomic_table.specs.Seated.{TableId}
use Rattle.threads_register.specs.Calls.{BeginsWith}
use Rattle.core_model.specs.Histories.{CanOpen, Opened}
use Rattle.core_model.specs.Events.{Event, Refused, Reply}
use Rattle.txn_table.specs.Table.{TxnState}
use Rattle.txn_table.specs.declared.progress.Progress.{Progress}
use Rattle.txn_table.specs.declared.progress.Progress.TheVariants.{OwesEntry, OwesRow, Ready, Rolling, UndoesEntry, UndoesRow}
use Rattle.nsf_core.specs.Outbox.{HandsOn}
use Rattle.core_parts.specs.Replies.{reply_by, reply_of_detached, reply_of_ticket}
use Rattle.core_parts.specs.View.{CoreValue, Serves}
use Rattle.core_parts.specs.Moves.{IsReadyOrNone, txn_shown}
use Rattle.core_parts.specs.Passing.{HasKept, PassesLive}
use Rattle.core_parts.specs.Undoing.{undone_reply}
use Rattle.core_parts.specs.declared.parts.Detached.{Detached}
use Rattle.core_parts.specs.declared.parts.Ticket.{Ticket}
use Rattle.core_parts.specs.declared.reply.Undone.{Undone}
use Rattle.threads_sessions.specs.Halves.{HalfValue, IsBook, IsNew, shown}
use Rattle.threads_sessions.specs.declared.turn.Turn.{Turn}
use Rattle.threads_sessions.specs.Steps.{begun, changed, committed, ended, rolling_back, with_turn}
use Rattle.threads_sessions.specs.Values.{empty_session, is_active, is_ready, SessionValue}
use Rattle.threads_register.proofs.Laws.{begin_agreed, commit_agreed, create_agreed, delete_agreed, drop_agreed, end_agreed, insert_agreed, opened_agreed}
use Rattle.threads_register.proofs.Laws.{others_agreed, pushed_agreed, ready_seen, refused_agreed, tables_shown, undo_agreed, update_agreed}
use Rattle.threads_register.specs.Agreement.{IsOfNoSeat, IsRegister}
use Rattle.threads_register.specs.Register.{AreEmpty}
use Rattle.threads_register.proofs.Laws.{some_is}
use Rattle.locked_core.proofs.Book.{set_itself}
use Rattle.locked_core.specs.Names.{IsShared}

-- the book, where it is told with the session after the step
pub kept_in : (o : Opened) (core new : CoreValue) (pushed : List RecordValue) (book after : List SessionValue) (k : ℕ) (q : SessionValue)
    → after ≡ slice_set book k q → ∥ IsShared o core pushed book ∥₁ → (IsShared o core pushed book → IsShared o new pushed (slice_set book k q))
    → ∥ IsShared o new pushed after ∥₁
kept_in o core new pushed book after k q is shared step = ∥∥₁_map shared (λ (s : IsShared o core pushed book). subst (IsShared o new pushed) (sym is) (step s))

module _ (o : Opened) (core new : CoreValue) (pushed : List RecordValue) (book : List SessionValue) (k : ℕ) (p q : SessionValue)
    (there : slice_get book k ≡ Some p) (shared : IsShared o core pushed book) where
  stepped : IsRegister o pushed new (slice_set book k q) → IsShared o new pushed (slice_set book k q)
  stepped register = record { opens = shared.opens; register = register; tables = tables_shown o shared.opens pushed new (slice_set book k q) register }

  -- a call that was refused leaves the session as it was
  refused : (e : Event) (error : Error) → Serves core e (Refused error) new → q ≡ p → IsShared o new pushed (slice_set book k q)
  refused e error is same = stepped (subst (IsRegister o pushed new) (sym (ap (slice_set book k) same ∙ set_itself book k p there))
      (refused_agreed o shared.opens pushed core book shared.register e error new is))

  -- a call for a transaction: one that is not the seat's is unknown, and the core is as it was
  module _ {T : Type 0} (txn : ℕ) (e : Event) (f : T → Reply) (g : T → SessionValue)
      (kept : is_active p txn ≡ true → (x : T) → Serves core e (f x) new → IsRegister o pushed new (slice_set book k (g x))) where
    own_kept : (result : Result T Error) → is_active p txn ≡ true → Serves core e (reply_by f result) new → IfOk result (λ x. q ≡ g x) → OnErr result (q ≡ p)
        → IsShared o new pushed (slice_set book k q)
    own_kept (Ok x) own is ok err = stepped (subst (λ y. IsRegister o pushed new (slice_set book k y)) (sym ok) (kept own x is))
    own_kept (Err error) own is ok err = refused e error is err

    foreign_kept : (result : Result T Error) → (result ≡ Err NoSuchTxn) × (new ≡ core) → OnErr result (q ≡ p) → IsShared o new pushed (slice_set book k q)
    foreign_kept (Ok x) foreign err = absurd (not_ok foreign.0)
      where
        not_ok : Ok x ≡ Err NoSuchTxn → ⊥
        not_ok is = absurd cc
    foreign_kept (Err error) foreign err = subst (λ v. IsShared o v pushed (slice_set book k q)) (sym foreign.1)
        (subst (IsShared o core pushed) (sym (ap (slice_set book k) err ∙ set_itself book k p there)) shared)

    pub txn_kept : (result : Result T Error) → (is_active p txn ≡ false → (result ≡ Err NoSuchTxn) × (new ≡ core))
        → (is_active p txn ≡ true → Serves core e (reply_by f result) new)
        → IfOk result (λ x. q ≡ g x) → OnErr result (q ≡ p) → IsShared o new pushed (slice_set book k q)
    txn_kept result foreign is ok err = by (is_active p txn) refl
      where
        by : (b : Bool) → is_active p txn ≡ b → IsShared o new pushed (slice_set book k q)
        by true own = own_kept result own (is own) ok err
        by false none = foreign_kept result (foreign none) err

  pub insert_kept : (txn : ℕ) (row : Row) (result : Result Place Error) → (is_active p txn ≡ false → (result ≡ Err NoSuchTxn) × (new ≡ core))
      → (is_active p txn ≡ true → Serves core (Event.Insert txn row) (reply_by Reply.Rid result) new)
      → IfOk result (λ rid. q ≡ changed p new txn (record { rid = rid; row = Some row })) → OnErr result (q ≡ p) → IsShared o new pushed (slice_set book k q)
  insert_kept txn row = txn_kept txn (Event.Insert txn row) Reply.Rid (λ rid. changed p new txn (record { rid = rid; row = Some row }))
      (λ own rid is. insert_agreed o shared.opens pushed core book shared.register k p there txn own row rid new is)

  pub delete_kept : (txn : ℕ) (rid : Place) (result : Result (Unit {0}) Error) → (is_active p txn ≡ false → (result ≡ Err NoSuchTxn) × (new ≡ core))
      → (is_active p txn ≡ true → Serves core (Event.Delete txn rid) (reply_by (λ _. Reply.Stepped) result) new)
      → OnOk result (q ≡ changed p new txn (record { rid = rid; row = None })) → OnErr result (q ≡ p) → IsShared o new pushed (slice_set book k q)
  delete_kept txn rid = txn_kept txn (Event.Delete txn rid) (λ _. Reply.Stepped) (λ _. changed p new txn (record { rid = rid; row = None }))
      (λ own done is. delete_agreed o shared.opens pushed core book shared.register k p there txn own rid new is)

  pub update_kept : (txn : ℕ) (rid : Place) (row : Row) (result : Result (Unit {0}) Error) → (is_active p txn ≡ false → (result ≡ Err NoSuchTxn) × (new ≡ core))
      → (is_active p txn ≡ true → Serves core (Event.Update txn rid row) (reply_by (λ _. Reply.Stepped) result) new)
      → OnOk result (q ≡ changed p new txn (record { rid = rid; row = Some row })) → OnErr result (q ≡ p) → IsShared o new pushed (slice_set book k q)
  update_kept txn rid row = txn_kept txn (Event.Update txn rid row) (λ _. Reply.Stepped) (λ _. changed p new txn (record { rid = rid; row = Some row }))
      (λ own done is. update_agreed o shared.opens pushed core book shared.register k p there txn own rid row new is)

  pub undo_kept : (txn : ℕ) (result : Result Undone Error) → (is_active p txn ≡ false → (result ≡ Err NoSuchTxn) × (new ≡ core))
      → (is_active p txn ≡ true → Serves core (Event.Undo txn) (reply_by undone_reply result) new)
      → OnOk result (q ≡ rolling_back p new txn) → OnErr result (q ≡ p) → IsShared o new pushed (slice_set book k q)
  undo_kept txn result foreign is = txn_kept txn (Event.Undo txn) undone_reply (λ _. rolling_back p new txn)
      (λ own answer serves. undo_agreed o shared.opens pushed core book shared.register k p there txn own answer new serves) result foreign is

  pub end_kept : (txn : ℕ) (result : Result (Unit {0}) Error) → (is_active p txn ≡ false → (result ≡ Err NoSuchTxn) × (new ≡ core))
      → (is_active p txn ≡ true → Serves core (Event.End txn) (reply_by (λ _. Reply.Ended) result) new)
      → OnOk result (q ≡ ended p txn) → OnErr result (q ≡ p) → IsShared o new pushed (slice_set book k q)
  end_kept txn result foreign is = txn_kept txn (Event.End txn) (λ _. Reply.Ended) (λ _. ended p txn)
      (λ own done serves. end_agreed o shared.opens pushed core book shared.register k p there txn own new serves) result foreign is

  pub commit_kept : (txn : ℕ) (result : Result Ticket Error) → (is_active p txn ≡ false → (result ≡ Err NoSuchTxn) × (new ≡ core))
      → (is_active p txn ≡ true → Serves core (Event.Commit txn) (reply_by reply_of_ticket result) new)
      → IfOk result (λ ticket. q ≡ committed p txn ticket) → OnErr result (q ≡ p) → IsShared o new pushed (slice_set book k q)
  commit_kept txn = txn_kept txn (Event.Commit txn) reply_of_ticket (λ ticket. committed p txn ticket)
      (λ own ticket is. commit_agreed o shared.opens pushed core book shared.register k p there txn own ticket new is)

  pub create_kept : (result : Result Ticket Error) → Serves core Event.Create (reply_by reply_of_ticket result) new
      → IfOk result (λ ticket. q ≡ with_turn p (Turn.Created ticket.«record»)) → OnErr result (q ≡ p) → IsShared o new pushed (slice_set book k q)
  create_kept (Ok ticket) is ok err =
      stepped (subst (λ x. IsRegister o pushed new (slice_set book k x)) (sym ok)
      (create_agreed o shared.opens pushed core book shared.register k p there ticket new is))
  create_kept (Err e) is ok err = refused Event.Create e is err

  pub drop_kept : {A : Type 0} (result : Result (Detached A) Error) → Serves core Event.Drop (reply_by reply_of_detached result) new
      → IfOk result (λ d. q ≡ with_turn p (Turn.Dropped d.ticket.«record»)) → OnErr result (q ≡ p) → IsShared o new pushed (slice_set book k q)
  drop_kept (Ok dropped) is ok err =
      stepped (subst (λ x. IsRegister o pushed new (slice_set book k x)) (sym ok)
      (drop_agreed o shared.opens pushed core book shared.register k p there dropped.ticket new is))
  drop_kept (Err e) is ok err = refused Event.Drop e is err

  pub begin_kept : (result : Result ℕ Error) → Serves core Event.Begin (reply_by Reply.Txn result) new → IfOk result (λ txn. q ≡ begun p txn)
      → OnErr result (q ≡ p) → IsShared o new pushed (slice_set book k q)
  begin_kept (Ok txn) is ok err =
      stepped (subst (λ x. IsRegister o pushed new (slice_set book k x)) (sym ok)
      (begin_agreed o shared.opens pushed core book shared.register k p there txn new is))
  begin_kept (Err e) is ok err = refused Event.Begin e is err

-- ---- a transaction that is ready in its seat's session

ready_or_not : (o : Option TxnState) → IsReadyOrNone o ⊎ (IsReadyOrNone o → ⊥)
ready_or_not None = inl tt
ready_or_not (Some x) = by x.progress
  where
    by : (p : Progress) → (p ≡ Ready) ⊎ ((p ≡ Ready) → ⊥)
    by Ready = inl refl
    by OwesRow = inr (λ e. (absurd cc))
    by OwesEntry = inr (λ e. (absurd cc))
    by Rolling = inr (λ e. (absurd cc))
    by UndoesRow = inr (λ e. (absurd cc))
    by UndoesEntry = inr (λ e. (absurd cc))

pub ready_now : (o : Opened) (core : CoreValue) (pushed : List RecordValue) (book : List SessionValue) (k : ℕ) (p : SessionValue) → slice_get book k ≡ Some p
    → ∥ IsShared o core pushed book ∥₁ → (txn : ℕ) → is_ready p txn ≡ true → IsReadyOrNone (txn_shown core txn)
ready_now o core pushed book k p there shared txn ready = by (ready_or_not (txn_shown core txn))
  where
    by : IsReadyOrNone (txn_shown core txn) ⊎ (IsReadyOrNone (txn_shown core txn) → ⊥) → IsReadyOrNone (txn_shown core txn)
    by (inl is) = is
    by (inr not) = absurd (∥∥₁_elim shared ⊥_prop (λ all. not (ready_seen o all.opens pushed core book all.register k p there txn ready)))

-- ---- steps of no seat, and records that are pushed

module _ (o : Opened) (core new : CoreValue) (pushed : List RecordValue) (book : List SessionValue) (shared : IsShared o core pushed book) where
  pub others_kept : (e : Event) (reply : Reply) → IsOfNoSeat e → Serves core e reply new → IsShared o new pushed book
  others_kept e reply of serves =
      let register : IsRegister o pushed new book = others_agreed o shared.opens pushed core book shared.register e reply new of serves in
      record { opens = shared.opens; register = register; tables = tables_shown o shared.opens pushed new book register }

  pub pushed_kept : (after : List RecordValue) → HandsOn core new pushed after → IsShared o new after book
  pushed_kept after on =
      let register : IsRegister o after new book = pushed_agreed o pushed core book shared.register new after on in
      record { opens = shared.opens; register = register; tables = tables_shown o shared.opens after new book register }

module _ (o : Opened) (pushed : List RecordValue) (book : List SessionValue) where
  kept_each : (core new : CoreValue) (ps : List Pair) → HasKept core ps new → IsShared o core pushed book → IsShared o new pushed book
  kept_each core new [] kept shared = subst (λ v. IsShared o v pushed book) (sym kept) shared
  kept_each core new (p ∷ ps) kept shared = kept_each (record core { cleaned = Some p }) new ps kept.2
      (others_kept o core (record core { cleaned = Some p }) pushed book shared Event.Clean _ tt kept.1)

  pub passed_kept : (core new : CoreValue) (least : ℕ) → PassesLive core least new → IsShared o core pushed book → IsShared o new pushed book
  passed_kept core new least passes = kept_each core new passes.passed passes.kept

-- ---- the beginning

pub all_new : (z : TableId) (items : List HalfValue) → IsNew z items → AreEmpty (map shown items)
all_new z items new k session at = by items k 0 (λ j h is. new j h is
    ∙ ap (λ (m : ℕ). record { table = z; number = m; session = empty_session }) (omega arith)) at
  where
    by : (l : List HalfValue) (j n : ℕ) → ((i : ℕ) (h : HalfValue) → slice_get l i ≡ Some h → h ≡ record { table = z; number = n + i; session = empty_session })
        → slice_get (map shown l) j ≡ Some session → session ≡ empty_session
    by [] j n is e = absurd cc
    by (h ∷ hs) zero n is e = sym (some_is h.session session e) ∙ ap (λ (x : HalfValue). x.session) (is 0 h refl)
    by (h ∷ hs) (suc j) n is e = by hs j (n + 1) (λ i x at. is (suc i) x at
        ∙ ap (λ (m : ℕ). record { table = z; number = m; session = empty_session }) (omega arith)) e

pub new_book : (z : TableId) (items : List HalfValue) → IsNew z items → IsBook z items
new_book z items new k h at = (ap (λ (x : HalfValue). x.table) (new k h at), ap (λ (x : HalfValue). x.number) (new k h at))

pub new_shared : (o : Opened) (core : CoreValue) (pushed : List RecordValue) (z : TableId) (items : List HalfValue) → CanOpen o → BeginsWith o core
    → pushed ≡ [] → IsNew z items → IsShared o core pushed (map shown items)
new_shared o core pushed z items opens begins none new =
    let register : IsRegister o pushed core (map shown items) =
    subst (λ l. IsRegister o l core (map shown items)) (sym none) (opened_agreed o core begins (map shown items) (all_new z items new)) in
    record { opens = opens; register = register; tables = tables_shown o opens pushed core (map shown items) register }

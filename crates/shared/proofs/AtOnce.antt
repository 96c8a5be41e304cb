-- A transaction of one change in one hold of the lock.
use Rattle.std.proofs.Common.{◌≡◌, ◌++◌, ◌∷◌, ◌&&◌, ◌==◌, [], List, ℕ, zero, suc, ◌+◌, Bool, true, false, cond, not, eqb, eq-eqb, replicate, Option, Some, None}
use Rattle.std.proofs.Common.{inr, is_some, Result, Ok, Err, IfOk, IfErr, OnOk, OnErr, refl, sym, ap, subst, ◌∙◌}
use Rattle.std.proofs.Math.Logic.{∥∥₁_elim, ∥∥₁_map, ∥∥₁_map₂}
use Rattle.std.specs.FinMap.{get}
use Rattle.std.specs.Option.{option_map}
use Rattle.std.specs.Prelude.{slice_get, unwrap_or}
use Rattle.records.specs.RecordValue.{RecordValue}
use Rattle.record_values.specs.Values.{Place}
use Rattle.record_values.specs.declared.error.Error.{Error}
use Rattle.record_values.specs.declared.row.Row.{Row}
use Rattle.model.specs.declared.write.Write.{Write}
use Rattle.core_model.proofs.ReplyLaws.{is_move}
use Rattle.core_model.specs.Events.{Event, Refused, Reply, Standing, Stepped}
use Rattle.core_model.specs.Histories.{Opened}
use Rattle.core_model.specs.Replies.{IsStepDue}
use Rattle.core_model.specs.Served.{IsEnabledAny}
use Rattle.core_model.specs.States.{State}
use Rattle.core_model.specs.Steps.{MachineStep}
use Rattle.core_parts.specs.Replies.{reply_by, reply_of_ticket}
use Rattle.core_parts.specs.View.{Answers, CoreValue, Serves}
use Rattle.core_parts.specs.declared.parts.Ticket.{Ticket}
use Rattle.locked_core.specs.Names.{IsShared}
use Rattle.threads_register.proofs.Laws.{get_within, some_is, with_own}
use Rattle.threads_register.specs.Agreement.{active_in, Agree, IsRegister, row_at}
use Rattle.threads_sessions.specs.Steps.{begun, change_seen, changed, committed, ended, rolling_back, row_now, rows_now, step_seen, stepped, taken_back}
use Rattle.threads_sessions.specs.Values.{active_of, ActiveValue, can_go_on, is_active, is_ready, is_unfinished, new_active, rows_of, SessionValue, with_active}
use Rattle.threads_sessions.specs.Values.{with_write, without}
use Rattle.shared.specs.AtOnce.{answer_of, AreRefused, AreServed, at_commit, event_of, HasStarted, IsChanging, IsLeft, last_calls, TakesBack, undo_calls}
use Rattle.shared.specs.AtOnce.{WasLeft, with_commit}
use Rattle.shared.specs.Changed.{IsUnderWay, row_of}
use Rattle.shared.specs.declared.one_change.OneChange.{OneChange}
use Rattle.shared.specs.declared.one_change.OneChange.TheVariants.{Put, Remove, Replace}
use Rattle.shared.proofs.Advances.{deleted, due, followed, inserted, updated}
use Rattle.shared.proofs.Lookups.{others_stay, still_active}
use Rattle.shared.proofs.Made.{not_none}
use Rattle.shared.proofs.Single.{active_single, under_way_single}

-- ---- a result

pub if_ok_then : {T E : Type 0} (P Q : T → Type 0) (r : Result T E) → ((t : T) → P t → Q t) → IfOk r P → IfOk r Q
if_ok_then P Q (Ok t) f p = f t p
if_ok_then P Q (Err e) f p = tt

pub if_err_then : {T E : Type 0} (P Q : E → Type 0) (r : Result T E) → ((e : E) → P e → Q e) → IfErr r P → IfErr r Q
if_err_then P Q (Ok t) f p = tt
if_err_then P Q (Err e) f p = f e p

pub on_ok_then : {T E : Type 0} (X Y : Type 0) (r : Result T E) → (X → Y) → OnOk r X → OnOk r Y
on_ok_then X Y (Ok t) f x = f x
on_ok_then X Y (Err e) f x = tt

pub on_err_then : {T E : Type 0} (X Y : Type 0) (r : Result T E) → (X → Y) → OnErr r X → OnErr r Y
on_err_then X Y (Ok t) f x = tt
on_err_then X Y (Err e) f x = f x

-- ---- calls, one after another

-- one more of some calls that are alike, or another call behind them
module _ (e : Event) (reply : Reply) where
  pub calls_more : (n : ℕ) (a b c : CoreValue) → AreServed a (replicate n (e, reply)) b → Serves b e reply c → AreServed a (replicate (suc n) (e, reply)) c
  calls_more zero a b c same sv = (c, subst (λ (x : CoreValue). Serves x e reply c) same sv, refl)
  calls_more (suc n) a b c some sv = (some.0, some.1, calls_more n some.0 b c some.2 sv)

  pub then_call : (n : ℕ) (last : Event) (answer : Reply) (a b c : CoreValue) → AreServed a (replicate n (e, reply)) b → Serves b last answer c
      → AreServed a (replicate n (e, reply) ++ (last, answer) ∷ []) c
  then_call zero last answer a b c same sv = (c, subst (λ (x : CoreValue). Serves x last answer c) same sv, refl)
  then_call (suc n) last answer a b c some sv = (some.0, some.1, then_call n last answer some.0 b c some.2 sv)

-- calls behind calls
pub joined_calls : (first next : List (Event × Reply)) (a b c : CoreValue) → AreServed a first b → AreServed b next c → AreServed a (first ++ next) c
joined_calls [] next a b c same more = subst (λ (x : CoreValue). AreServed x next c) same more
joined_calls (call ∷ first) next a b c some more = (some.0, some.1, joined_calls first next some.0 b c some.2 more)

pub steps_more : (t n : ℕ) (a b c : CoreValue) → AreServed a (replicate n (Event.Step t, Stepped)) b → Serves b (Event.Step t) Stepped c
    → AreServed a (replicate (suc n) (Event.Step t, Stepped)) c
steps_more t = calls_more (Event.Step t) Stepped

pub then_last : (t n : ℕ) (e : Event) (reply : Reply) (a b c : CoreValue) → AreServed a (replicate n (Event.Step t, Stepped)) b → Serves b e reply c
    → AreServed a (last_calls t n e reply) c
then_last t = then_call (Event.Step t) Stepped

module _ (t : ℕ) (a b c : CoreValue) (steps : ∥ ((n : ℕ) × AreServed a (replicate n (Event.Step t, Stepped)) b) ∥₁) where
  pub commit_served : (r : Result Ticket Error) → Serves b (Event.Commit t) (reply_by reply_of_ticket r) c
      → IfOk r (λ ticket. ∥ ((n : ℕ) × AreServed a (last_calls t n (Event.Commit t) (reply_of_ticket ticket)) c) ∥₁)
  commit_served (Ok ticket) sv = ∥∥₁_map steps (λ s. (s.0, then_last t s.0 (Event.Commit t) (reply_of_ticket ticket) a b c s.1 sv))
  commit_served (Err e) sv = tt

  pub commit_refused : (r : Result Ticket Error) → Serves b (Event.Commit t) (reply_by reply_of_ticket r) c
      → IfErr r (λ e. (first : Event) (reply : Reply) → HasStarted first reply
      → ∥ ((calls : List (Event × Reply)) × AreRefused t first e ((first, reply) ∷ calls) × AreServed a calls c) ∥₁)
  commit_refused (Ok ticket) sv = tt
  commit_refused (Err e) sv = λ first reply started. ∥∥₁_map steps (λ s.
      (last_calls t s.0 (Event.Commit t) (Refused e), at_commit t first e reply s.0 started, then_last t s.0 (Event.Commit t) (Refused e) a b c s.1 sv))

-- the first step of a change that was made had its answer
pub change_started : (asked : OneChange) (t : ℕ) (rid : Place) → HasStarted (event_of asked t) (answer_of asked rid)
change_started (Put key body) t rid = (rid, refl)
change_started (Remove place) t rid = refl
change_started (Replace place key body) t rid = refl

-- a transaction whose end was refused, behind the steps that took it back
pub end_refused : {T : Type 0} (t : ℕ) (a b c : CoreValue) → ∥ ((n : ℕ) × AreServed a (replicate n (Event.Undo t, Reply.Undone)) b) ∥₁ → (r : Result T Error)
    → Serves b (Event.End t) (reply_by (λ (x : T). Reply.Ended) r) c
    → IfErr r (λ e. ∥ ((n : ℕ) × (last : Event) × TakesBack t last × AreServed a (undo_calls t n last (Refused e)) c) ∥₁)
end_refused t a b c undone (Ok x) sv = tt
end_refused t a b c undone (Err e) sv = ∥∥₁_map undone (λ u.
    (u.0, Event.End t, inr refl, then_call (Event.Undo t) Reply.Undone u.0 (Event.End t) (Refused e) a b c u.1 sv))

-- a transaction of which a call was refused, and that could not be taken back
module _ (o : Opened) (seat : ℕ) (p : SessionValue) (change : ℕ → Event) (t : ℕ) (e why : Error) (was begun after new : CoreValue)
    (pushed : List RecordValue) (book : List SessionValue) where
  abbrev WasMadeSoFar : Type 0
  WasMadeSoFar = (calls : List (Event × Reply)) × AreRefused t (change t) e calls × AreServed begun calls after

  abbrev WasTakenSoFar : Type 0
  WasTakenSoFar = (n : ℕ) × (last : Event) × TakesBack t last × AreServed after (undo_calls t n last (Refused why)) new

  pub was_left : ∥ IsShared o was pushed book ∥₁ → slice_get book seat ≡ Some p → Serves was Event.Begin (Reply.Txn t) begun
      → ∥ ((calls : List (Event × Reply)) × AreRefused t (change t) e calls × AreServed begun calls after) ∥₁
      → ∥ ((n : ℕ) × (last : Event) × TakesBack t last × AreServed after (undo_calls t n last (Refused why)) new) ∥₁ → ∥ WasLeft o seat p change e t ∥₁
  was_left shared here begins made taken =
      let both : ∥ (WasMadeSoFar × WasTakenSoFar) ∥₁ = ∥∥₁_map₂ made taken (λ (m : WasMadeSoFar) (b : WasTakenSoFar). (m, b)) in
      ∥∥₁_map₂ shared both (λ all (x : WasMadeSoFar × WasTakenSoFar). record {
        calls = x.0.0;
        refused = x.0.1;
        undone = x.1.0;
        last = x.1.1;
        takes_back = x.1.2;
        why = why;
        served = record {
          core = was;
          new = new;
          pushed = pushed;
          book = book;
          shared = all;
          here = here;
          served = (begun, begins, joined_calls x.0.0 (undo_calls t x.1.0 x.1.1 (Refused why)) begun after new x.0.2 x.1.3);
        };
      })

-- ---- a transaction that has just begun

without_new : (t : ℕ) (xs : List ActiveValue) → active_of t xs ≡ None → without t (xs ++ new_active t ∷ []) ≡ xs
without_new t [] none = ap (λ b. cond (not b) (new_active t ∷ []) []) (eq-eqb t t refl)
without_new t (x ∷ xs) none = by (eqb t x.txn) refl none (without_new t xs)
  where
    by : (b : Bool) → eqb t x.txn ≡ b → cond b (Some x) (active_of t xs) ≡ None
        → (active_of t xs ≡ None → without t (xs ++ new_active t ∷ []) ≡ xs)
        → without t (x ∷ (xs ++ new_active t ∷ [])) ≡ x ∷ xs
    by true is h rest = absurd cc
    by false is h rest =
        ap (λ b. cond (not b) (x ∷ without t (xs ++ new_active t ∷ [])) (without t (xs ++ new_active t ∷ []))) is
        ∙ ap (λ (l : List ActiveValue). x ∷ l) (rest h)

new_own : (t : ℕ) (xs : List ActiveValue) → active_of t xs ≡ None → active_of t (xs ++ new_active t ∷ []) ≡ Some (new_active t)
new_own t [] none = ap (λ b. cond b (Some (new_active t)) None) (eq-eqb t t refl)
new_own t (x ∷ xs) none = by (eqb t x.txn) none (new_own t xs)
  where
    by : (b : Bool) → cond b (Some x) (active_of t xs) ≡ None
        → (active_of t xs ≡ None → active_of t (xs ++ new_active t ∷ []) ≡ Some (new_active t))
        → cond b (Some x) (active_of t (xs ++ new_active t ∷ [])) ≡ Some (new_active t)
    by true h rest = absurd cc
    by false h rest = rest h

module _ (s : SessionValue) (t : ℕ) (none : active_of t s.active ≡ None) where
  pub begun_alone : ended (begun s t) t ≡ s
  begun_alone = ap (λ (l : List ActiveValue). record s { active = l }) (without_new t s.active none)

  pub begun_ready : is_ready (begun s t) t ≡ true
  begun_ready = ap can_go_on (new_own t s.active none)

  pub begun_empty : rows_of t (begun s t).active ≡ []
  begun_empty = ap (λ (o : Option ActiveValue). unwrap_or (option_map (λ (a : ActiveValue). a.rows) o) []) (new_own t s.active none)

-- the number that a core gives is that of no transaction of a session
one_txn : (a b : ℕ) → Reply.Txn a ≡ Reply.Txn b → a ≡ b
one_txn a b e = cc

module _ (o : Opened) (core new : CoreValue) (pushed : List RecordValue) (book : List SessionValue) (seat : ℕ) (p : SessionValue)
    (there : slice_get book seat ≡ Some p) (t : ℕ) (sv : Serves core Event.Begin (Reply.Txn t) new) where
  nobody_has : IsRegister o pushed core book → active_of t p.active ≡ None
  nobody_has r = by (active_of t p.active) (seat == r.owner t) agreed
    where
      s : State
      s = r.kept.replied.state

      k : Standing
      k = r.kept.replied.standing

      a : Answers core s k Event.Begin (Reply.Txn t) new
      a = sv s k r.kept.replied.stands

      d : IsStepDue s k Event.Begin (Reply.Txn t) a.step
      d = (due s k Event.Begin (Reply.Txn t) a.step a.allowed tt).1

      number : t ≡ k.begun + 1
      number = one_txn t (k.begun + 1) d.0

      free : s.txns t ≡ None
      free = subst (IsEnabledAny s) (d.1 ∙ ap (λ n. Some (MachineStep.Begin n)) (sym number))
          (is_move s k Event.Begin (Reply.Txn t) a.step r.kept.replied.stands.fit r.kept.replied.stands.standing a.allowed).enabled

      agreed : Agree s t (active_of t p.active) (cond (seat == r.owner t) (s.txns t) None)
      agreed = subst (λ (m : Option ActiveValue). Agree s t m (cond (seat == r.owner t) (s.txns t) None)) (ap (active_in t) there)
          (r.owned seat t (get_within book seat p there))

      by : (m : Option ActiveValue) (b : Bool) → Agree s t m (cond b (s.txns t) None) → m ≡ None
      by None b h = refl
      by (Some x) true h = absurd (subst (Agree s t (Some x)) free h)
      by (Some x) false h = absurd h

  pub fresh : ∥ IsShared o core pushed book ∥₁ → active_of t p.active ≡ None
  fresh shared = ∥∥₁_elim shared (active_single (active_of t p.active) None) (λ all. nobody_has all.register)

-- ---- a transaction of one change

-- the row of one place
abbrev one_at : Place → Option Row → List Write
one_at rid row = record { rid = rid; row = row } ∷ []

row_there : (q : Place) (row : Option Row) → row_at q (one_at q row) ≡ Some row
row_there q row = ap (λ b. cond b (Some row) None) itself
  where
    itself : ((q.page == q.page) && (q.slot == q.slot)) ≡ true
    itself = λ i. eq-eqb q.page q.page refl i && eq-eqb q.slot q.slot refl i

whole : (t : ℕ) (q : SessionValue) (w : Write) (row : Option Row) → rows_of t q.active ≡ one_at w.rid row → row_of q t w.rid ≡ Some w.row
    → rows_of t q.active ≡ w ∷ []
whole t q w row place there =
    let is : row ≡ w.row = some_is row w.row (sym (row_there w.rid row) ∙ (sym (ap (row_at w.rid) place) ∙ there)) in
    place ∙ ap (one_at w.rid) is

rows_with : (f : ActiveValue → ActiveValue) (g : List Write → List Write) → ((a : ActiveValue) → (f a).txn ≡ a.txn)
    → ((a : ActiveValue) → (f a).rows ≡ g a.rows) → (t : ℕ) (xs : List ActiveValue) → is_some (active_of t xs) ≡ true
    → rows_of t (with_active f t xs) ≡ g (rows_of t xs)
rows_with f g keeps rows t xs own =
    ap (λ (o : Option ActiveValue). unwrap_or (option_map (λ (a : ActiveValue). a.rows) o) []) (with_own f keeps t xs) ∙ by (active_of t xs) own
  where
    by : (o : Option ActiveValue) → is_some o ≡ true
        → unwrap_or (option_map (λ (a : ActiveValue). a.rows) (option_map f o)) [] ≡ g (unwrap_or (option_map (λ (a : ActiveValue). a.rows) o) [])
    by None e = absurd cc
    by (Some a) e = rows a

changing : (t : ℕ) (w : Write) (p q : SessionValue) → IsUnderWay p t w q → is_active q t ≡ true → (row : Option Row)
    → rows_of t q.active ≡ one_at w.rid row → IsChanging q t w
changing t w p q done own row place = record {
  active = own;
  row = row;
  place = place;
  unfinished = done.unfinished;
  made = λ none. whole t q w row place (done.row none);
  ready = done.ready;
}

changing_first : (t : ℕ) (w : Write) (new : CoreValue) (p : SessionValue) → is_active p t ≡ true → rows_of t p.active ≡ []
    → IsUnderWay p t w (changed p new t w) → IsChanging (changed p new t w) t w
changing_first t w new p own empty done =
    changing t w p (changed p new t w) done (still_active (change_seen new w) (λ a. refl) t p.active own) (get new.heap.rows w.rid)
    (rows_with (change_seen new w) (with_write (row_now new w.rid)) (λ a. refl) (λ a. refl) t p.active own ∙ ap (with_write (row_now new w.rid)) empty)

changing_next : (t : ℕ) (w : Write) (new : CoreValue) (p : SessionValue) → IsChanging p t w → IsUnderWay p t w (stepped p new t)
    → IsChanging (stepped p new t) t w
changing_next t w new p was done =
    changing t w p (stepped p new t) done (still_active (step_seen new) (λ a. refl) t p.active was.active) (get new.heap.rows w.rid)
    (rows_with (step_seen new) (rows_now new) (λ a. refl) (λ a. refl) t p.active was.active ∙ ap (rows_now new) was.place)

module _ (o : Opened) (core new : CoreValue) (pushed : List RecordValue) (book : List SessionValue) (shared : ∥ IsShared o core pushed book ∥₁)
    (seat : ℕ) (p q : SessionValue) (there : slice_get book seat ≡ Some p) (t : ℕ) (own : is_active p t ≡ true) where
  module _ (ready : is_ready p t ≡ true) (empty : rows_of t p.active ≡ []) where
    pub put_started : (row : Row) (r : Result Place Error) → Serves core (Event.Insert t row) (reply_by Reply.Rid r) new
        → IfOk r (λ rid. q ≡ changed p new t (record { rid = rid; row = Some row })) → IfOk r (λ rid. IsChanging q t (record { rid = rid; row = Some row }))
    put_started row (Ok rid) sv is =
        let w : Write = record { rid = rid; row = Some row } in
        subst (λ (v : SessionValue). IsChanging v t w) (sym is) (changing_first t w new p own empty
        (∥∥₁_elim shared (under_way_single p t w (changed p new t w)) (λ all.
        inserted o all.opens pushed core new book all.register seat p there t own ready row rid sv)))
    put_started row (Err e) sv is = tt

    pub remove_started : (rid : Place) → Serves core (Event.Delete t rid) Stepped new → q ≡ changed p new t (record { rid = rid; row = None })
        → IsChanging q t (record { rid = rid; row = None })
    remove_started rid sv is =
        let w : Write = record { rid = rid; row = None } in
        subst (λ (v : SessionValue). IsChanging v t w) (sym is) (changing_first t w new p own empty
        (∥∥₁_elim shared (under_way_single p t w (changed p new t w)) (λ all.
        deleted o all.opens pushed core new book all.register seat p there t own ready rid sv)))

    pub replace_started : (rid : Place) (row : Row) → Serves core (Event.Update t rid row) Stepped new
        → q ≡ changed p new t (record { rid = rid; row = Some row }) → IsChanging q t (record { rid = rid; row = Some row })
    replace_started rid row sv is =
        let w : Write = record { rid = rid; row = Some row } in
        subst (λ (v : SessionValue). IsChanging v t w) (sym is) (changing_first t w new p own empty
        (∥∥₁_elim shared (under_way_single p t w (changed p new t w)) (λ all.
        updated o all.opens pushed core new book all.register seat p there t own ready rid row sv)))

  pub next_changing : is_unfinished p t ≡ true → Serves core (Event.Step t) Stepped new → q ≡ stepped p new t → (w : Write) → IsChanging p t w
      → IsChanging q t w
  next_changing left sv is w was =
      subst (λ (v : SessionValue). IsChanging v t w) (sym is) (changing_next t w new p was
      (∥∥₁_elim shared (under_way_single p t w (stepped p new t)) (λ all.
      followed o all.opens pushed core new book all.register seat p there t own w (was.unfinished (not_none p t left)) sv)))

-- ---- what is left beside the others

module _ (t : ℕ) (p q : SessionValue) where
  pub left_same : is_active p t ≡ true → q ≡ p → IsLeft (ended p t) t q
  left_same own same = subst (IsLeft (ended p t) t) (sym same) (record { others = refl; active = own })

  left_with : (f : ActiveValue → ActiveValue) → ((a : ActiveValue) → (f a).txn ≡ a.txn) → is_active p t ≡ true
      → q ≡ record p { active = with_active f t p.active } → IsLeft (ended p t) t q
  left_with f keeps own is =
      subst (IsLeft (ended p t) t) (sym is) (record { others = others_stay f keeps t p; active = still_active f keeps t p.active own })

  pub left_changed : is_active p t ≡ true → (core : CoreValue) (w : Write) → q ≡ changed p core t w → IsLeft (ended p t) t q
  left_changed own core w is = left_with (change_seen core w) (λ a. refl) own is

  pub left_stepped : is_active p t ≡ true → (core : CoreValue) → q ≡ stepped p core t → IsLeft (ended p t) t q
  left_stepped own core is = left_with (step_seen core) (λ a. refl) own is

  pub left_back : is_active p t ≡ true → (core : CoreValue) → q ≡ rolling_back p core t → IsLeft (ended p t) t q
  left_back own core is = left_with (taken_back core) (λ a. refl) own is

  pub left_by : {T : Type 0} (r : Result T Error) (w : T → Write) (core : CoreValue) → is_active p t ≡ true → IfOk r (λ x. q ≡ changed p core t (w x))
      → OnErr r (q ≡ p) → IsLeft (ended p t) t q
  left_by (Ok x) w core own is same = left_changed own core (w x) is
  left_by (Err e) w core own is same = left_same own same

pub left_on : (old : SessionValue) (t : ℕ) (p q : SessionValue) → IsLeft old t p → IsLeft (ended p t) t q → IsLeft old t q
left_on old t p q was more = record { others = more.others ∙ was.others; active = more.active }

-- ---- the commit

abbrev with_writes : SessionValue → Ticket → List Write → SessionValue
with_writes s ticket ws = record s { commits = s.commits ++ record { ticket = ticket; writes = ws } ∷ [] }

pub committed_one : (t : ℕ) (w : Write) (ticket : Ticket) (s p q : SessionValue) → ended p t ≡ s → rows_of t p.active ≡ w ∷ [] → q ≡ committed p t ticket
    → q ≡ with_commit s ticket w
committed_one t w ticket s p q others rows is =
    is ∙ ap (with_writes (ended p t) ticket) rows ∙ ap (λ (v : SessionValue). with_commit v ticket w) others

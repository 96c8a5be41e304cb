-- The register, as the core serves a call.
use Rattle.std.proofs.Common.{◌≡◌, ◌≢◌, ◌⊎◌, ℕ, ◌<◌, ◌+◌, arith, length, Bool, true, false, cond, List, [], ◌∷◌, ◌++◌, Option, Some, None, is_some, ◌==◌, ◌≤◌}
use Rattle.std.proofs.Common.{append_assoc, inl, inr, refl, sym, ap, ◌∙◌, subst}
use Rattle.std.proofs.lemmas.Bool.{cases_eq, eqb-true}
use Rattle.std.proofs.lemmas.List.{length-append}
use Rattle.std.specs.FinMap.{get}
use Rattle.std.specs.Option.{option_map}
use Rattle.std.specs.Prelude.{option_and_then, slice_get, slice_set}
use Rattle.records.specs.RecordValue.{RecordValue}
use Rattle.record_values.specs.Values.{Place}
use Rattle.record_values.specs.declared.number.TheConstants.{LAST_NUMBER}
use Rattle.model.specs.declared.write.Write.{Write}
use Rattle.txn_table.specs.Table.{TxnState, rolls}
use Rattle.txn_table.specs.declared.progress.Progress.{Progress}
use Rattle.txn_table.specs.declared.progress.Progress.TheVariants.{OwesEntry, OwesRow, Ready, Rolling, UndoesEntry, UndoesRow}
use Rattle.core_model.proofs.Laws.{same_some}
use Rattle.core_model.specs.Histories.{CanOpen, Opened, opened}
use Rattle.core_model.specs.States.{Active, State}
use Rattle.core_model.specs.Steps.{MachineStep, after}
use Rattle.core_model.proofs.ReplyLaws.{is_move, served_allowed, served_nothing}
use Rattle.core_model.specs.Events.{Event, Reply, Standing, standing_after, standing_at}
use Rattle.core_model.specs.Replies.{after_any}
use Rattle.core_model.specs.Served.{HasServed, IsEnabledAny, records_by}
use Rattle.core_laws.proofs.Laws.{numbered}
use Rattle.core_laws.specs.Calls.{BeginsWith, HasReplied}
use Rattle.threads_sessions.proofs.Offered.{stands}
use Rattle.core_parts.specs.Asked.{owed}
use Rattle.threads_sessions.specs.Outbox.{HandsOn}
use Rattle.core_parts.specs.View.{Answers, AreOne, CoreValue, IsProgressOf, IsState, Serves, Shows}
use Rattle.core_parts.specs.declared.reply.Owed.{Owed}
use Rattle.threads_sessions.specs.Steps.{unfinished_in}
use Rattle.threads_sessions.specs.Values.{active_of, ActiveValue, empty_session, SessionValue}
use Rattle.threads_register.proofs.Lookups.{get_set, get_set_other, get_within, set_length}
use Rattle.threads_register.proofs.Owned.{next_owner, owned_later, owners_later}
use Rattle.threads_register.proofs.Seen.{agree_there, owner_is}
use Rattle.threads_register.proofs.Telling.{opened_tells, Tells}
use Rattle.threads_register.specs.Agreement.{active_in, Agree, AreOwned, HaveOwners, is_owed, IsRegister, IsSeen, row_held, seen_at}
use Rattle.threads_register.specs.Register.{AreEmpty, IsRegisterKept}

-- ---- whether a transaction owes a step

owed_at : (p : Progress) (x : Active) (w : Write) → IsProgressOf p x.phase → x.rolling ≡ rolls p
    → option_map (λ (step : Owed). w) (owed p) ≡ cond (is_owed x.phase x.rolling) (Some w) None
owed_at Ready x w phase rolling = λ i. cond (is_owed (sym phase i) (sym rolling i)) (Some w) None
owed_at OwesRow x w phase rolling = λ i. cond (is_owed (sym phase i) (sym rolling i)) (Some w) None
owed_at OwesEntry x w phase rolling = λ i. cond (is_owed (sym phase i) (sym rolling i)) (Some w) None
owed_at Rolling x w phase rolling = λ i. cond (is_owed (sym phase i) (sym rolling i)) (Some w) None
owed_at UndoesRow x w phase rolling = λ i. cond (is_owed (sym phase.1 i) (sym rolling i)) (Some w) None
owed_at UndoesEntry x w phase rolling = λ i. cond (is_owed (sym phase i) (sym rolling i)) (Some w) None

owed_one : (o : Option TxnState) (m : Option Active) (x : Active) (w : Write) → AreOne o m → m ≡ Some x
    → option_map (λ (step : Owed). w) (option_and_then owed (option_map (λ (y : TxnState). y.progress) o)) ≡ cond (is_owed x.phase x.rolling) (Some w) None
owed_one None m x w one is = absurd cc
owed_one (Some y) m x w one is =
    let same : one.0 ≡ x = same_some one.1 is in
    owed_at y.progress x w (subst (λ (z : Active). IsProgressOf y.progress z.phase) same one.2.phase) (ap (λ (z : Active). z.rolling) (sym same)
    ∙ one.2.rolling)

pub unfinished_is : (core : CoreValue) (s : State) (k : Standing) → Shows core s k → (t : ℕ) (x : Active) → s.txns t ≡ Some x → (w : Write)
    → unfinished_in core t w ≡ cond (is_owed x.phase x.rolling) (Some w) None
unfinished_is core s k shown t x is w = owed_one _ (s.txns t) x w (shown.txns t) is

-- ---- sessions of which none changes but one

other_session : (book : List SessionValue) (seat : ℕ) (p new : SessionValue) → slice_get book seat ≡ Some p → new.active ≡ p.active → (j u : ℕ)
    → seen_at (slice_set book seat new) j u ≡ seen_at book j u
other_session book seat p new there same j u = elim (cases_eq j seat) [
  | inl is ↦
      ap (active_in u) (ap (slice_get (slice_set book seat new)) is ∙ get_set book seat new (get_within book seat p there))
      ∙ (ap (active_of u) same ∙ sym (ap (active_in u) (ap (slice_get book) is ∙ there)))
  | inr other ↦ ap (active_in u) (get_set_other book seat j new other)
]

-- the same transactions, in a session that changed elsewhere
pub owned_beside : (s : State) (book : List SessionValue) (owner : ℕ → ℕ) (seat : ℕ) (p new : SessionValue) → slice_get book seat ≡ Some p
    → new.active ≡ p.active → AreOwned s book owner → AreOwned s (slice_set book seat new) owner
owned_beside s book owner seat p new there same owned j u lt =
    subst (λ a. Agree s u a (cond (j == owner u) (s.txns u) None)) (sym (other_session book seat p new there same j u))
    (owned j u (subst (λ n. j < n) (set_length book seat new) lt))

pub owners_beside : (s : State) (book : List SessionValue) (owner : ℕ → ℕ) (seat : ℕ) (new : SessionValue) → HaveOwners s book owner
    → HaveOwners s (slice_set book seat new) owner
owners_beside s book owner seat new owners u there = subst (λ n. owner u < n) (sym (set_length book seat new)) (owners u there)

-- ---- the beginning

empty_at : (book : List SessionValue) → AreEmpty book → (seat t : ℕ) → seen_at book seat t ≡ None
empty_at book empty seat t = by (slice_get book seat) (empty seat)
  where
    by : (o : Option SessionValue) → ((session : SessionValue) → o ≡ Some session → session ≡ empty_session) → active_in t o ≡ None
    by None is = refl
    by (Some session) is = ap (λ (p : SessionValue). active_of t p.active) (is session refl)

pub opens : (o : Opened) (core : CoreValue) → BeginsWith o core → (book : List SessionValue) → AreEmpty book → IsRegister o [] core book
opens o core b book empty = record {
  kept = record {
    calls = [];
    replied = record {
      state = opened o;
      standing = standing_at o.given.last;
      stands = b.stands;
      served = subst (λ made. HasServed o made [] (opened o) (standing_at o.given.last)) (sym b.none_waits) (served_nothing o within);
    };
  };
  owner = λ t. 0;
  owned = λ seat t lt. subst (Agree (opened o) t (seen_at book seat t)) (sym (none_of (seat == 0) None refl))
      (subst (λ a. Agree (opened o) t a None) (sym (empty_at book empty seat t)) tt);
  owners = λ t there. absurd (never there);
  commits = (opened_tells o core b book empty).0;
  history = (opened_tells o core b book empty).1;
}
  where
    within : o.given.last ≤ LAST_NUMBER
    within = b.stands.standing.within

    none_of : (c : Bool) (x : Option Active) → x ≡ None → cond c x None ≡ None
    none_of true x e = e
    none_of false x e = refl

    never : false ≡ true → ⊥
    never e = absurd cc

-- ---- records are pushed

-- whatever waits, the core stands for the same
other_outbox : (v : CoreValue) (waiting : List RecordValue) (s : State) (k : Standing) → IsState v s k → IsState (record v { outbox = waiting }) s k
other_outbox v waiting s k is =
    let h : Shows v s k = is.shown in
    record {
      shown = record {
        rows = h.rows;
        entries = h.entries;
        txns = h.txns;
        holder = h.holder;
        pledges = h.pledges;
        pledged = h.pledged;
        life = h.life;
        pages = h.pages;
        scan_pages = h.scan_pages;
        places = h.places;
        cleaned = h.cleaned;
        bound = h.bound;
        scan = record {
          run = h.scan.run;
          made = h.scan.made;
          given = h.scan.given;
          missed = h.scan.missed;
          taken = h.scan.taken;
          in_a_row = h.scan.in_a_row;
          untaken = h.scan.untaken;
        };
        made = h.made;
        begun = h.begun;
        active = h.active;
        attempts = h.attempts;
        all_attempts = h.all_attempts;
        commits = h.commits;
      };
      fit = is.fit;
      standing = is.standing;
      counted = is.counted;
    }

pub pushes : (o : Opened) (pushed : List RecordValue) (core : CoreValue) (book : List SessionValue) → IsRegister o pushed core book
    → (new : CoreValue) (after : List RecordValue) → HandsOn core new pushed after → IsRegister o after new book
pushes o pushed core book r new after on =
    let so : HasReplied o r.kept.calls pushed core = r.kept.replied in
    let tells : Tells o r.kept.calls new book = subst (λ v. Tells o r.kept.calls v book) (sym on.others) (r.commits, r.history) in
    record {
      kept = record {
        calls = r.kept.calls;
        replied = record {
          state = so.state;
          standing = so.standing;
          stands = subst (λ w. IsState w so.state so.standing) (sym on.others) (other_outbox core new.outbox so.state so.standing so.stands);
          served = subst (λ made. HasServed o made r.kept.calls so.state so.standing) (ap (λ rs. pushed ++ rs) on.split
              ∙ (sym (append_assoc pushed on.handed new.outbox) ∙ ap (λ rs. rs ++ new.outbox) (sym on.taken))) so.served;
        };
      };
      owner = r.owner;
      owned = r.owned;
      owners = r.owners;
      commits = tells.0;
      history = tells.1;
    }

-- ---- a call

module _ (o : Opened) (can : CanOpen o) (pushed : List RecordValue) (core : CoreValue) (book : List SessionValue) (r : IsRegister o pushed core book) where
  abbrev pub so : HasReplied o r.kept.calls pushed core
  so = r.kept.replied

  abbrev pub s : State
  s = so.state

  abbrev pub k : Standing
  k = so.standing

  module _ (e : Event) (reply : Reply) (new : CoreValue) (serves : Serves core e reply new) where
    abbrev pub answer : Answers core s k e reply new
    answer = serves s k so.stands

    -- what a call keeps, with the state after its step
    abbrev pub kept_after : IsRegisterKept o pushed new
    kept_after = record {
      calls = r.kept.calls ++ (e, reply) ∷ [];
      replied = record {
        state = after_any s answer.step;
        standing = standing_after k reply;
        stands = stands core new s k e reply so.stands answer;
        served = subst (λ made. HasServed o made (r.kept.calls ++ (e, reply) ∷ []) (after_any s answer.step) (standing_after k reply))
            (append_assoc pushed core.outbox (records_by s k.made answer.step) ∙ ap (λ rs. pushed ++ rs) (sym answer.outbox))
            (served_allowed o can (pushed ++ core.outbox) r.kept.calls s k so.served e reply answer.step answer.allowed);
      };
    }

    -- the calls so far, and this one
    abbrev pub calls_now : List (Event × Reply)
    calls_now = r.kept.calls ++ (e, reply) ∷ []

    pub last_later : core.last ≤ new.last
    last_later =
        let before : core.last ≡ o.given.last + length (pushed ++ core.outbox) = numbered o can r.kept.calls pushed core so in
        let now : new.last ≡ o.given.last + length (pushed ++ new.outbox) = numbered o can calls_now pushed new kept_after.replied in
        let more : length new.outbox ≡ length core.outbox + length (records_by s k.made answer.step) = ap length answer.outbox
        ∙ length-append core.outbox (records_by s k.made answer.step) in
        omega (arith, before, now, more, length-append pushed core.outbox, length-append pushed new.outbox)

    pub enabled : IsEnabledAny s answer.step
    enabled = (is_move s k e reply answer.step so.stands.fit so.stands.standing answer.allowed).enabled

    pub shown_by : (step : Option MachineStep) → answer.step ≡ step → Shows new (after_any s step) (standing_after k reply)
    shown_by step is = subst (λ x. Shows new (after_any s x) (standing_after k reply)) is answer.shown

    -- no transaction made a step
    pub same_txns : (step : Option MachineStep) → answer.step ≡ step → (later : List SessionValue) → AreOwned (after_any s step) later r.owner
        → HaveOwners (after_any s step) later r.owner → Tells o calls_now new later → IsRegister o pushed new later
    same_txns step is later owned owners tells = record {
      kept = kept_after;
      owner = r.owner;
      owned = subst (λ x. AreOwned (after_any s x) later r.owner) (sym is) owned;
      owners = subst (λ x. HaveOwners (after_any s x) later r.owner) (sym is) owners;
      commits = tells.0;
      history = tells.1;
    }

    -- one transaction of a seat did
    pub txn_stepped : (step : MachineStep) → answer.step ≡ Some step → (seat t : ℕ) (p q : SessionValue) → slice_get book seat ≡ Some p → (seat ≡ r.owner t)
        ⊎ (s.txns t ≡ None)
        → Agree (after s step) t (active_of t q.active) ((after s step).txns t) → ((u : ℕ) → u ≢ t → active_of u q.active ≡ active_of u p.active)
        → ((u : ℕ) → u ≢ t → (after s step).txns u ≡ s.txns u)
        → ((u : ℕ) → u ≢ t → (x : Place) → row_held u ((after s step).holder x) (get (after s step).rows x) ≡ row_held u (s.holder x) (get s.rows x))
        → Tells o calls_now new (slice_set book seat q) → IsRegister o pushed new (slice_set book seat q)
    txn_stepped step is seat t p q there mine own pages txns apart tells = record {
      kept = kept_after;
      owner = next_owner s (after s step) book r.owner seat t p q there r.owned mine own pages txns apart;
      owned = subst (λ x. AreOwned (after_any s x) (slice_set book seat q)
          (next_owner s (after s step) book r.owner seat t p q there r.owned mine own pages txns apart)) (sym is)
          (owned_later s (after s step) book r.owner seat t p q there r.owned mine own pages txns apart);
      owners = subst (λ x. HaveOwners (after_any s x) (slice_set book seat q)
          (next_owner s (after s step) book r.owner seat t p q there r.owned mine own pages txns apart)) (sym is)
          (owners_later s (after s step) book r.owner seat t p q there r.owned mine own pages txns apart r.owners);
      commits = tells.0;
      history = tells.1;
    }

  -- a transaction in the session of a seat
  module _ (seat : ℕ) (p : SessionValue) (there : slice_get book seat ≡ Some p) where
    agree_here : (t : ℕ) → Agree s t (active_of t p.active) (cond (seat == r.owner t) (s.txns t) None)
    agree_here t = subst (λ x. Agree s t (active_in t x) (cond (seat == r.owner t) (s.txns t) None)) there (r.owned seat t (get_within book seat p there))

    pub none_here : (t : ℕ) → s.txns t ≡ None → Agree s t (active_of t p.active) None
    none_here t none = by (seat == r.owner t) (agree_here t)
      where
        by : (b : Bool) → Agree s t (active_of t p.active) (cond b (s.txns t) None) → Agree s t (active_of t p.active) None
        by true h = subst (Agree s t (active_of t p.active)) none h
        by false h = h

    module _ (t : ℕ) (own : is_some (active_of t p.active) ≡ true) where
      owned_here : (seat == r.owner t) ≡ true
      owned_here = owner_is s t (active_of t p.active) (seat == r.owner t) (s.txns t) own (agree_here t)

      pub mine : (seat ≡ r.owner t) ⊎ (s.txns t ≡ None)
      mine = inl (eqb-true seat (r.owner t) owned_here)

      pub agreed : Agree s t (active_of t p.active) (s.txns t)
      agreed = subst (λ b. Agree s t (active_of t p.active) (cond b (s.txns t) None)) owned_here (agree_here t)

      pub seen : (y : Active) → s.txns t ≡ Some y → (a : ActiveValue) × (active_of t p.active ≡ Some a) × IsSeen s t a y
      seen y is = let h = agree_there s t (active_of t p.active) (s.txns t) own agreed in (h.0, h.2, subst (IsSeen s t h.0) (same_some h.3 is) h.4)

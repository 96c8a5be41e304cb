-- The dropping of the index: the reply that is due, and what the core shows after it.
use Rattle.std.proofs.Common.{Err, None, Ok, Result, Some, [], ap, inl, inr, refl, subst, sym, ℕ, ◌+◌, ◌∙◌, ◌≡◌, ◌≢◌, ◌≤◌}
use Rattle.std.specs.Prelude.{IfErr, IfOk, OnErr, OnOk}
use Rattle.record_values.specs.declared.error.Error.{Error}
use Rattle.model.specs.declared.life.Life.TheVariants.{Absent}
use Rattle.txn_table.specs.Table as table
use Rattle.txn_table.specs.Table.{TxnState}
use Rattle.sorted_scan.specs.Scans.{HasRun, begun, begun_run}
use Rattle.core_model.proofs.Laws.{not_none}
use Rattle.core_model.specs.States.{State}
use Rattle.core_model.specs.Steps.{MachineStep, after}
use Rattle.core_model.specs.Events.{Event, Refused, Reply, Standing, standing_after}
use Rattle.core_model.specs.Replies.{IsStepDue, IsFirst, refusals, refused}
use Rattle.core_parts.specs.Asked.{IsFine, IsRefused}
use Rattle.record_values.specs.declared.number.TheConstants.{LAST_NUMBER}
use Rattle.core_parts.specs.View.{Answers, AreOne, CoreValue, IsState, Serves, Shows}
use Rattle.core_parts.specs.Replies.{reply_by, reply_of_detached}
use Rattle.core_parts.specs.Private.{HasNextNumber, IsUnrecorded, IsUndroppable, index_dropped}
use Rattle.core_parts.specs.declared.parts.Detached.{Detached}
use Rattle.nsf_core.proofs.Creating.{some_state}
use Rattle.core_parts.proofs.Due.{made, no_number, refusal, ticket_answers, wants_memory}

module _ (v : CoreValue) (s : State) (k : Standing) (st : IsState v s k) where
  abbrev h : Shows v s k
  h = st.shown

  missing : v.life ≡ Absent → Answers v s k Event.Drop (Refused Error.NoIndex) v
  missing e = refusal v s k Event.Drop Error.NoIndex h (refused (λ x. x) tt Error.NoIndex (inl (h.life ∙ e, refl)))

  there : v.life ≢ Absent → s.life ≡ Absent → ⊥
  there some none = some (sym h.life ∙ none)

  busy : v.life ≢ Absent → v.txns.active ≢ [] → Answers v s k Event.Drop (Refused Error.TxnsActive) v
  busy some n =
      let x = some_state v.txns.active n in
      let one : AreOne (Some x.1) (s.txns x.0) = subst (λ o. AreOne o (s.txns x.0)) x.2 (h.txns x.0) in
      refusal v s k Event.Drop Error.TxnsActive h (refused (λ y. y) tt Error.TxnsActive (inr (there some, inl ((x.0, one.0, one.1), refl))))

  pub undroppable : (e : Error) → IsUndroppable v e → Answers v s k Event.Drop (Refused e) v
  undroppable e (inl why) = subst (λ x. Answers v s k Event.Drop (Refused x) v) (sym why.0) (missing why.1)
  undroppable e (inr why) = subst (λ x. Answers v s k Event.Drop (Refused x) v) (sym why.0) (busy why.1 why.2)

  module _ (some : v.life ≢ Absent) (quiet : v.txns.active ≡ []) where
    nobody : (t : ℕ) → s.txns t ≡ None
    nobody t = subst (λ es. AreOne (table.state_of t es) (s.txns t)) quiet (h.txns t)

    first : IsFirst (refusals s k Event.Drop) None
    first = inr (there some, inr (λ any. not_none any.2 (nobody any.0), refl))

    abbrev reply : Reply
    reply = Reply.Ticketed (v.last + 1)

    due : IsStepDue s k Event.Drop reply (Some MachineStep.Drop)
    due = (ap (λ n. Reply.Ticketed (n + 1)) (sym h.made), refl)

    pub drop_refused : (error : Error) → IsUnrecorded v error → Answers v s k Event.Drop (Refused error) v
    drop_refused error (inl why) = subst (λ e. Answers v s k Event.Drop (Refused e) v) (sym why.0)
        (no_number v s k h Event.Drop (λ x. x) tt first reply MachineStep.Drop due (λ x. x) (λ e. not_none refl e) why.1)
    drop_refused error (inr why) = subst (λ e. Answers v s k Event.Drop (Refused e) v) (sym why.0)
        (wants_memory v s k h Event.Drop (λ x. x) tt first reply MachineStep.Drop due (λ x. x) (λ n. why.1) (inl (λ e. not_none refl e)))

    module _ (run : HasRun (begun None v.heap.pages) (begun_run None v.heap.pages)) where
      dropped_shown : Shows (index_dropped v) (after s MachineStep.Drop) (standing_after k reply)
      dropped_shown = record {
        rows = h.rows;
        entries = refl;
        txns = h.txns;
        holder = h.holder;
        pledges = h.pledges;
        pledged = h.pledged;
        life = refl;
        pages = h.pages;
        scan_pages = refl;
        places = h.places;
        cleaned = refl;
        bound = refl;
        scan = record {
          run = begun_run None v.heap.pages;
          made = run;
          given = λ p. refl;
          missed = λ p. refl;
          taken = λ n. refl;
          in_a_row = refl;
          untaken = λ page n wanted le. refl;
        };
        made = ap (λ n. n + 1) h.made;
        begun = h.begun;
        active = h.active;
        attempts = refl;
        all_attempts = h.all_attempts;
        commits = h.commits;
      }

      pub drop_made : HasNextNumber v → Answers v s k Event.Drop reply (index_dropped v)
      drop_made left = made v s k h Event.Drop (λ x. x) tt first reply MachineStep.Drop due (λ x. x) (λ n. left) (index_dropped v) dropped_shown refl

-- ---- what the call serves, whatever state the core stands for
pub no_dropping : (v : CoreValue) (error : Error) → IsUndroppable v error → Serves v Event.Drop (Refused error) v
no_dropping v error why s k st = undroppable v s k st error why

module _ (v : CoreValue) (some : v.life ≢ Absent) (quiet : v.txns.active ≡ []) where
  pub drop_spent : (error : Error) → (error ≡ Error.Exhausted) × (LAST_NUMBER ≤ v.last) → IsRefused v Event.Drop error
  drop_spent error why = (by_state, λ s k st. drop_refused v s k st some quiet error (inl why))
    where
      by_state : error ≢ Error.NoMemory
      by_state lack = let other : Error.Exhausted ≡ Error.NoMemory = sym why.0 ∙ lack in absurd cc

  pub drop_fine : HasNextNumber v → IsFine v Event.Drop
  drop_fine left s k st = drop_refused v s k st some quiet Error.NoMemory (inr (refl, left))

pub dropping_serves : {A : Type 0} (v : CoreValue) → v.life ≢ Absent → v.txns.active ≡ [] → (result : Result (Detached A) Error) (v' : CoreValue)
    → OnOk result (v' ≡ index_dropped v) → OnOk result (HasRun (begun None v.heap.pages) (begun_run None v.heap.pages)) → OnOk result (HasNextNumber v)
    → IfOk result (λ d. d.ticket.record ≡ v.last + 1) → IfOk result (λ d. d.ticket.commit ≡ None) → IfErr result (IsUnrecorded v) → OnErr result (v' ≡ v)
    → Serves v Event.Drop (reply_by reply_of_detached result) v'
dropping_serves v some quiet (Ok dropped) v' is run left number no_commit why same s k st =
    ticket_answers v s k Event.Drop Reply.Ticketed dropped.ticket v' number no_commit
    (subst (Answers v s k Event.Drop (Reply.Ticketed (v.last + 1))) (sym is) (drop_made v s k st some quiet run left))
dropping_serves v some quiet (Err error) v' is run left number no_commit why same s k st =
    subst (Answers v s k Event.Drop (Refused error)) (sym same) (drop_refused v s k st some quiet error why)

-- The creation of the index: the reply that is due, and what the core shows after it.
use Rattle.std.proofs.Common.{Err, List, None, Ok, Result, Some, [], ap, cond, false, inl, inr, refl, subst, sym, true, true≢false, ℕ, ◌+◌, ◌∙◌, ◌∷◌, ◌≡◌, ◌≢◌}
use Rattle.std.proofs.Common.{◌≤◌}
use Rattle.std.specs.Prelude.{IfErr, IfOk, OnErr, OnOk}
use Rattle.record_values.specs.declared.error.Error.{Error}
use Rattle.model.specs.Pairs.{is_indexed}
use Rattle.txn_table.specs.Table as table
use Rattle.txn_table.specs.Table.{TxnState}
use Rattle.sorted_scan.specs.Scans.{HasRun, begun, begun_run}
use Rattle.core_model.proofs.Laws.{not_none}
use Rattle.core_model.specs.States.{State}
use Rattle.core_model.specs.Steps.{MachineStep, after}
use Rattle.core_model.specs.Events.{Event, Refused, Reply, Standing, standing_after}
use Rattle.core_model.specs.Replies.{IsStepDue, IsFirst, refusals, refused}
use Rattle.core_parts.specs.Asked.{IsFine, IsRefused}
use Rattle.record_values.specs.declared.number.TheConstants.{LAST_NUMBER}
use Rattle.core_parts.specs.View.{Answers, AreOne, CoreValue, IsState, Serves, Shows}
use Rattle.core_parts.specs.Replies.{reply_by, reply_of_ticket}
use Rattle.core_parts.specs.Private.{HasNextNumber, IsUnrecorded, IsUncreatable, index_created}
use Rattle.core_parts.specs.declared.parts.Ticket.{Ticket}
use Rattle.core_parts.proofs.Due.{made, no_number, refusal, ticket_answers, wants_memory}
use Rattle.core_parts.proofs.Moved.{same_number}

-- a table with a transaction has its state
pub some_state : (es : List (ℕ × TxnState)) → es ≢ [] → (t : ℕ) × (x : TxnState) × (table.state_of t es ≡ Some x)
some_state [] n = absurd (n refl)
some_state (e ∷ es) n = (e.0, e.1, ap (λ b. cond b (Some e.1) (table.state_of e.0 es)) (same_number e.0 e.0 refl))

module _ (v : CoreValue) (s : State) (k : Standing) (st : IsState v s k) where
  abbrev h : Shows v s k
  h = st.shown

  exists : is_indexed v.life ≡ true → Answers v s k Event.Create (Refused Error.IndexExists) v
  exists e = refusal v s k Event.Create Error.IndexExists h (refused (λ x. x) tt Error.IndexExists (inl (ap is_indexed h.life ∙ e, refl)))

  not_there : is_indexed v.life ≡ false → is_indexed s.life ≡ true → ⊥
  not_there none e = true≢false (sym e ∙ ap is_indexed h.life ∙ none)

  busy : is_indexed v.life ≡ false → v.txns.active ≢ [] → Answers v s k Event.Create (Refused Error.TxnsActive) v
  busy none n =
      let x = some_state v.txns.active n in
      let one : AreOne (Some x.1) (s.txns x.0) = subst (λ o. AreOne o (s.txns x.0)) x.2 (h.txns x.0) in
      refusal v s k Event.Create Error.TxnsActive h (refused (λ y. y) tt Error.TxnsActive (inr (not_there none, inl ((x.0, one.0, one.1), refl))))

  pub uncreatable : (e : Error) → IsUncreatable v e → Answers v s k Event.Create (Refused e) v
  uncreatable e (inl why) = subst (λ x. Answers v s k Event.Create (Refused x) v) (sym why.0) (exists why.1)
  uncreatable e (inr why) = subst (λ x. Answers v s k Event.Create (Refused x) v) (sym why.0) (busy why.1 why.2)

  module _ (none : is_indexed v.life ≡ false) (quiet : v.txns.active ≡ []) where
    nobody : (t : ℕ) → s.txns t ≡ None
    nobody t = subst (λ es. AreOne (table.state_of t es) (s.txns t)) quiet (h.txns t)

    first : IsFirst (refusals s k Event.Create) None
    first = inr (not_there none, inr (λ any. not_none any.2 (nobody any.0), refl))

    abbrev reply : Reply
    reply = Reply.Ticketed (v.last + 1)

    due : IsStepDue s k Event.Create reply (Some MachineStep.Create)
    due = (ap (λ n. Reply.Ticketed (n + 1)) (sym h.made), refl)

    pub create_refused : (error : Error) → IsUnrecorded v error → Answers v s k Event.Create (Refused error) v
    create_refused error (inl why) = subst (λ e. Answers v s k Event.Create (Refused e) v) (sym why.0)
        (no_number v s k h Event.Create (λ x. x) tt first reply MachineStep.Create due (λ x. x) (λ e. not_none refl e) why.1)
    create_refused error (inr why) = subst (λ e. Answers v s k Event.Create (Refused e) v) (sym why.0)
        (wants_memory v s k h Event.Create (λ x. x) tt first reply MachineStep.Create due (λ x. x) (λ n. why.1) (inl (λ e. not_none refl e)))

    module _ (run : HasRun (begun None v.heap.pages) (begun_run None v.heap.pages)) where
      created_shown : Shows (index_created v) (after s MachineStep.Create) (standing_after k reply)
      created_shown = record {
        rows = h.rows;
        entries = h.entries;
        txns = h.txns;
        holder = h.holder;
        pledges = h.pledges;
        pledged = h.pledged;
        life = refl;
        pages = h.pages;
        scan_pages = refl;
        places = h.places;
        cleaned = h.cleaned;
        bound = refl;
        scan = record {
          run = begun_run None v.heap.pages;
          made = run;
          given = λ p. refl;
          missed = λ p. refl;
          taken = λ n. refl;
          in_a_row = refl;
          untaken = λ page n wanted le. refl;
        };
        made = ap (λ n. n + 1) h.made;
        begun = h.begun;
        active = h.active;
        attempts = refl;
        all_attempts = h.all_attempts;
        commits = h.commits;
      }

      pub create_made : HasNextNumber v → Answers v s k Event.Create reply (index_created v)
      create_made left = made v s k h Event.Create (λ x. x) tt first reply MachineStep.Create due (λ x. x) (λ n. left) (index_created v) created_shown refl

-- ---- what the call serves, whatever state the core stands for
pub no_creation : (v : CoreValue) (error : Error) → IsUncreatable v error → Serves v Event.Create (Refused error) v
no_creation v error why s k st = uncreatable v s k st error why

module _ (v : CoreValue) (none : is_indexed v.life ≡ false) (quiet : v.txns.active ≡ []) where
  pub create_spent : (error : Error) → (error ≡ Error.Exhausted) × (LAST_NUMBER ≤ v.last) → IsRefused v Event.Create error
  create_spent error why = (by_state, λ s k st. create_refused v s k st none quiet error (inl why))
    where
      by_state : error ≢ Error.NoMemory
      by_state lack = let other : Error.Exhausted ≡ Error.NoMemory = sym why.0 ∙ lack in absurd cc

  pub create_fine : HasNextNumber v → IsFine v Event.Create
  create_fine left s k st = create_refused v s k st none quiet Error.NoMemory (inr (refl, left))

pub creation_serves : (v : CoreValue) → is_indexed v.life ≡ false → v.txns.active ≡ [] → (result : Result Ticket Error) (v' : CoreValue)
    → OnOk result (v' ≡ index_created v) → OnOk result (HasRun (begun None v.heap.pages) (begun_run None v.heap.pages)) → OnOk result (HasNextNumber v)
    → IfOk result (λ t. t.record ≡ v.last + 1) → IfOk result (λ t. t.commit ≡ None) → IfErr result (IsUnrecorded v) → OnErr result (v' ≡ v)
    → Serves v Event.Create (reply_by reply_of_ticket result) v'
creation_serves v none quiet (Ok ticket) v' is run left number no_commit why same s k st =
    ticket_answers v s k Event.Create Reply.Ticketed ticket v' number no_commit
    (subst (Answers v s k Event.Create (Reply.Ticketed (v.last + 1))) (sym is) (create_made v s k st none quiet run left))
creation_serves v none quiet (Err error) v' is run left number no_commit why same s k st =
    subst (Answers v s k Event.Create (Refused error)) (sym same) (create_refused v s k st none quiet error why)

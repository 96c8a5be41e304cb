-- A reply that is due, and the refusals in its place.
use Rattle.std.proofs.Common.{None, Some, ap, append-nil, arith, inl, inr, refl, subst, sym, ℕ, ◌++◌, ◌+◌, ◌<◌, ◌∙◌, ◌≡◌, ◌≢◌, ◌≤◌}
use Rattle.record_values.specs.declared.error.Error.{Error}
use Rattle.record_values.specs.declared.number.TheConstants.{LAST_NUMBER}
use Rattle.core_model.specs.Logs.{one_record}
use Rattle.core_model.specs.Records.{action_of}
use Rattle.core_model.specs.States.{State}
use Rattle.core_model.specs.Steps.{MachineStep, after}
use Rattle.core_model.proofs.ReplyLaws.{is_move}
use Rattle.core_model.proofs.Laws.{not_none}
use Rattle.core_model.specs.Events.{BuildReply, Built, CleanReply, Cleaned, Cleaner, Done, Empty, Ended, Event, Found, Idle, Kept, LifeIs, Placed, Refused}
use Rattle.core_model.specs.Events.{Rejected, Reply, RowIs, Scanned, Skipped, Standing, Stepped, Txn, Undone, Wrapped, standing_after}
use Rattle.core_model.specs.Replies.{HasNoPlace, IsAllowed, IsStepDue, IsFirst, IsOfNone, IsProper, WantsMemory, accepted, after_any, no_memory, refusals}
use Rattle.core_model.specs.Replies.{refusals_of, refused_last}
use Rattle.core_model.specs.Served.{IsMove}
use Rattle.core_parts.specs.declared.parts.Ticket.{Ticket}
use Rattle.core_parts.specs.Replies.{ticket_by, ticketed}
use Rattle.core_parts.specs.View.{Answers, CoreValue, IsSafe, IsState, Serves, Shows}

-- a call that was refused, or that only reads, leaves the core as it was
pub still : (v : CoreValue) (s : State) (k : Standing) (e : Event) (reply : Reply) → Shows v s k → standing_after k reply ≡ k → IsAllowed s k e reply None
    → Answers v s k e reply v
still v s k e reply h same allowed = record {
  step = None;
  allowed = allowed;
  shown = subst (Shows v s) (sym same) h;
  outbox = sym (append-nil v.outbox);
  unchanged = λ none. refl;
}

pub refusal : (v : CoreValue) (s : State) (k : Standing) (e : Event) (error : Error) → Shows v s k → IsAllowed s k e (Refused error) None
    → Answers v s k e (Refused error) v
refusal v s k e error h allowed = still v s k e (Refused error) h refl allowed

-- a ticket of the next record, with no commit's number, tells of the step that is meant
pub ticket_answers : (v : CoreValue) (s : State) (k : Standing) (e : Event) (other : ℕ → Reply) (ticket : Ticket) (v' : CoreValue) → ticket.record ≡ v.last + 1
    → ticket.commit ≡ None → Answers v s k e (other (v.last + 1)) v' → Answers v s k e (ticketed other ticket) v'
ticket_answers v s k e other ticket v' number no_commit a =
    subst (λ o. Answers v s k e (ticket_by other ticket.record o) v') (sym no_commit)
    (subst (λ n. Answers v s k e (other n) v') (sym number) a)

-- a step is due that makes a record
module _ (v : CoreValue) (s : State) (k : Standing) (h : Shows v s k) (e : Event) (known : IsOfNone s e
    → ⊥) (proper : IsProper s e) (first : IsFirst (refusals s k e) None) (reply : Reply) (step : MachineStep) (due : IsStepDue s k e reply (Some step))
    (roomy : HasNoPlace s step → ⊥) where
  pub no_number : action_of s step ≢ None → LAST_NUMBER ≤ v.last → Answers v s k e (Refused Error.Exhausted) v
  no_number makes le = refusal v s k e Error.Exhausted h
      (refused_last known proper first reply (Some step) due Error.Exhausted (inr (roomy, inl ((subst (λ n. LAST_NUMBER ≤ n) (sym h.made) le, makes), refl))))

  module _ (numbered : (action_of s step ≢ None) → v.last < LAST_NUMBER) where
    last_first : IsFirst (refusals_of s k (Some step)) None
    last_first = inr (roomy, inr (λ p. apart _ _ h.made p.0 (numbered p.1), refl))
      where
        apart : (n m : ℕ) → n ≡ m → LAST_NUMBER ≤ n → m < LAST_NUMBER → ⊥
        apart n m e l r = omega (arith, e, l, r)

    pub wants_memory : WantsMemory s e (Some step) → Answers v s k e (Refused Error.NoMemory) v
    wants_memory wants = refusal v s k e Error.NoMemory h (no_memory known proper first reply (Some step) due last_first wants)

    pub made : (v' : CoreValue) → Shows v' (after s step) (standing_after k reply) → v'.outbox ≡ v.outbox ++ one_record v.last (action_of s step)
        → Answers v s k e reply v'
    made v' shown waits = record {
      step = Some step;
      allowed = accepted known proper first reply (Some step) due last_first;
      shown = shown;
      outbox = waits ∙ ap (λ n. v.outbox ++ one_record n (action_of s step)) (sym h.made);
      unchanged = λ none. absurd (not_none refl none);
    }

-- ---- a core stays one
counted_build : (k : Standing) (b : BuildReply) → k.commits ≤ k.made → (standing_after k (Built b)).commits ≤ (standing_after k (Built b)).made
counted_build k (Scanned page) h = h
counted_build k (Placed p) h = omega (arith, h)
counted_build k (Rejected p) h = h
counted_build k (BuildReply.Marked p n) h = omega (arith, h)
counted_build k (Done n) h = omega (arith, h)
counted_build k Idle h = h

counted_clean : (k : Standing) (c : CleanReply) → k.commits ≤ k.made → (standing_after k (Cleaner c)).commits ≤ (standing_after k (Cleaner c)).made
counted_clean k (Cleaned p) h = omega (arith, h)
counted_clean k (Kept p) h = h
counted_clean k Wrapped h = h

-- each commit made a record
counted : (k : Standing) (reply : Reply) → k.commits ≤ k.made → (standing_after k reply).commits ≤ (standing_after k reply).made
counted k (Txn t) h = h
counted k (Reply.Rid r) h = omega (arith, h)
counted k Stepped h = omega (arith, h)
counted k Undone h = omega (arith, h)
counted k Empty h = h
counted k Ended h = omega (arith, h)
counted k (Reply.Committed n c) h = omega (arith, h)
counted k (Reply.Ticketed n) h = omega (arith, h)
counted k (Built b) h = counted_build k b h
counted k (Cleaner c) h = counted_clean k c h
counted k (RowIs o) h = h
counted k (Found rids) h = h
counted k (LifeIs life) h = h
counted k Skipped h = h
counted k (Refused error) h = h

pub stands : (old new : CoreValue) (s : State) (k : Standing) (e : Event) (reply : Reply) → IsState old s k → (a : Answers old s k e reply new)
    → IsState new (after_any s a.step) (standing_after k reply)
stands old new s k e reply is a =
    let m : IsMove s k a.step (standing_after k reply) = is_move s k e reply a.step is.fit is.standing a.allowed in
    record { shown = a.shown; fit = m.fit; standing = m.standing; counted = counted k reply is.counted }

pub stays_safe : (old : CoreValue) (e : Event) (reply : Reply) (new : CoreValue) → Serves old e reply new → IsSafe old → IsSafe new
stays_safe old e reply new serves safe =
    let a : Answers old safe.state safe.standing e reply new = serves safe.state safe.standing safe.is in
    record {
      state = after_any safe.state a.step;
      standing = standing_after safe.standing reply;
      is = stands old new safe.state safe.standing e reply safe.is a;
    }

-- What a step of the builder means to the loop.
use Rattle.std.proofs.Common.{◌≡◌, ◌≢◌, ◌⊎◌, IfErr, IfOk, IfSome, Option, None, Some, ◌<◌, ◌≤◌, ℕ, Bool, true, false, nat_lt, refl, Result, Ok, Err, inl, inr}
use Rattle.std.proofs.Common.{sym, subst, max, arith, ltb-true, ltb-false}
use Rattle.std.proofs.Math.Logic.{∥∥₁_map}
use Rattle.record_values.specs.declared.error.Error.{Error}
use Rattle.record_values.specs.declared.error.Error.TheVariants.{NoMemory, Stopped}
use Rattle.record_values.specs.declared.pair.Pair.{Pair}
use Rattle.core_model.specs.Events.{Event, Refused}
use Rattle.core_model.specs.Histories.{Opened}
use Rattle.core_parts.specs.Builds.{built}
use Rattle.core_parts.specs.Replies.{reply_by}
use Rattle.core_parts.specs.declared.parts.Ticket.{Ticket}
use Rattle.core_parts.specs.declared.reply.BuildReply.{BuildReply}
use Rattle.core_parts.specs.declared.reply.BuildReply.TheVariants as reply
use Rattle.shared.specs.Seats.{BuildValue}
use Rattle.shared.specs.Served.{WasServed}
use Rattle.threads_loops.specs.Building.{BuildsOn, EndsBuilder, EndsRun, HasAttempted, HasBuilt, HasPublished, HasStepped, reason_of}

module _ (o : Opened) (step : Result BuildReply Error) (attempts : ℕ) (was : ∥ HasStepped o (reply_by built step) attempts ∥₁) where
  -- as it was served, the step being so
  so_stepped : (now : Result BuildReply Error) → step ≡ now → ∥ HasStepped o (reply_by built now) attempts ∥₁
  so_stepped now is = subst (λ (r : Result BuildReply Error). ∥ HasStepped o (reply_by built r) attempts ∥₁) is was

  so_served : (now : Result BuildReply Error) → step ≡ now → ∥ WasServed o Event.Build (reply_by built now) ∥₁
  so_served now is = ∥∥₁_map (so_stepped now is) (λ stepped. stepped.served)

  pub was_done : (ticket : Ticket) → step ≡ Ok (reply.Done ticket) → ∥ WasServed o Event.Build (built (reply.Done ticket)) ∥₁
  was_done ticket is = so_served (Ok (reply.Done ticket)) is

  pub was_published : (ticket : Ticket) → step ≡ Ok (reply.Done ticket) → (progress : ℕ) → attempts ≤ progress → ∥ HasPublished o ticket progress ∥₁
  was_published ticket is progress told = ∥∥₁_map (so_stepped (Ok (reply.Done ticket)) is) (λ stepped.
      record { attempts = attempts; stepped = stepped; told = told })

  pub was_refused : (e : Error) → step ≡ Err e → ∥ WasServed o Event.Build (Refused e) ∥₁
  was_refused e is = so_served (Err e) is

  pub was_attempted : (pair : Pair) → (step ≡ Ok (reply.Placed pair)) ⊎ (step ≡ Ok (reply.Rejected pair)) → ∥ HasAttempted o attempts ∥₁
  was_attempted pair (inl is) = ∥∥₁_map (so_stepped (Ok (reply.Placed pair)) is) (λ stepped. inl (pair, inl stepped))
  was_attempted pair (inr is) = ∥∥₁_map (so_stepped (Ok (reply.Rejected pair)) is) (λ stepped. inl (pair, inr stepped))

  pub was_completed : (ticket : Ticket) → step ≡ Ok (reply.Done ticket) → ∥ HasAttempted o attempts ∥₁
  was_completed ticket is = ∥∥₁_map (so_stepped (Ok (reply.Done ticket)) is) (λ stepped. inr (ticket, stepped))

-- a count that was raised is one of the two
pub raised : (o : Opened) (first was attempts new : ℕ) → new ≡ max was attempts → (first < was → ∥ HasAttempted o was ∥₁) → ∥ HasAttempted o attempts ∥₁
    → first < new → ∥ HasAttempted o new ∥₁
raised o first was attempts new is before now more = by (nat_lt was attempts) refl
  where
    at : (n : ℕ) → new ≡ n → ∥ HasAttempted o n ∥₁ → ∥ HasAttempted o new ∥₁
    at n same has = subst (λ (k : ℕ). ∥ HasAttempted o k ∥₁) (sym same) has

    by : (b : Bool) → nat_lt was attempts ≡ b → ∥ HasAttempted o new ∥₁
    by true less = at attempts (omega (arith, is, ltb-true was attempts less)) now
    by false not =
        let same : new ≡ was = omega (arith, is, ltb-false was attempts not) in
        at was same (before (omega (arith, same, more)))

-- why a builder ended that is ended with its clients
pub ended_why : (o : Opened) (P : Type 0) (e : Error)
    → ((e ≡ Stopped) × P) ⊎ ((e ≢ NoMemory) × ∥ WasServed o Event.Build (Refused e) ∥₁ × (true ≡ true → EndsRun o e)) → EndsBuilder o e
ended_why o P e (inl stopped) not = absurd (not stopped.0)
ended_why o P e (inr refused) not = (refused.0, refused.1, refused.2 refl)

-- why a builder ended that is ended by the stop flag alone
pub looked_why : {T : Type 0} (o : Opened) (P : Type 0) (result : Result T Error)
    → IfErr result (λ e. ((e ≡ Stopped) × (false ≡ false → P)) ⊎ ((e ≢ NoMemory) × ∥ WasServed o Event.Build (Refused e) ∥₁ × (false ≡ true → EndsRun o e)))
    → IfErr result (λ e. ((e ≡ Stopped) × P) ⊎ ((e ≢ NoMemory) × ∥ WasServed o Event.Build (Refused e) ∥₁))
looked_why o P (Ok x) why = tt
looked_why o P (Err e) (inl stopped) = inl (stopped.0, stopped.1 refl)
looked_why o P (Err e) (inr refused) = inr (refused.0, refused.1)

-- ---- one index behind another

-- what was published of an index that was completed stays so
pub still_published : (o : Opened) (ticket : Ticket) (was now : ℕ) → was ≤ now → ∥ HasPublished o ticket was ∥₁ → ∥ HasPublished o ticket now ∥₁
still_published o ticket was now rises before = ∥∥₁_map before (λ published.
    record { attempts = published.attempts; stepped = published.stepped; told = omega (arith, published.told, rises) })

pub still_last : (o : Opened) (completed : Option Ticket) (was now : ℕ) → was ≤ now → IfSome completed (λ ticket. ∥ HasPublished o ticket was ∥₁)
    → IfSome completed (λ ticket. ∥ HasPublished o ticket now ∥₁)
still_last o None was now rises before = tt
still_last o (Some ticket) was now rises before = still_published o ticket was now rises before

-- a count that rose twice is that of an attempt
pub attempted_on : (o : Opened) (first was now : ℕ) → was ≤ now → (first < was → ∥ HasAttempted o was ∥₁) → (was < now → ∥ HasAttempted o now ∥₁) → first < now
    → ∥ HasAttempted o now ∥₁
attempted_on o first was now rises before later more = by (nat_lt was now) refl
  where
    by : (b : Bool) → nat_lt was now ≡ b → ∥ HasAttempted o now ∥₁
    by true less = later (ltb-true was now less)
    by false not =
        let same : now ≡ was = omega (arith, rises, ltb-false was now not) in
        subst (λ (k : ℕ). ∥ HasAttempted o k ∥₁) (sym same) (before (omega (arith, same, more)))

-- and one that is the same as it was
pub attempted_as : (o : Opened) (first was now : ℕ) → now ≡ was → (first < was → ∥ HasAttempted o was ∥₁) → first < now → ∥ HasAttempted o now ∥₁
attempted_as o first was now same before more = subst (λ (k : ℕ). ∥ HasAttempted o k ∥₁) (sym same) (before (omega (arith, same, more)))

-- what holds of the index that was completed last holds of the one that is told
pub last_told : (P : Ticket → Type 0) (completed : Option Ticket) (error : Error) (result : Result Ticket Error)
    → IfOk result (λ ticket. (completed ≡ Some ticket) × (error ≡ Stopped)) → IfSome completed P → IfOk result P
last_told P None error (Ok ticket) is before = absurd (none_told ticket is.0)
  where
    none_told : (t : Ticket) → None ≡ Some t → ⊥
    none_told t same = cc
last_told P (Some last) error (Ok ticket) is before =
    let same : last ≡ ticket = (let told : Some last ≡ Some ticket = is.0 in cc) in
    subst P same before
last_told P completed error (Err e) is before = tt

-- why the last build ended is why none is told
pub why_told : (W : Error → Type 0) (completed : Option Ticket) (error : Error) (result : Result Ticket Error)
    → IfErr result (λ e. (e ≡ error) × (error ≡ Stopped → completed ≡ None)) → W error → IfErr result W
why_told W completed error (Ok ticket) is why = tt
why_told W completed error (Err e) is why = subst W (sym is.0) why

-- a builder that was stopped may end so
pub stopped_ends : (o : Opened) → EndsBuilder o Stopped
stopped_ends o not = absurd (not refl)

-- so a builder has gone on that ended by this reason
pub built_on : (o : Opened) (old new : BuildValue) (completed : Option Ticket) (error : Error) (result : Result Ticket Error) → HasBuilt o old completed new
    → EndsBuilder o error → IfOk result (λ ticket. (completed ≡ Some ticket) × (error ≡ Stopped))
    → IfErr result (λ e. (e ≡ error) × (error ≡ Stopped → completed ≡ None)) → BuildsOn o old result new
built_on o old new completed error result has why ok err = record {
  done = last_told (λ ticket. ∥ WasServed o Event.Build (built (reply.Done ticket)) ∥₁) completed error result ok has.done;
  published = last_told (λ ticket. ∥ HasPublished o ticket new.progress ∥₁) completed error result ok has.published;
  why = why_told (EndsBuilder o) completed error result err why;
  rises = has.rises;
  attempted = has.attempted;
}

-- and this is why it is told to have ended
pub told_reason : (completed : Option Ticket) (error : Error) (result : Result Ticket Error)
    → IfOk result (λ ticket. (completed ≡ Some ticket) × (error ≡ Stopped))
    → IfErr result (λ e. (e ≡ error) × (error ≡ Stopped → completed ≡ None)) → error ≡ reason_of result
told_reason completed error (Ok ticket) ok err = ok.1
told_reason completed error (Err e) ok err = sym err.0

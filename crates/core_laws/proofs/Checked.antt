-- What a check says of the call.
use Rattle.std.proofs.Common.{ap, subst, sym, ◌≡◌, ◌≢◌}
use Rattle.record_values.specs.declared.error.Error.{Error}
use Rattle.core_model.specs.States.{State}
use Rattle.core_model.specs.Events.{Event, Refused, Reply, Standing}
use Rattle.core_model.specs.Replies.{IsAllowed}
use Rattle.core_model.specs.Served.{HasStanding}
use Rattle.core_parts.specs.Asked.{IsFine, IsRefused}
use Rattle.core_parts.specs.View.{Answers, CoreValue, IsSafe, Serves}
use Rattle.core_laws.specs.Granted.{IsGranted}
use Rattle.core_laws.proofs.Deciding.{memory_granted, reply_one}

abbrev error_of : Reply → Error
error_of (Refused error) = error
error_of _ = Error.NoMemory

by_state : (error : Error) → error ≢ Error.NoMemory → Refused error ≢ Refused Error.NoMemory
by_state error n lack = n (ap error_of lack)

module _ (v : CoreValue) (e : Event) (safe : IsSafe v) where
  abbrev s : State
  s = safe.state

  abbrev k : Standing
  k = safe.standing

  h : HasStanding s k
  h = safe.is.standing

  -- a refused call gets this refusal
  pub check_refused : (new : CoreValue) (error : Error) (reply : Reply) → IsRefused v e error → Serves v e reply new → reply ≡ Refused error
  check_refused new error reply is serves =
      let a : Answers v s k e (Refused error) v = is.1 s k safe.is in
      let b : Answers v s k e reply new = serves s k safe.is in
      let plain : Refused error ≢ Refused Error.NoMemory = by_state error is.0 in
      let granted : reply ≡ Refused Error.NoMemory → ⊥ = λ lack.
      memory_granted s k h e (Refused error) a.step b.step a.allowed plain (subst (λ r. IsAllowed s k e r b.step) lack b.allowed) in
      (reply_one s k h e reply (Refused error) b.step a.step b.allowed a.allowed granted plain).0

  pub check_one : (error other : Error) → IsRefused v e error → IsRefused v e other → error ≡ other
  check_one error other a b = ap error_of (check_refused v other (Refused error) b a.1)

  pub check_apart : (error : Error) → IsRefused v e error → IsFine v e → ⊥
  check_apart error a fine = a.0 (sym (ap error_of (check_refused v error (Refused Error.NoMemory) a fine)))

  -- and a fine one what it asks for, but for want of memory
  pub check_fine : (new : CoreValue) (reply : Reply) → IsFine v e → Serves v e reply new → reply ≢ Refused Error.NoMemory → IsGranted reply
  check_fine new reply fine serves n =
      let a : Answers v s k e (Refused Error.NoMemory) v = fine s k safe.is in
      let b : Answers v s k e reply new = serves s k safe.is in
      memory_granted s k h e reply b.step a.step b.allowed n a.allowed

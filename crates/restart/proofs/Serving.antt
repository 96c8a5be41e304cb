-- A request is served by the core, or is a flush.
use Rattle.std.proofs.Common.{None, Option, Some, refl, subst, sym, ℕ, [], ◌∷◌, ◌≡◌, ◌≢◌}
use Rattle.core_model.specs.Events as core
use Rattle.sector_device.specs.DevicePast.{DevicePast}
use Rattle.restart.specs.declared.parts.EngineParts.{EngineParts}
use Rattle.restart.specs.declared.event.Event.{Event}
use Rattle.restart.specs.declared.event.Event.TheVariants as event
use Rattle.restart.specs.declared.event.Reply.{Reply}
use Rattle.restart.specs.declared.event.Reply.TheVariants as reply
use Rattle.restart.specs.History.{acknowledged, answered, asked}
use Rattle.restart.specs.Lawful.{IsInCore, IsInCoreBy, IsLawful, ServesInCore}
use Rattle.restart.specs.Parts.{writer_of}
use Rattle.restart.specs.Store.{CanRun, ServesOn}
use Rattle.restart.proofs.Served.{can_run_then, served}
use Rattle.restart.proofs.Standing.{Laws}

-- what the core answers tells nothing of what is safe
quiet : {M : Type 0} (r : Reply M) (x : core.Reply) → answered r ≡ Some x → (n : ℕ) → acknowledged n (r ∷ []) ≡ n
quiet (reply.Txn t) x is n = refl
quiet (reply.Rid r) x is n = refl
quiet reply.Stepped x is n = refl
quiet reply.Undone x is n = refl
quiet reply.Empty x is n = refl
quiet reply.Ended x is n = refl
quiet (reply.Ticket t) x is n = refl
quiet (reply.Built b) x is n = refl
quiet (reply.Cleaned c) x is n = refl
quiet (reply.Horizon m) x is n = absurd cc
quiet reply.LogFull x is n = refl
quiet reply.Copied x is n = refl
quiet (reply.Flipped m) x is n = absurd cc
quiet reply.Again x is n = refl
quiet (reply.Row row) x is n = refl
quiet (reply.Found rids) x is n = refl
quiet (reply.Life life) x is n = refl
quiet reply.Skipped x is n = refl
quiet (reply.Refused e) x is n = refl

module _ {D M : Type 0} (failures : D → ℕ) (r : Reply M) (old new : EngineParts D M) where
  lawful_in_core : (x : Event) → IsInCore x r old new → IsLawful failures x r old new
  lawful_in_core event.Begin is = is
  lawful_in_core (event.Insert txn key body) is = is
  lawful_in_core (event.Delete txn rid) is = is
  lawful_in_core (event.Update txn rid key body) is = is
  lawful_in_core (event.Step txn) is = is
  lawful_in_core (event.Undo txn) is = is
  lawful_in_core (event.End txn) is = is
  lawful_in_core (event.Commit txn) is = is
  lawful_in_core event.Create is = is
  lawful_in_core event.Drop is = is
  lawful_in_core event.Build is = is
  lawful_in_core event.Clean is = is
  lawful_in_core event.Flush is = absurd is
  lawful_in_core event.Copy is = absurd is
  lawful_in_core (event.Get rid) is = is
  lawful_in_core (event.Find key) is = is
  lawful_in_core event.Life is = is

module _ {D M : Type 0} (past_of : D → DevicePast) (failures : D
    → ℕ) (x : Event) (r : Reply M) (old new : EngineParts D M) (in_core : IsInCore x r old new) where
  by_core : (o : Option core.Event) → asked x ≡ o → IsInCoreBy o r old new → (e : core.Event) × (asked x ≡ Some e) × ServesInCore e r old new
  by_core None is given = absurd given
  by_core (Some e) is given = (e, is, given)

  pub served_by_core : Laws past_of (writer_of old) → ServesOn past_of x r old new
  served_by_core laws past is = let by = by_core (asked x) refl in_core in
      served past_of x by.0 r old new by.1 by.2 laws (quiet r by.2.reply by.2.reply_is) past is

  pub answered_by_core : IsLawful failures x r old new
  answered_by_core = lawful_in_core failures r old new x in_core

  pub can_run_by_core : Laws past_of (writer_of old) → CanRun past_of old → CanRun past_of new
  can_run_by_core laws can = let by = by_core (asked x) refl in_core in can_run_then past_of x by.0 r old new by.1 by.2 laws can

-- a request that the core answers nothing to, and that is no copy, is a flush
pub is_flush : (x : Event) → asked x ≡ None → x ≢ event.Copy → x ≡ event.Flush
is_flush event.Begin none other = absurd cc
is_flush (event.Insert txn key body) none other = absurd cc
is_flush (event.Delete txn rid) none other = absurd cc
is_flush (event.Update txn rid key body) none other = absurd cc
is_flush (event.Step txn) none other = absurd cc
is_flush (event.Undo txn) none other = absurd cc
is_flush (event.End txn) none other = absurd cc
is_flush (event.Commit txn) none other = absurd cc
is_flush event.Create none other = absurd cc
is_flush event.Drop none other = absurd cc
is_flush event.Build none other = absurd cc
is_flush event.Clean none other = absurd cc
is_flush event.Flush none other = refl
is_flush event.Copy none other = absurd (other refl)
is_flush (event.Get rid) none other = absurd cc
is_flush (event.Find key) none other = absurd cc
is_flush event.Life none other = absurd cc

-- what is answered to a request, where it is known which one it is
module _ {D M : Type 0} (x y : Event) (r : Reply M) (old mid new : EngineParts D M) (is : x ≡ y) (same : mid ≡ old) where
  pub serves_as : (past_of : D → DevicePast) → ServesOn past_of y r mid new → ServesOn past_of x r old new
  serves_as past_of serves = subst (λ e. ServesOn past_of e r old new) (sym is) (subst (λ e. ServesOn past_of y r e new) same serves)

  pub lawful_as : (failures : D → ℕ) → IsLawful failures y r mid new → IsLawful failures x r old new
  lawful_as failures lawful = subst (λ e. IsLawful failures e r old new) (sym is) (subst (λ e. IsLawful failures y r e new) same lawful)

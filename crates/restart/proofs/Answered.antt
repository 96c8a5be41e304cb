-- What the core answered is what the engine answers.
use Rattle.std.proofs.Common.{Bool, Err, IsTrue, None, Ok, Option, Result, Some, [], false, refl, subst, sym, true, ◌↔◌, ◌≡◌, ◌≢◌}
use Rattle.record_values.specs.declared.error.Error.{Error}
use Rattle.core_model.specs.Events as core
use Rattle.txn_table.specs.Table.{TxnState}
use Rattle.core_parts.specs.Moves.{HasNoChange}
use Rattle.core_parts.specs.Replies.{reply_by}
use Rattle.core_parts.specs.View as view
use Rattle.restart.specs.declared.parts.EngineParts.{EngineParts}
use Rattle.restart.specs.declared.event.Event.{Event}
use Rattle.restart.specs.declared.event.Reply.{Reply}
use Rattle.restart.specs.declared.event.Reply.TheVariants as reply
use Rattle.restart.specs.History.{answered}
use Rattle.restart.specs.Lawful.{IsInCore, ServesInCore}
use Rattle.restart.specs.Parts.{core_of}

module _ {D M T : Type 0} (e : core.Event) (f : T → core.Reply) (result : Result T Error) (old new : EngineParts D M)
    (serves : view.Serves (core_of old) e (reply_by f result) (core_of new)) (rest : new ≡ record old { core = new.core }) where
  pub answered_ok : (x : T) (answer : Reply M) → result ≡ Ok x → answered answer ≡ Some (f x) → ServesInCore e answer old new
  answered_ok x answer is same = record {
    reply = f x;
    reply_is = same;
    serves = subst (λ r. view.Serves (core_of old) e (reply_by f r) (core_of new)) is serves;
    rest = rest;
  }

  pub answered_err : (error : Error) → result ≡ Err error → ServesInCore e (reply.Refused error) old new
  answered_err error is = record {
    reply = core.Refused error;
    reply_is = refl;
    serves = subst (λ r. view.Serves (core_of old) e (reply_by f r) (core_of new)) is serves;
    rest = rest;
  }

-- a request that the core's condition refuses, or that only reads
module _ {D M : Type 0} (e : core.Event) (old : EngineParts D M) where
  pub answered_still : (answer : Reply M) (r : core.Reply) → answered answer ≡ Some r → view.Serves (core_of old) e r (core_of old)
      → ServesInCore e answer old old
  answered_still answer r same serves = record { reply = r; reply_is = same; serves = serves; rest = refl }

-- what is answered to a request, where it is known which one it is
pub as_asked : {D M : Type 0} (x y : Event) (answer : Reply M) (old new : EngineParts D M) → x ≡ y → IsInCore y answer old new → IsInCore x answer old new
as_asked x y answer old new is in_core = subst (λ (e : Event). IsInCore e answer old new) (sym is) in_core

-- a transaction that may not end is active, and has a change
pub has_change : (o : Option TxnState) (may : Bool) → (IsTrue may ↔ HasNoChange o) → may ≡ false → (x : TxnState) × (o ≡ Some x) × (x.changes ≢ [])
has_change None may tells is = let yes : may ≡ true = tells.1 tt in absurd cc
has_change (Some x) may tells is = (x, refl, λ e. let yes : may ≡ true = tells.1 e in absurd cc)

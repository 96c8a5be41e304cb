-- What happened under the lock, for whoever was not there.
use Rattle.std.proofs.Common.{◌≡◌, ℕ, List, Some}
use Rattle.std.proofs.Math.Logic.{∥∥₁_map}
use Rattle.std.specs.Prelude.{slice_get}
use Rattle.records.specs.RecordValue.{RecordValue}
use Rattle.core_model.specs.Events.{Event, Reply}
use Rattle.core_model.specs.Histories.{Opened}
use Rattle.core_parts.specs.View.{CoreValue, Serves}
use Rattle.threads_sessions.specs.Values.{SessionValue}
use Rattle.locked_core.specs.Names.{IsShared}
use Rattle.shared.specs.Served.{WasServed, WasServedTo}

module _ (o : Opened) (core new : CoreValue) (pushed : List RecordValue) (book : List SessionValue) (shared : ∥ IsShared o core pushed book ∥₁) (e : Event)
    (reply : Reply) (serves : Serves core e reply new) where
  pub served : ∥ WasServed o e reply ∥₁
  served = ∥∥₁_map shared (λ all. record { core = core; new = new; pushed = pushed; book = book; shared = all; serves = serves })

  pub served_to : (seat : ℕ) (session : SessionValue) → slice_get book seat ≡ Some session → ∥ WasServedTo o seat session e reply ∥₁
  served_to seat session here = ∥∥₁_map shared (λ all.
      record { core = core; new = new; pushed = pushed; book = book; shared = all; here = here; serves = serves })

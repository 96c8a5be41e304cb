-- What was seen under the lock, for whoever was not there.
use Rattle.std.proofs.Common.{◌≡◌, ℕ, List, Some}
use Rattle.std.proofs.Math.Logic.{∥∥₁_map}
use Rattle.std.specs.Prelude.{slice_get}
use Rattle.records.specs.RecordValue.{RecordValue}
use Rattle.core_model.specs.Histories.{Opened}
use Rattle.core_parts.specs.View.{CoreValue}
use Rattle.threads_sessions.specs.Values.{SessionValue}
use Rattle.locked_core.specs.Names.{IsShared}
use Rattle.shared.specs.Scans.{WasSeen}

module _ (o : Opened) (core : CoreValue) (pushed : List RecordValue) (book : List SessionValue) (shared : ∥ IsShared o core pushed book ∥₁) where
  pub seen_by : (Holds : CoreValue → Type 0) (seat : ℕ) (session : SessionValue) → slice_get book seat ≡ Some session → Holds core
      → ∥ WasSeen o seat session Holds ∥₁
  seen_by Holds seat session here holds = ∥∥₁_map shared (λ all.
      record { core = core; pushed = pushed; book = book; shared = all; here = here; holds = holds })

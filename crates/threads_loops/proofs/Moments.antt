-- What happened under the lock, for whoever was not there.
use Rattle.std.proofs.Common.{◌≡◌, ◌∙◌, Bool, List, ap, sym}
use Rattle.std.proofs.Math.Logic.{∥∥₁_map}
use Rattle.board.specs.Views.{Sighting}
use Rattle.records.specs.RecordValue.{RecordValue}
use Rattle.core_model.specs.Events.{Event, Reply}
use Rattle.core_model.specs.Histories.{Opened}
use Rattle.core_parts.specs.View.{CoreValue, Serves}
use Rattle.threads_sessions.specs.Values.{SessionValue}
use Rattle.locked_core.specs.Names.{IsShared}
use Rattle.shared.specs.Served.{WasServed}

pub was_served : (o : Opened) (core new : CoreValue) (pushed : List RecordValue) (book : List SessionValue) → ∥ IsShared o core pushed book ∥₁
    → (e : Event) (reply : Reply) → Serves core e reply new → ∥ WasServed o e reply ∥₁
was_served o core new pushed book shared e reply serves =
    ∥∥₁_map shared (λ all. record { core = core; new = new; pushed = pushed; book = book; shared = all; serves = serves })

-- what a part of the cleaner has seen stays but for the stop flag
pub stopped_as : (first was now : Sighting) (seen : Bool) → was ≡ record first { stopped = was.stopped } → now ≡ record was { stopped = seen }
    → now ≡ record first { stopped = now.stopped }
stopped_as first was now seen before look =
    let told : now.stopped ≡ seen = ap (λ (s : Sighting). s.stopped) look in
    look ∙ (ap (λ (s : Sighting). record s { stopped = seen }) before ∙ ap (λ (b : Bool). record first { stopped = b }) (sym told))

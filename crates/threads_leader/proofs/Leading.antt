-- The part on a desk goes on, from the one that began.
use Rattle.std.proofs.Common.{◌≡◌, ℕ, Option, Some, Result, IfErr, OnOk, false, true, ap, subst, sym, ◌∙◌}
use Rattle.std.specs.Prelude.{unwrap_or}
use Rattle.record_values.specs.declared.error.Error.{Error}
use Rattle.record_values.specs.declared.error.Error.TheVariants.{DeviceFailed}
use Rattle.core_model.specs.Histories.{Opened}
use Rattle.sector_device.specs.DevicePast.{DevicePast}
use Rattle.store_writer.specs.Parts.{has_failed}
use Rattle.threads_loops.specs.Part.{FlushValue, IsFlusher, LooksForStop}
use Rattle.threads_loops.proofs.Taking.{took_look}
use Rattle.threads_loops.specs.Copying.{StandsBy}
use Rattle.threads_loops.specs.Through.{HasFlushed, PassesThrough, RunsThrough, taken_up}
use Rattle.threads_loops.proofs.Rounds.{stands_by_taking}
use Rattle.threads_loops.proofs.Running.{goes_by_running}
use Rattle.threads_loops.proofs.Through.{through_taking, through_taking_up, through_then}
use Rattle.threads_leader.specs.Led.{IsLed}

module _ {D A : Type 0} {marks : ℕ → ℕ → Type 0} (past_of : D → DevicePast) (failures : D → ℕ) (o : Opened) (begun : Option (FlushValue D A)) where
  pub led_first : (old new : FlushValue D A) → begun ≡ Some old → new ≡ taken_up old → StandsBy new → IsLed past_of marks failures o begun new
  led_first old new begins up stands = record {
    first = old;
    begins = begins;
    through = through_taking_up past_of failures o old new up;
    copying = stands;
  }

  -- it looked whether it is to stop
  pub led_look : (was new : FlushValue D A) → IsLed past_of marks failures o begun was → LooksForStop was new → IsLed past_of marks failures o begun new
  led_look was new led looks =
      let takes = took_look was new looks in
      record {
        first = led.first;
        begins = led.begins;
        through = through_then past_of failures o _ was new led.through (through_taking past_of failures o was new takes);
        copying = stands_by_taking was new takes led.copying;
      }

  -- a round was made
  pub led_round : (was new : FlushValue D A) → IsLed past_of marks failures o begun was → PassesThrough past_of marks failures o was new → StandsBy new
      → IsLed past_of marks failures o begun new
  led_round was new led through stands = record {
    first = led.first;
    begins = led.begins;
    through = through_then past_of failures o _ was new led.through through;
    copying = stands;
  }

  -- and it ended
  module _ (old new : FlushValue D A) (is : IsFlusher past_of marks o old) (begins : begun ≡ Some old)
      (led : IsLed past_of marks failures o begun new) where
    same_first : led.first ≡ old
    same_first = ap (λ (b : Option (FlushValue D A)). unwrap_or b old) (sym led.begins ∙ begins)

    runs_led : RunsThrough past_of marks failures o old new
    runs_led = subst (λ (f : FlushValue D A). RunsThrough past_of marks failures o f new) same_first led.through

    pub flushed_led : (ended : Result (Unit {0}) Error) → OnOk ended (has_failed new.writer ≡ false)
        → IfErr ended (λ e. (e ≡ DeviceFailed) × (has_failed new.writer ≡ true)) → HasFlushed past_of marks failures o old new ended
    flushed_led ended sound failed = record {
      goes_on = goes_by_running past_of failures o old new is runs_led;
      through = runs_led;
      sound = sound;
      failed = failed;
    }

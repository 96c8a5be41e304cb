-- What a request does to a store, and what is printed for it.
use Rattle.std.specs.Prelude.{◌≡◌, ◌⊎◌, ◌<◌, ◌≤◌, ℕ, true, false, Option, List, [], ◌∷◌, length}
use Rattle.std.specs.Io.KnownBytes.{Appends}
use Rattle.std.specs.declared.alloc.Global.{Global}
use Rattle.sector_device.specs.DevicePast.{DevicePast}
use Rattle.restart.specs.declared.event.Event.{Event}
use Rattle.restart.specs.declared.event.Event.TheVariants as event
use Rattle.restart.specs.declared.event.Reply.{Reply}
use Rattle.program_values.specs.Steps.{is_last_step}
use Rattle.program_values.specs.Texts.{line_of}
use Rattle.program_values.specs.declared.answer.Answer.{Answer}
use Rattle.program_values.specs.declared.answer.Answer.TheVariants as answer
use Rattle.program_commands.specs.Answers.{answer_of}
use Rattle.program_commands.specs.Dump.{dump_text}
use Rattle.program_commands.specs.Guarded.{ServesGuarded, TakesImageGuarded, FlushesGuarded, store_of}
use Rattle.program_commands.specs.Outcomes.{outcome_of}
use Rattle.program_commands.specs.Store.{horizon_of}
use Rattle.program_commands.specs.declared.request.Request.{Request}
use Rattle.program_commands.specs.declared.request.Request.TheVariants as request
use Rattle.program_commands.specs.declared.guarded.GuardedStore.{GuardedStore}
use Rattle.program_commands.specs.declared.outcome.Outcome.{Outcome}
use Rattle.program_commands.specs.declared.outcome.Outcome.TheVariants.{Other, Skipped}

-- the line of this answer was printed
abbrev pub Prints : {W : Type 0} → (W → Option (List ℕ)) → Answer → W → W → Type 0
Prints contents answer before after = Appends (contents before) (contents after) (line_of answer)

module _ {D W : Type 0} (past_of : D → DevicePast) (failures : D → ℕ) (contents : W → Option (List ℕ)) where
  -- The event was served, and its answer printed.
  pub record Tells (event : Event) (told : Answer) (old new : GuardedStore D) (before after : W) : Type 0 where
    pub reply : Reply Global
    pub serves : ServesGuarded past_of failures event reply old new
    pub told_is : told ≡ answer_of (horizon_of (store_of new)) reply
    pub prints : Prints contents told before after

  -- The steps had these answers, each of which was printed, and none of which was the last one.
  abbrev pub PrintsSteps : Event → List Answer → GuardedStore D → GuardedStore D → W → W → Type 0
  PrintsSteps event [] old new before after = (new ≡ old) × (after ≡ before)
  PrintsSteps event (told ∷ answers) old new before after =
      (mid : GuardedStore D) × (between : W) × Tells event told old mid before between × (is_last_step told ≡ false)
      × PrintsSteps event answers mid new between after

  -- As many steps of this kind as were asked for were made. Or fewer: one more had the last answer, which is what came
  -- of it.
  abbrev pub MakesSteps : Event → ℕ → Outcome → GuardedStore D → GuardedStore D → W → W → Type 0
  MakesSteps event count outcome old new before after =
      (answers : List Answer) × (mid : GuardedStore D) × (between : W)
      × PrintsSteps event answers old mid before between
      × (((length answers ≡ count) × (outcome ≡ Other) × (new ≡ mid) × (after ≡ between))
      ⊎ ((length answers < count) × (told : Answer) × Tells event told mid new between after
      × (is_last_step told ≡ true)
      × (outcome ≡ outcome_of told)))

  -- The request was served, and what came of it was printed.
  abbrev pub Answers : Request → Outcome → GuardedStore D → GuardedStore D → W → W → Type 0
  Answers (request.Event e) outcome old new before after =
      (told : Answer) × Tells e told old new before after × (outcome ≡ outcome_of told)
  Answers (request.Build count) outcome old new before after = MakesSteps event.Build count outcome old new before after
  Answers (request.Clean count) outcome old new before after = MakesSteps event.Clean count outcome old new before after
  Answers request.Flush outcome old new before after =
      (reply : Reply Global) × FlushesGuarded past_of failures reply old new
      × Prints contents (answer_of (horizon_of (store_of new)) reply) before after
      × (outcome ≡ outcome_of (answer_of (horizon_of (store_of new)) reply))
  Answers request.Image outcome old new before after =
      (reply : Reply Global) × TakesImageGuarded past_of failures reply old new
      × Prints contents (answer_of (horizon_of (store_of new)) reply) before after
      × (outcome ≡ outcome_of (answer_of (horizon_of (store_of new)) reply))
  Answers (request.Crash _) outcome old new before after =
      (new ≡ old) × Prints contents answer.Skipped before after × (outcome ≡ Skipped)
  Answers request.Dump outcome old new before after =
      (new ≡ old) × Appends (contents before) (contents after) (dump_text (store_of old)) × (outcome ≡ Other)

module _ {D : Type 0} (past_of : D → DevicePast) (failures : D → ℕ) where
  -- the event had these replies, one after another
  abbrev pub AreServed : Event → List (Reply Global) → GuardedStore D → GuardedStore D → Type 0
  AreServed event [] old new = new ≡ old
  AreServed event (reply ∷ replies) old new = (mid : GuardedStore D)
      × ServesGuarded past_of failures event reply old mid
      × AreServed event replies mid new

  -- so many of these steps were made at most
  abbrev pub MakesSome : Event → ℕ → GuardedStore D → GuardedStore D → Type 0
  MakesSome event count old new = (replies : List (Reply Global)) × (length replies ≤ count)
      × AreServed event replies old new

  -- The request was served, whatever was printed of it; and of the steps that it asks for, some were made.
  abbrev pub IsServed : Request → GuardedStore D → GuardedStore D → Type 0
  IsServed (request.Event e) old new = (reply : Reply Global) × ServesGuarded past_of failures e reply old new
  IsServed (request.Build count) old new = MakesSome event.Build count old new
  IsServed (request.Clean count) old new = MakesSome event.Clean count old new
  IsServed request.Flush old new = (reply : Reply Global) × FlushesGuarded past_of failures reply old new
  IsServed request.Image old new = (reply : Reply Global) × TakesImageGuarded past_of failures reply old new
  IsServed (request.Crash _) old new = new ≡ old
  IsServed request.Dump old new = new ≡ old

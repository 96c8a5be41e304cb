-- What a step of the builder is, and a run of such steps.
use Rattle.std.specs.FinMap.{get}
use Rattle.std.specs.Prelude.{Err, IsSome, List, Ok, Result, None, Option, Some, []}
use Rattle.std.specs.Prelude.{length, min, nat_lt, if◌then◌else◌, ℕ, ◌+◌, ◌++◌, ◌<◌, ◌∷◌, ◌≡◌}
use Rattle.record_values.specs.declared.limits.TheConstants.{ATTEMPTS_PER_CHECKPOINT}
use Rattle.record_values.specs.declared.pair.Mark.{Mark}
use Rattle.record_values.specs.declared.pair.Mark.TheVariants.{Live}
use Rattle.record_values.specs.declared.pair.Pair.{Pair}
use Rattle.online_index.specs.Standing.{StandsFor}
use Rattle.online_index.specs.Value.{IndexValue}
use Rattle.online_index.specs.declared.build.BuildStep.{BuildStep}
use Rattle.online_index.specs.declared.build.BuildStep.TheVariants as reply
use Rattle.online_index.specs.declared.build.Stop.{Stop}
use Rattle.online_index.specs.declared.build.Stop.TheVariants as stop
use Rattle.record_values.specs.declared.error.Error.{Error}
use Rattle.online_model.specs.Logs.{notes_of, notes_over}
use Rattle.online_model.specs.World.{Attempt, Checkpoint, Finish, IsEnabled, Runs, Step, World, after}
use Rattle.online_model.specs.declared.life.Life.{Life}
use Rattle.online_model.specs.declared.life.Life.TheVariants.{Building, Complete}
use Rattle.online_model.specs.declared.note.Note.{Note}
use Rattle.online_model.specs.declared.note.Note.TheVariants.{EntryIs, LifeIs}
use Rattle.sorted_scan.specs.Scans.{next_of}

-- the step of the machine that a reply tells of, if there is one
abbrev pub step_of : BuildStep → Option Step
step_of (reply.Placed p) = Some (Attempt p)
step_of (reply.Rejected p) = Some (Attempt p)
step_of (reply.Noted p) = Some Checkpoint
step_of reply.Done = Some Finish
step_of (reply.WantsPage page) = None
step_of reply.Idle = None

-- the note of a reply, if there is one
abbrev pub note_of : BuildStep → Option Note
note_of (reply.Placed p) = Some (EntryIs p (Some Live))
note_of (reply.Rejected p) = None
note_of (reply.Noted p) = Some (LifeIs (Building (Some p)))
note_of reply.Done = Some (LifeIs Complete)
note_of (reply.WantsPage page) = None
note_of reply.Idle = None

-- as a list of none or one
abbrev pub listed : Option Note → List Note
listed None = []
listed (Some note) = note ∷ []

-- one step, which is enabled and has these notes, or none, which has no notes
abbrev pub HasMade : World → Option Step → List Note → IndexValue → Type 0
HasMade w None notes v = StandsFor v w × (notes ≡ [])
HasMade w (Some e) notes v = IsEnabled w e × StandsFor v (after w e) × (notes ≡ notes_of w e)

-- what is made of the next pair: it is placed where it has no entry
abbrev pub attempt_of : Pair → Option Mark → BuildStep
attempt_of p None = reply.Placed p
attempt_of p (Some mark) = reply.Rejected p

-- what comes after the pages: the next pair, or the end
abbrev pub pair_due : IndexValue → Option Pair → BuildStep
pair_due v None = reply.Done
pair_due v (Some p) = attempt_of p (get v.entries p)

-- what comes if no checkpoint is due: a page, while one is wanted
abbrev pub page_due : IndexValue → Option ℕ → BuildStep
page_due v None = pair_due v (next_of v.scan)
page_due v (Some page) = reply.WantsPage page

-- the pair of the checkpoint that is due: one is due once this many pairs were attempted since the last one
abbrev pub due_of : IndexValue → Option Pair
due_of v = if nat_lt v.attempts ATTEMPTS_PER_CHECKPOINT then None else v.scan.last

-- what comes while the index is built
abbrev pub checkpoint_due : IndexValue → Option Pair → BuildStep
checkpoint_due v None = page_due v v.scan.wanted
checkpoint_due v (Some p) = reply.Noted p

-- the reply that is due
abbrev pub reply_due : IndexValue → Life → BuildStep
reply_due v Complete = reply.Idle
reply_due v (Building highest) = checkpoint_due v (due_of v)

-- how many pairs were attempted since the last checkpoint, after a reply
abbrev pub attempts_after : BuildStep → ℕ → ℕ
attempts_after (reply.Placed p) n = min (n + 1) ATTEMPTS_PER_CHECKPOINT
attempts_after (reply.Rejected p) n = min (n + 1) ATTEMPTS_PER_CHECKPOINT
attempts_after (reply.Noted p) n = 0
attempts_after reply.Done n = n
attempts_after (reply.WantsPage page) n = n
attempts_after reply.Idle n = n

-- the builder may be refused where it would add an entry
abbrev pub IsPlacing : BuildStep → Type 0
IsPlacing step = (p : Pair) × (step ≡ reply.Placed p)

-- a step of the builder: the host makes none of these
abbrev pub IsOfBuilder : Step → Type 0
IsOfBuilder (Attempt p) = Unit {0}
IsOfBuilder Checkpoint = Unit {0}
IsOfBuilder Finish = Unit {0}
IsOfBuilder e = ⊥

-- each of these is
abbrev pub AreOfBuilder : List Step → Type 0
AreOfBuilder [] = Unit {0}
AreOfBuilder (e ∷ es) = IsOfBuilder e × AreOfBuilder es

-- This many steps of the builder: each was enabled, their notes were appended in order, and the index stands for the
-- world after them.
pub record HasMadeRun (w : World) (number : ℕ) (before now : List Note) (v : IndexValue) : Type 0 where
  pub steps : List Step
  pub each : AreOfBuilder steps
  pub end : World
  pub run : Runs w steps end
  pub count : number ≡ length steps
  pub stands : StandsFor v end
  pub noted : now ≡ before ++ notes_over w steps

-- a step of the builder, which was due
pub record IsStepDue (v : IndexValue) (reply : BuildStep) (v' : IndexValue) : Type 0 where
  pub due : reply ≡ reply_due v v.life
  pub step : IsSome (step_of reply)
  pub made : (w : World) → StandsFor v w → HasMade w (step_of reply) (listed (note_of reply)) v'
  pub attempts : v'.attempts ≡ attempts_after reply v.attempts

-- steps of the builder, one after another, each of which was due when it was made
pub data AreStepsDue (v : IndexValue) : List BuildStep → IndexValue → Type 0 where
  no_steps : AreStepsDue v [] v
  one_more : {u v' : IndexValue} (replies : List BuildStep) (reply : BuildStep) → AreStepsDue v replies u
      → IsStepDue u reply v' → AreStepsDue v (replies ++ reply ∷ []) v'

-- the notes of these steps, in order
abbrev pub notes_of_all : List BuildStep → List Note
notes_of_all [] = []
notes_of_all (reply ∷ replies) = listed (note_of reply) ++ notes_of_all replies

-- a reply that ends a run of steps, and why
abbrev pub stop_of : BuildStep → Option Stop
stop_of (reply.Placed p) = None
stop_of (reply.Rejected p) = None
stop_of (reply.Noted p) = None
stop_of reply.Done = None
stop_of (reply.WantsPage page) = Some (stop.WantsPage page)
stop_of reply.Idle = Some stop.Complete

-- the run has all steps where nothing ended it before
abbrev pub IsCount : Result Stop Error → ℕ → ℕ → Type 0
IsCount (Ok stop.Most) most n = n ≡ most
IsCount (Ok (stop.WantsPage page)) most n = n < most
IsCount (Ok stop.Complete) most n = n < most
IsCount (Err e) most n = n < most

-- why a run ended is so in the end
abbrev pub IsStop : Stop → IndexValue → Type 0
IsStop stop.Most v = Unit {0}
IsStop (stop.WantsPage page) v = v.scan.wanted ≡ Some page
IsStop stop.Complete v = v.life ≡ Complete

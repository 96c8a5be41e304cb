-- What the commands of a script do, and what is printed for them.
use Rattle.std.specs.Prelude.{◌≡◌, ◌⊎◌, ◌<◌, ℕ, true, false, Option, List, [], ◌∷◌, length, Result, Ok, Err}
use Rattle.std.specs.Prelude.{MatchResult}
use Rattle.std.specs.Io.KnownBytes.{Appends}
use Rattle.std.specs.declared.alloc.Global.{Global}
use Rattle.sector_device.specs.declared.call.Fate.{Fate}
use Rattle.sector_device.specs.declared.fault.FaultDisk.{FaultDisk}
use Rattle.sector_device.specs.declared.memory.MemDisk.{MemDisk}
use Rattle.restart.specs.declared.event.Event.{Event}
use Rattle.restart.specs.declared.event.Event.TheVariants as event
use Rattle.restart.specs.declared.event.Reply.{Reply}
use Rattle.program_script.specs.declared.command.Command.{Command}
use Rattle.program_player.specs.Disk.{LosesPower}
use Rattle.program_player.specs.Session.{disk_of, last_made, life_of, outcome_of, LeavesItsRun, ServesEvent, TakesImage}
use Rattle.program_player.specs.Session.{Flushes, calls_to_stop, Reopens}
use Rattle.program_commands.specs.Requests.{request_of}
use Rattle.program_values.specs.Steps.{is_last_step}
use Rattle.program_values.specs.Texts.{line_of}
use Rattle.program_commands.specs.Dump.{dump_text}
use Rattle.program_values.specs.declared.answer.Answer.{Answer}
use Rattle.program_values.specs.declared.answer.Answer.TheVariants as answer
use Rattle.program_commands.specs.declared.request.Request.{Request}
use Rattle.program_commands.specs.declared.request.Request.TheVariants as request
use Rattle.program_player.specs.declared.session.Session.{Session}
use Rattle.program_player.specs.declared.session.Stopped.{Stopped}
use Rattle.program_player.specs.declared.session.End.{End}
use Rattle.program_player.specs.declared.session.End.TheVariants as end

-- no step of the same command follows: the answer is the last one, or the step was stopped
abbrev pub IsLast : Result Answer Stopped → Type 0
IsLast (Ok answer) = is_last_step answer ≡ true
IsLast (Err stopped) = Unit {0}

module _ {W : Type 0} (contents : W → Option (List ℕ)) where
  -- the line of this answer was printed
  abbrev pub Prints : Answer → W → W → Type 0
  Prints answer before after = Appends (contents before) (contents after) (line_of answer)

  -- The answer was printed, and the session goes on. Or it was stopped: then nothing was printed, and its disk is left,
  -- of which a crash leaves its run.
  abbrev pub GoesOn : Result Answer Stopped → Session → Result Session End → W → W → Type 0
  GoesOn (Ok answer) session next before after = (next ≡ Ok session) × Prints answer before after
  GoesOn (Err stopped) session next before after = (next ≡ Err (end.Stopped (disk_of session))) × LeavesItsRun session
      × (after ≡ before)

  -- where the store was opened again, that was printed
  abbrev pub PrintsRestart : Result Session End → W → W → Type 0
  PrintsRestart (Ok session) before after = Prints (answer.Restart (life_of session)) before after
  PrintsRestart (Err e) before after = after ≡ before

  -- The power was lost, with this fate for every unsynced sector, which leaves the session's run, and the store was
  -- opened again, or the session ended.
  abbrev pub Restarts : Fate → Session → Result Session End → W → W → Type 0
  Restarts fate old next before after =
      LeavesItsRun old × ((disk : FaultDisk (MemDisk Global)) × LosesPower fate (calls_to_stop old) (disk_of old) disk
      × Reopens disk (calls_to_stop old) next)
      × PrintsRestart next before after

  -- The steps had these answers, each of which was printed, and none of which was the last one.
  abbrev pub PrintsSteps : Event → List Answer → Session → Session → W → W → Type 0
  PrintsSteps event [] old new before after = (new ≡ old) × (after ≡ before)
  PrintsSteps event (answer ∷ answers) old new before after =
      (mid : Session) × (reply : Reply Global) × (between : W) × ServesEvent event reply old mid
      × (outcome_of mid reply ≡ Ok answer)
      × (is_last_step answer ≡ false) × Prints answer before between × PrintsSteps event answers mid new between after

  -- As many steps of this kind as were asked for were made. Or fewer: one more had the last answer, or was stopped.
  abbrev pub MakesSteps : Event → ℕ → Session → Result Session End → W → W → Type 0
  MakesSteps event count old next before after =
      (answers : List Answer) × (mid : Session) × (between : W) × PrintsSteps event answers old mid before between
      × (((length answers ≡ count) × (next ≡ Ok mid) × (after ≡ between))
      ⊎ ((length answers < count) × (new : Session) × (reply : Reply Global) × ServesEvent event reply mid new
      × IsLast (outcome_of new reply) × GoesOn (outcome_of new reply) new next between after))

  -- The request was served, and what came of it was printed.
  abbrev pub Runs : Request → Session → Result Session End → W → W → Type 0
  Runs (request.Event e) old next before after =
      (new : Session) × (reply : Reply Global) × ServesEvent e reply old new
      × GoesOn (outcome_of new reply) new next before after
  Runs (request.Build count) old next before after = MakesSteps event.Build count old next before after
  Runs (request.Clean count) old next before after = MakesSteps event.Clean count old next before after
  Runs request.Flush old next before after =
      (new : Session) × (reply : Reply Global) × Flushes (last_made old) reply old new
      × GoesOn (outcome_of new reply) new next before after
  Runs request.Image old next before after =
      (new : Session) × (reply : Reply Global) × TakesImage reply old new
      × GoesOn (outcome_of new reply) new next before after
  Runs (request.Crash fate) old next before after = Restarts fate old next before after
  Runs request.Dump old next before after = (next ≡ Ok old)
      × Appends (contents before) (contents after) (dump_text old.store)

  -- What the command asks for was served; one that gives too many bytes was refused.
  abbrev pub RunsCommand : Command → Session → Result Session End → W → W → Type 0
  RunsCommand command old next before after = MatchResult (request_of command)
      (λ request. Runs request old next before after)
      (λ error. GoesOn (Ok (answer.Refused error)) old next before after)

  -- The commands were run in turn, up to the last one, or to that at which the session ended.
  abbrev pub RunsCommands : List Command → Session → Result (Unit {0}) End → W → W → Type 0
  RunsCommands [] old last before after = (last ≡ Ok tt) × (after ≡ before)
  RunsCommands (command ∷ commands) old last before after =
      (next : Result Session End) × (between : W) × RunsCommand command old next before between
      × MatchResult next
      (λ session. RunsCommands commands session last between after)
      (λ e. (last ≡ Err e) × (after ≡ between))

use Rattle.std.proofs.Common.{◌≡◌, ℕ, List, Option, Result, Ok, Err, IfOk, ap, sym, subst}
use Rattle.std.specs.declared.alloc.Global.{Global}
use Rattle.restart.specs.declared.event.Event.{Event}
use Rattle.restart.specs.declared.event.Reply.{Reply}
use Rattle.program_player.specs.Session.{ServesEvent, TakesImage, Flushes, last_made, outcome_of}
use Rattle.program_player.specs.Runs.{GoesOn, Runs}
use Rattle.program_values.specs.declared.answer.Answer.{Answer}
use Rattle.program_commands.specs.declared.request.Request.{Request}
use Rattle.program_commands.specs.declared.request.Request.TheVariants as request
use Rattle.program_player.specs.declared.session.Session.{Session}
use Rattle.program_player.specs.declared.session.Stopped.{Stopped}
use Rattle.program_player.specs.declared.session.End.{End}
use Rattle.program_player.proofs.Kept.{on_ok_of}
use Rattle.program_player.proofs.program.serve.Goals as goal

module _ {W F : Type 0} (contents : W → Option (List ℕ)) (old new : Session) (before after : W) (answer : Result Answer Stopped) where
  -- what comes of an event, where its answer was printed
  event_runs : (event : Event) (result : Result (Result Session End) F)
      → ((reply : Reply Global) × ServesEvent event reply old new × (answer ≡ outcome_of new reply))
      → IfOk result (λ (next : Result Session End). GoesOn contents answer new next before after)
      → IfOk result (λ (next : Result Session End). Runs contents (request.Event event) old next before after)
  event_runs event (Ok next) answered goes =
      (new, answered.0, answered.1, subst (λ (a : Result Answer Stopped). GoesOn contents a new next before after) answered.2 goes)
  event_runs event (Err e) answered goes = goes

  -- what comes of the flushes, where their answer was printed
  flush_runs : (result : Result (Result Session End) F)
      → ((reply : Reply Global) × Flushes (last_made old) reply old new × (answer ≡ outcome_of new reply))
      → IfOk result (λ (next : Result Session End). GoesOn contents answer new next before after)
      → IfOk result (λ (next : Result Session End). Runs contents request.Flush old next before after)
  flush_runs (Ok next) answered goes =
      (new, answered.0, answered.1, subst (λ (a : Result Answer Stopped). GoesOn contents a new next before after) answered.2 goes)
  flush_runs (Err e) answered goes = goes

  -- what comes of an image, where its answer was printed
  image_runs : (result : Result (Result Session End) F)
      → ((reply : Reply Global) × TakesImage reply old new × (answer ≡ outcome_of new reply))
      → IfOk result (λ (next : Result Session End). GoesOn contents answer new next before after)
      → IfOk result (λ (next : Result Session End). Runs contents request.Image old next before after)
  image_runs (Ok next) answered goes =
      (new, answered.0, answered.1, subst (λ (a : Result Answer Stopped). GoesOn contents a new next before after) answered.2 goes)
  image_runs (Err e) answered goes = goes

pub returns-in-Event : goal.returns-in-Event
returns-in-Event g c =
    subst (λ (r : Request). IfOk c.go_on.result (λ (next : Result Session End).
    Runs g.W.Write.contents r c.args.session next c.args.output.now c.go_on.new.output))
    (sym c.in-Event.is)
    (event_runs g.W.Write.contents c.args.session c.serve-answer.new.self c.args.output.now c.go_on.new.output c.serve-answer.result
    c.in-Event.event c.go_on.result c.serve-answer.ensures c.go_on.ensures)

pub returns-in-Flush : goal.returns-in-Flush
returns-in-Flush g c =
    subst (λ (r : Request). IfOk c.go_on-in-Flush.result (λ (next : Result Session End).
    Runs g.W.Write.contents r c.args.session next c.args.output.now c.go_on-in-Flush.new.output))
    (sym c.in-Flush.is)
    (flush_runs g.W.Write.contents c.args.session c.flush-answer.new.self c.args.output.now c.go_on-in-Flush.new.output c.flush-answer.result
    c.go_on-in-Flush.result c.flush-answer.ensures c.go_on-in-Flush.ensures)

pub returns-in-Image : goal.returns-in-Image
returns-in-Image g c =
    subst (λ (r : Request). IfOk c.go_on-in-Image.result (λ (next : Result Session End).
    Runs g.W.Write.contents r c.args.session next c.args.output.now c.go_on-in-Image.new.output))
    (sym c.in-Image.is)
    (image_runs g.W.Write.contents c.args.session c.image-answer.new.self c.args.output.now c.go_on-in-Image.new.output c.image-answer.result
    c.go_on-in-Image.result c.image-answer.ensures c.go_on-in-Image.ensures)

pub returns-in_ok-session-in-Dump : goal.returns-in_ok-session-in-Dump
returns-in_ok-session-in-Dump g c =
    subst (λ (r : Request). Runs g.W.Write.contents r c.args.session (Ok c.in_ok-session-in-Dump.session) c.args.output.now c.dump.new.output)
    (sym c.in-Dump.is)
    (ap Ok c.in_ok-session-in-Dump.ensures.0, on_ok_of _ c.dump.result tt c.in_ok-session-in-Dump.ensures.1 c.dump.ensures)

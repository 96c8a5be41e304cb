use Rattle.std.proofs.Common.{List, IfOk, subst, ◌∙◌, ap, ◌≤◌}
use Rattle.restart.specs.declared.event.Event.{Event}
use Rattle.restart.specs.Lawful.{AreLawful}
use Rattle.restart.specs.Ran.{KeepsWholeRun}
use Rattle.restart.specs.Store.{RunsOn}
use Rattle.headline.specs.Kept.{IsServedWithin}
use Rattle.headline.specs.Stops.{HasStopped, IsFoundAs}
use Rattle.headline.proofs.Stopped.{Images}
use Rattle.headline.proofs.Within.{ended_behind, ended_within}
use Rattle.headline.proofs.daily.serve_day.Goals as goal

pub returns-then-within : goal.returns-then-within
returns-then-within g c = λ before is marked size began days answers keeps.
    let past_of = g.D.Device.past_of in
    let failures = g.D.Device.failures in
    let marks = g.D.Device.marks in
    let images : Images = record { geometry = c.one_answer.ensures.geometry; given = c.one_answer.ensures.given; readable = c.one_answer.ensures.readable } in
    let after = c.serve_within-answer.new.engine in
    let found = c.stop.new.self in
    let mark = c.serve_within-answer.result.1 in
    ended_within past_of failures size began days answers before keeps images c.written_back.ensures.gives c.all_replies.ensures.rising c.args.day.now
    c.args.engine is after found (c.stop.ensures.failures ∙ ap failures c.into_device-device.ensures.device) marks c.args.opening mark marked c.if-within.true
    (subst (λ d. (moment : _) → marks mark moment → moment ≤ (past_of d).moment → HasStopped moment (past_of d) (past_of found))
    c.into_device-device.ensures.device c.stop.ensures.stopped)
    c.serve_within-answer.result.0
    (subst (λ (es : List Event). IsServedWithin past_of failures marks c.args.opening es c.serve_within-answer.result.0 mark c.args.engine after)
    c.deref.ensures.value c.serve_within-answer.ensures)

pub returns-else-within : goal.returns-else-within
returns-else-within g c = λ before is marked size began days answers keeps.
    let past_of = g.D.Device.past_of in
    let failures = g.D.Device.failures in
    let images : Images = record { geometry = c.one_answer.ensures.geometry; given = c.one_answer.ensures.given; readable = c.one_answer.ensures.readable } in
    let after = c.run-answer.new.self in
    let found = c.stop_now.new.self in
    let answer = c.run-answer.result in
    let old = c.args.engine in
    let run = c.run-answer.ensures in
    ended_behind past_of failures size began days answers before keeps images c.written_back.ensures.gives c.all_replies.ensures.rising c.args.day.now old is
    after found (c.stop_now.ensures.failures ∙ ap failures c.into_device-device-else-within.ensures.device) c.if-within.false
    (subst (λ d. IsFoundAs (past_of d).disk (past_of found)) c.into_device-device-else-within.ensures.device c.stop_now.ensures.found) answer
    (subst (λ (es : List Event). IfOk answer (λ replies. KeepsWholeRun past_of es replies.items old after)) c.deref-else-within.ensures.value run.at_end)
    (subst (λ (es : List Event). IfOk answer (λ replies. RunsOn past_of es replies.items old after)) c.deref-else-within.ensures.value run.ran)
    (subst (λ (es : List Event). IfOk answer (λ replies. AreLawful failures es replies.items old after)) c.deref-else-within.ensures.value run.lawful)
    run.refused run.no_memory

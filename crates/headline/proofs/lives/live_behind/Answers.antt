use Rattle.headline.specs.Kept.{IsBegun}
use Rattle.headline.proofs.Holding.{behind, none_lived, not_reopened, unbuilt}
use Rattle.headline.proofs.Stopped.{Images, now_gives, why_unopened}
use Rattle.headline.proofs.lives.live_behind.Goals as goal

pub returns-in-Err-clause-refused : goal.returns-in-Err-clause-refused
returns-in-Err-clause-refused g c = λ size began kept.
    let r = c.in-Err.refusal in
    none_lived g.D.Device.past_of g.D.Device.failures size began c.args.device kept c.args.days.now r.answers.items r.error r.device
    c.in-Err.ensures.none c.in-Err.ensures.no_memory c.in-Err.ensures.unchanged

pub returns-in-Err-restart-clause-refused : goal.returns-in-Err-restart-clause-refused
returns-in-Err-restart-clause-refused g c = λ size began kept.
    let past_of = g.D.Device.past_of in
    let failures = g.D.Device.failures in
    let images : Images = record { geometry = c.one_answer.ensures.geometry; given = c.one_answer.ensures.given; readable = c.one_answer.ensures.readable } in
    let gives = now_gives past_of failures size began c.args.days.now c.in-Ok.answers.items c.in-Ok.found (c.in-Ok.ensures.days size began kept) in
    not_reopened past_of failures size began c.args.days.now c.in-Ok.answers.items c.in-Ok.found gives images c.in-Err-restart.error
    (failures c.in-Err-restart.device)
    (why_unopened past_of failures size began c.args.days.now c.in-Ok.answers.items c.in-Ok.found gives images c.in-Err-restart.device c.in-Err-restart.error
    c.in-Err-restart.ensures.refused)

pub returns-clause-holds : goal.returns-clause-holds
returns-clause-holds g c = λ size began kept none.
    let past_of = g.D.Device.past_of in
    let failures = g.D.Device.failures in
    let images : Images = record { geometry = c.one_answer.ensures.geometry; given = c.one_answer.ensures.given; readable = c.one_answer.ensures.readable } in
    let is : IsBegun past_of failures c.in-Ok.found c.in-Ok-restart.engine =
    record { opened = c.in-Ok-restart.ensures.opened; emptied = c.in-Ok-restart.ensures.emptied; quiet = c.in-Ok-restart.ensures.quiet } in
    behind past_of failures size began c.args.days.now c.in-Ok.answers.items c.in-Ok.found
    (now_gives past_of failures size began c.args.days.now c.in-Ok.answers.items c.in-Ok.found (c.in-Ok.ensures.days size began kept)) images
    c.in-Ok-restart.engine is c.args.build c.finish_build-unbuilt.new.engine c.finish_build-unbuilt.result c.finish_build-unbuilt.ensures.kept
    c.finish_build-unbuilt.ensures.ends
    (λ wanted. c.finish_build-unbuilt.ensures.whole wanted none)

pub returns-clause-unbuilt : goal.returns-clause-unbuilt
returns-clause-unbuilt g c = λ size began kept.
    let past_of = g.D.Device.past_of in
    let failures = g.D.Device.failures in
    let images : Images = record { geometry = c.one_answer.ensures.geometry; given = c.one_answer.ensures.given; readable = c.one_answer.ensures.readable } in
    let is : IsBegun past_of failures c.in-Ok.found c.in-Ok-restart.engine =
    record { opened = c.in-Ok-restart.ensures.opened; emptied = c.in-Ok-restart.ensures.emptied; quiet = c.in-Ok-restart.ensures.quiet } in
    unbuilt past_of failures size began c.args.days.now c.in-Ok.answers.items c.in-Ok.found
    (now_gives past_of failures size began c.args.days.now c.in-Ok.answers.items c.in-Ok.found (c.in-Ok.ensures.days size began kept))
    images c.in-Ok-restart.engine is c.args.build c.finish_build-unbuilt.new.engine c.finish_build-unbuilt.result c.finish_build-unbuilt.ensures.ends
    c.finish_build-unbuilt.ensures.wanted c.finish_build-unbuilt.ensures.refused

use Rattle.headline.specs.Kept.{IsBegun}
use Rattle.headline.proofs.Shared.{lived_on, not_served, unbuilt_on, unopened_on}
use Rattle.headline.proofs.Stopped.{Images}
use Rattle.headline.proofs.beside.share_behind.Goals as goal

pub returns-in-Err-clause-refused : goal.returns-in-Err-clause-refused
returns-in-Err-clause-refused g c = λ size began days kept.
    let images : Images = record { geometry = c.one_answer.ensures.geometry; given = c.one_answer.ensures.given; readable = c.one_answer.ensures.readable } in
    not_served g.D.Device.past_of g.D.Device.failures g.C.Client.works size began days c.args.answers.items c.args.day c.args.device
    kept images c.args.day.clients.len c.in-Err.device c.in-Err.error c.requires
    c.in-Err.ensures.refused

pub returns-in-Err-restart-clause-refused : goal.returns-in-Err-restart-clause-refused
returns-in-Err-restart-clause-refused g c = λ size began days kept.
    let images : Images = record { geometry = c.one_answer.ensures.geometry; given = c.one_answer.ensures.given; readable = c.one_answer.ensures.readable } in
    unopened_on g.D.Device.past_of g.D.Device.failures g.C.Client.works size began days c.args.answers.items c.args.day
    c.in-Ok.shared c.in-Ok.found images
    (c.in-Ok.ensures.served size began days c.args.answers.items kept)
    c.in-Err-restart.device c.in-Err-restart.error c.in-Err-restart.ensures.refused

pub returns-clause-holds : goal.returns-clause-holds
returns-clause-holds g c = λ size began days kept none.
    let past_of = g.D.Device.past_of in
    let failures = g.D.Device.failures in
    let images : Images = record { geometry = c.one_answer.ensures.geometry; given = c.one_answer.ensures.given; readable = c.one_answer.ensures.readable } in
    let is : IsBegun past_of failures c.in-Ok.found c.in-Ok-restart.engine =
    record { opened = c.in-Ok-restart.ensures.opened; emptied = c.in-Ok-restart.ensures.emptied; quiet = c.in-Ok-restart.ensures.quiet } in
    lived_on past_of failures g.C.Client.works size began days c.args.answers.items c.args.day
    c.in-Ok.shared c.in-Ok.found images
    (c.in-Ok.ensures.served size began days c.args.answers.items kept)
    c.in-Ok-restart.engine is c.args.build c.finish_build-unbuilt.new.engine c.finish_build-unbuilt.result c.finish_build-unbuilt.ensures.kept
    c.finish_build-unbuilt.ensures.ends (λ wanted. c.finish_build-unbuilt.ensures.whole wanted none)

pub returns-clause-unbuilt : goal.returns-clause-unbuilt
returns-clause-unbuilt g c = λ size began days kept.
    let past_of = g.D.Device.past_of in
    let failures = g.D.Device.failures in
    let images : Images = record { geometry = c.one_answer.ensures.geometry; given = c.one_answer.ensures.given; readable = c.one_answer.ensures.readable } in
    let is : IsBegun past_of failures c.in-Ok.found c.in-Ok-restart.engine =
    record { opened = c.in-Ok-restart.ensures.opened; emptied = c.in-Ok-restart.ensures.emptied; quiet = c.in-Ok-restart.ensures.quiet } in
    unbuilt_on past_of failures g.C.Client.works size began days c.args.answers.items c.args.day
    c.in-Ok.shared c.in-Ok.found images
    (c.in-Ok.ensures.served size began days c.args.answers.items kept)
    c.in-Ok-restart.engine is c.args.build c.finish_build-unbuilt.new.engine c.finish_build-unbuilt.result c.finish_build-unbuilt.ensures.ends
    c.finish_build-unbuilt.ensures.wanted c.finish_build-unbuilt.ensures.refused

use Rattle.headline.proofs.Stopped.{Images, unopened}
use Rattle.headline.proofs.daily.live_one_day.Goals as goal

pub returns-in-Ok : goal.returns-in-Ok
returns-in-Ok g c =
    c.serve_day.ensures c.args.device (record { opened = c.in-Ok.ensures.opened; emptied = c.in-Ok.ensures.emptied; quiet = c.in-Ok.ensures.quiet })
    c.mark-opening.ensures

pub returns-in-Err : goal.returns-in-Err
returns-in-Err g c = λ size began days answers keeps.
    let past_of = g.D.Device.past_of in
    let images : Images = record { geometry = c.one_answer.ensures.geometry; given = c.one_answer.ensures.given; readable = c.one_answer.ensures.readable } in
    unopened past_of g.D.Device.failures size began days answers c.args.device keeps images c.written_back.ensures.gives c.args.day.now c.in-Err.error
    c.in-Err.device c.stop.new.self c.in-Err.ensures.refused c.stop.ensures.failures (c.stop.ensures.stopped _ c.mark-opening.ensures)

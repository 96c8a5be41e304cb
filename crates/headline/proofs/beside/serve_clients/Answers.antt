use Rattle.std.proofs.Common.{arith, rules, subst, ◌∙◌}
use Rattle.core_model.specs.Histories.{Opened}
use Rattle.nsf.specs.Serving.{TellsBuild}
use Rattle.headline.proofs.Shared.{finds, opens_so, read_at, worked_over}
use Rattle.headline.proofs.Stopped.{Images}
use Rattle.headline.proofs.beside.serve_clients.Goals as goal

pub returns-in-Ok-clause-served : goal.returns-in-Ok-clause-served
returns-in-Ok-clause-served g c = λ size began days answers keeps.
    let past_of = g.D.Device.past_of in
    let failures = g.D.Device.failures in
    let marks = g.D.Device.marks in
    let works = g.C.Client.works in
    let is = c.in-Ok.ensures.leaves in
    let images : Images = record { geometry = c.one_answer.ensures.geometry; given = c.one_answer.ensures.given; readable = c.one_answer.ensures.readable } in
    let back = c.written_back.ensures.gives in
    let before = c.args.device in
    let served = c.in-Ok.served in
    let after = served.device in
    let mark = c.in-Ok.closing in
    let same = opens_so past_of failures size began days answers before keeps images is.0 is.1 in
    let shown = is.7.shows in
    let marked : marks mark (past_of is.7.was).moment =
    subst (λ d. marks mark (past_of d).moment) shown.2 (search (rules, shown.1)) in
    let worked = worked_over past_of works marks mark c.args.day.clients.items served.clients.items is.2 after served.written _ served.marks.items is.0 _
    same is.4 is.7 marked is.5 in
    let work = worked.0 in
    let ended = worked.1 in
    let opening = c.mark-opening.ensures in
    let read-marks = c.deref.result.now in
    let read = read_at past_of failures works size began days answers before keeps images back c.args.day.end marks c.args.day.clients.items
    served.clients.items is.2 after served.written work read-marks c.mark-opening.result c.read_by.result (c.deref.ensures.value ∙ worked.3)
    c.read_by.ensures.none c.read_by.ensures.read opening is.3.images.later in
    finds past_of failures works size began days answers before keeps images back c.args.day
    (record { clients = served.clients; built = served.built; written = served.written }) is.2 after c.stop_device.new.device is.3 marks work
    (subst (λ (o : Opened). TellsBuild o served.built) same is.6)
    c.in-Ok.ensures.later c.in-Ok.ensures.why c.in-Ok.ensures.quiet c.stop_device.ensures.failures _ ended read.0 read.4
    (c.stop_device.ensures.stopped (past_of before).moment (past_of ended.was).moment read.0 opening worked.2 read.1
    (omega (arith, is.3.images.later, ended.before.later)) ended.since.later read.2 read.3)

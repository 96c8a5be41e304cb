use Rattle.std.proofs.Common.{◌∙◌}
use Rattle.std.specs.declared.alloc.Global.{Global}
use Rattle.model.specs.Given.{nothing}
use Rattle.headline.proofs.Holding.{begun}
use Rattle.headline.proofs.beside.format_anew.Goals as goal

pub returns-clause-keeps : goal.returns-clause-keeps
returns-clause-keeps g c =
    let size = c.args.geometry in
    let past_of = g.D.Device.past_of in
    let failures = g.D.Device.failures in
    let now = past_of c.format.new.device in
    begun Global past_of failures size nothing (failures c.args.device.now) c.format.new.device c.stop_now.new.self
    (c.format_gives_nothing.ensures.gives size now.disk.content now.whole c.in_ok-format.ensures.formatted c.in_ok-format.ensures.closed)
    (c.nothing_opens.ensures size) c.in_ok-format.ensures.synced c.stop_now.ensures.found (c.stop_now.ensures.failures ∙ c.in_ok-format.ensures.quiet)

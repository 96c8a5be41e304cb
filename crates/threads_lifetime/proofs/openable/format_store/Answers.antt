use Rattle.model.specs.Given.{nothing}
use Rattle.threads_lifetime.proofs.Again.{gives_soundly}
use Rattle.threads_lifetime.proofs.openable.format_store.Goals as goal

pub returns-in-Ok-clause-openable : goal.returns-in-Ok-clause-openable
returns-in-Ok-clause-openable g c =
    let now = g.D.Device.past_of c.format.new.device in
    let gives = c.format_gives_nothing.ensures.gives c.args.geometry now.disk.content now.whole c.in-Ok.ensures.formatted c.in-Ok.ensures.closed in
    ∣ gives_soundly now.disk.content c.args.geometry nothing gives (c.nothing_opens.ensures c.args.geometry) ∣₁

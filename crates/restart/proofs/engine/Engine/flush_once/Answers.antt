use Rattle.std.proofs.Common.{inr, subst}
use Rattle.restart.specs.Repeated.{Serves}
use Rattle.restart.specs.declared.event.Event.TheVariants.{Flush}
use Rattle.restart.specs.declared.event.Reply.{Reply}
use Rattle.restart.proofs.engine.Engine.flush_once.Goals as goal

-- the flush is made behind an image
pub returns-in-LogFull : goal.returns-in-LogFull
returns-in-LogFull g c =
    let mid = c.serve.new.self in
    let first : Serves g.D.Device.past_of g.D.Device.failures Flush c.serve.result c.args.self.now mid =
    record { lawful = c.serve.ensures.lawful; runs = c.serve.ensures.serves; sectors = c.serve.ensures.sectors } in
    let full = subst (λ (r : Reply g.row.A.Denot). Serves g.D.Device.past_of g.D.Device.failures Flush r c.args.self.now mid) c.in-LogFull.is first in
    inr (mid, full, c.flush_behind_image.ensures)

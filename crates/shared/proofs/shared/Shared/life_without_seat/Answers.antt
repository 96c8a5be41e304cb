use Rattle.std.proofs.Common.{map}
use Rattle.core_model.specs.Events.{Event, Reply}
use Rattle.nsf_core.specs.Value.{value_of}
use Rattle.threads_sessions.specs.Halves.{shown}
use Rattle.shared.proofs.Moments.{served}
use Rattle.shared.proofs.shared.Shared.life_without_seat.Goals as goal

pub returns : goal.returns
returns g c =
    let is = c.deref.result.now in
    served g.B.Group.site.opened (value_of is.core) (value_of is.core) is.pusher.records (map shown is.book.items) is.shared Event.Life
    (Reply.LifeIs c.life-life.result) c.life-life.ensures.served

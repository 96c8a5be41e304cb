use Rattle.std.proofs.Common.{map}
use Rattle.core_model.specs.Events.{Event}
use Rattle.core_parts.specs.Cleaning.{cleaner}
use Rattle.core_parts.specs.Replies.{reply_by}
use Rattle.nsf_core.specs.Value.{value_of}
use Rattle.threads_sessions.specs.Halves.{shown}
use Rattle.threads_loops.proofs.Moments.{was_served}
use Rattle.threads_loops.proofs.clean.clean_step.Goals as goal

pub returns : goal.returns
returns g c =
    let was = c.deref_mut-3.result.now in
    was_served g.B.Group.site.opened (value_of was.core) (value_of c.clean_step-cleaned.new.self.core) was.pusher.records
    (map shown was.book.items) was.shared Event.Clean (reply_by cleaner c.clean_step-cleaned.result) c.clean_step-cleaned.ensures.served

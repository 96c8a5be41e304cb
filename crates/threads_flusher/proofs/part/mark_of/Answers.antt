use Rattle.std.proofs.Common.{subst}
use Rattle.threads_flusher.specs.Part.{IsMarkOf}
use Rattle.threads_flusher.proofs.Notes.{mark_is}
use Rattle.threads_flusher.proofs.part.mark_of.Goals as goal

pub returns : goal.returns
returns g c =
    let marks = g.D.Device.marks in
    let past_of = g.D.Device.past_of in
    subst (λ (d : g.row.D.Denot). IsMarkOf marks c.unwrap_or.result (past_of d).moment) c.device.ensures
    (mark_is marks (past_of c.device.result.now).moment c.unwrap_or.result c.clock.result c.clock.ensures c.unwrap_or.ensures)

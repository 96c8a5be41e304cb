use Rattle.sector_device.proofs.Moments.{at_end}
use Rattle.store_writer.specs.Parts.{device_of}
use Rattle.program_team.proofs.team.close.Goals as goal

pub returns-in-Ok-clause-some : goal.returns-in-Ok-clause-some
returns-in-Ok-clause-some g c = rw c.into_device.ensures (λ image crash.
    at_end (g.D.Device.past_of (device_of c.args.parts.flush.writer)) (g.D.Device.past_of c.in-Ok.closed.device) _ c.in-Ok.ensures.images image crash)

pub returns-in-Err-clause-some : goal.returns-in-Err-clause-some
returns-in-Err-clause-some g c = λ image crash.
    at_end (g.D.Device.past_of (device_of c.args.parts.flush.writer)) (g.D.Device.past_of c.in-Err.device) _ c.in-Err.ensures.left image crash

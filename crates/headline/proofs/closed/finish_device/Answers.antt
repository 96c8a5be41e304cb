use Rattle.std.proofs.Common.{ap, arith}
use Rattle.sector_device.proofs.Moments.{at_end}
use Rattle.store_writer.specs.Parts.{device_of, halves_of}
use Rattle.headline.proofs.Opened.{all_given}
use Rattle.headline.proofs.closed.finish_device.Goals as goal

pub returns-in-Ok-clause-some : goal.returns-in-Ok-clause-some
returns-in-Ok-clause-some g c = rw c.into_device.ensures (λ image crash.
    at_end (g.D.Device.past_of (device_of c.args.parts.flush.writer)) (g.D.Device.past_of c.in-Ok.closed.device) _ c.in-Ok.ensures.images image crash)

pub returns-in-Ok-clause-all : goal.returns-in-Ok-clause-all
returns-in-Ok-clause-all g c = rw c.into_device.ensures (λ none image crash.
    all_given g.D.Device.past_of g.B.Group.site.opened (halves_of c.args.parts.flush.writer).geometry c.args.parts.seats.items _ _ _ _
    c.in-Ok.ensures.closed image crash)

pub returns-in-Err-clause-some : goal.returns-in-Err-clause-some
returns-in-Err-clause-some g c = λ image crash.
    at_end (g.D.Device.past_of (device_of c.args.parts.flush.writer)) (g.D.Device.past_of c.in-Err.device) _ c.in-Err.ensures.left image crash

pub returns-in-Err-clause-why : goal.returns-in-Err-clause-why
returns-in-Err-clause-why g c = c.in-Err.ensures.err

pub returns-in-Ok-clause-later : goal.returns-in-Ok-clause-later
returns-in-Ok-clause-later g c = omega (arith, c.in-Ok.ensures.quiet, ap g.D.Device.failures c.into_device.ensures)

pub returns-in-Err-clause-later : goal.returns-in-Err-clause-later
returns-in-Err-clause-later g c = c.in-Err.ensures.later

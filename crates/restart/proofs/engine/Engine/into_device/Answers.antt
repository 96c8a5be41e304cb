use Rattle.std.proofs.Common.{ap, arith, subst, ◌∙◌}
use Rattle.sector_device.specs.Disk.{IsCrashState}
use Rattle.restart.specs.Parts.{device_of, horizon_of}
use Rattle.restart.proofs.Stories.{crash_since}
use Rattle.restart.proofs.engine.Engine.into_device.Goals as goal

pub returns-clause-device : goal.returns-clause-device
returns-clause-device g c = c.into_device.ensures.device ∙ ap (λ w. w.device) c.into_writer.ensures ∙ ap (λ parts. device_of parts) c.self.view_is

pub returns-clause-survives : goal.returns-clause-survives
returns-clause-survives g c past image is crash =
    crash_since g.D.Device.past_of past c.args.self is (horizon_of c.args.self) (omega arith) image
    (subst (λ d. IsCrashState (g.D.Device.past_of d).disk image) (returns-clause-device g c) crash)

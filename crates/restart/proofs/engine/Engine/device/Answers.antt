use Rattle.std.proofs.Common.{◌≡◌, arith, rules, subst}
use Rattle.sector_device.specs.Disk.{IsCrashState}
use Rattle.restart.specs.Parts.{device_of, horizon_of}
use Rattle.restart.proofs.Stories.{crash_since}
use Rattle.restart.proofs.engine.Engine.device.Goals as goal

pub returns-clause-survives : goal.returns-clause-survives
returns-clause-survives g c past image is crash =
    let device_is : c.device.result.now ≡ device_of c.args.self.now = search rules in
    crash_since g.D.Device.past_of past c.args.self.now is (horizon_of c.args.self.now) (omega arith) image
    (subst (λ d. IsCrashState (g.D.Device.past_of d).disk image) device_is crash)

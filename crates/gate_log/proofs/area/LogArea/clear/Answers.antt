use Rattle.std.proofs.Common.{◌∙◌, sym, subst, refl, arith}
use Rattle.sector_device.specs.Disk.{CrashState}
use Rattle.gate_log.specs.Area.{Log, IsAreaInside}
use Rattle.gate_log.proofs.Areas.{holds_none}
use Rattle.gate_log.proofs.Runs.{from_ok, from_err}
use Rattle.gate_log.proofs.area.LogArea.clear.Goals as goal

pub close_gates-requires : goal.close_gates-requires
close_gates-requires g c =
    let content : CrashState = (g.D.Device.past_of c.args.device.now).disk.content in
    record { inside = subst (λ (l : Log). IsAreaInside l.area content) (sym c.self.view_is) c.requires.inside; number = c.self.invariant.0 }

pub returns-then-is_err : goal.returns-then-is_err
returns-then-is_err g c =
    let done = c.close_gates.ensures in
    rw (← c.self.view_is) (record {
      cleared = tt;
      zeros = tt;
      synced = tt;
      outside = done.outside;
      any_moment = done.within.run;
      area = refl;
      err = refl;
      refused = (refl, from_err _ c.close_gates.result (sym c.is_err.ensures.value ∙ c.if-is_err.true) done.counts.failed);
      quiet = tt;
      later = done.counts.later;
    })

pub invariant_of-self : goal.invariant_of-self
invariant_of-self g c = (c.self.invariant.0, omega arith)

pub returns : goal.returns
returns g c =
    let disk = (g.D.Device.past_of c.close_gates.new.device).disk in
    let done = c.close_gates.ensures in
    let ok = sym c.is_err.ensures.value ∙ c.if-is_err.false in
    rw (← c.self.view_is) (record {
      cleared = record { held = holds_none _ disk.content (from_ok _ _ ok done.zeros); counted = refl };
      zeros = from_ok _ _ ok done.zeros;
      synced = from_ok _ _ ok done.synced;
      outside = done.outside;
      any_moment = done.within.run;
      area = refl;
      err = tt;
      refused = tt;
      quiet = from_ok _ _ ok done.counts.none;
      later = done.counts.later;
    })

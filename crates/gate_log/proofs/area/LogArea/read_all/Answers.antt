use Rattle.std.proofs.Common.{Err, refl, ap, ◌∙◌, sym, subst, arith}
use Rattle.std.proofs.lemmas.Result.{err_from_is_err_and}
use Rattle.sector_device.specs.Disk.{CrashState}
use Rattle.gate_log.specs.Area.{Log, IsAreaInside}
use Rattle.gate_log.proofs.area.LogArea.read_all.Goals as goal

pub read_slots-requires : goal.read_slots-requires
read_slots-requires g c =
    let content : CrashState = (g.D.Device.past_of c.args.device.now).disk.content in
    record { inside = subst (λ (l : Log). IsAreaInside l.area content) (sym c.self.view_is) c.requires.inside; number = c.self.invariant.0 }

pub returns-in_err-records : goal.returns-in_err-records
returns-in_err-records g c =
    let p = err_from_is_err_and c.from_residual.result c.from_residual.ensures.1 in
    rw (← c.self.view_is, p.1 ∙ ap Err p.2) (record {
      read = tt;
      refused = c.in_err-records.ensures.refused;
      area = refl;
      err = refl;
      reads = c.read_slots.ensures.reads;
      quiet = tt;
      told = c.in_err-records.ensures.told;
      memory = c.in_err-records.ensures.memory;
      later = c.read_slots.ensures.later;
    })

pub invariant_of-self : goal.invariant_of-self
invariant_of-self g c =
    let read = c.in_ok-records.ensures.read in
    (c.self.invariant.0, omega (arith, read.2, read.1.room))

pub returns : goal.returns
returns g c =
    rw (← c.self.view_is) (
    let read = c.in_ok-records.ensures.read in
    record {
      read = (read.0, record { held = read.1; counted = read.2 }, read.3);
      refused = tt;
      area = refl;
      err = tt;
      reads = c.read_slots.ensures.reads;
      quiet = c.in_ok-records.ensures.quiet;
      told = tt;
      memory = tt;
      later = c.read_slots.ensures.later;
    })

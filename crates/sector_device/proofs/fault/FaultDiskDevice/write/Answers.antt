use Rattle.std.proofs.Common.{inl, inr, refl, sym, ◌∙◌, ap, arith, ◌<◌}
use Rattle.std.proofs.lemmas.Result.{err_from_is_err_and}
use Rattle.sector_device.specs.Disk.{after_write}
use Rattle.sector_device.proofs.fault.FaultDiskDevice.write.Goals as goal

pub returns-then-fails : goal.returns-then-fails
returns-then-fails g c =
    let is = c.count-fails.ensures in
    let done = c.in_ok-write.ensures in
    let wrote = done.ok ∙ ap (λ d. after_write (g.D.Device.past_of d).disk c.args.n c.args.bytes.now) is.device in
    let before = ap g.D.Device.failures is.device in
    let more = rw c.if-fails.true at is.fails in
    record {
      ok = tt;
      err = (c.args.bytes.now, record { size = c.told-bytes; are_bytes = c.fits-bytes }, wrote);
      time = rw is.device at c.write.ensures.time;
      counts = record { later = omega (arith, before, more, done.counts.none); none = tt; failed = λ below. omega (arith, before, more, done.counts.none) };
      call = record { made = is.call.made; fails_at = is.call.fails_at; which = is.call.which };
      due = λ due. refl;
      otherwise = inl (is.due.0 c.if-fails.true);
      new_bytes = inl wrote;
    }

pub returns-else-fails : goal.returns-else-fails
returns-else-fails g c =
    let is = c.count-fails.ensures in
    let done = c.in_ok-write.ensures in
    let before = ap g.D.Device.failures is.device in
    let same = rw c.if-fails.false at is.fails in
    record {
      ok = done.ok ∙ ap (λ d. after_write (g.D.Device.past_of d).disk c.args.n c.args.bytes.now) is.device;
      err = tt;
      time = rw is.device at c.write.ensures.time;
      counts = record { later = omega (arith, before, same, done.counts.none); none = omega (arith, before, same, done.counts.none); failed = tt };
      call = record { made = is.call.made; fails_at = is.call.fails_at; which = is.call.which };
      due = λ due. sym c.if-fails.false ∙ is.due.1 due;
      otherwise = tt;
      new_bytes = tt;
    }

pub returns-in_err-write : goal.returns-in_err-write
returns-in_err-write g c =
    let is = c.count-fails.ensures in
    let wrong = c.in_err-write.ensures.err in
    let counts = c.in_err-write.ensures.counts in
    let before = ap g.D.Device.failures is.device in
    let rises = rw is.device at counts.failed in
    rw (err_from_is_err_and c.from_residual.result c.from_residual.ensures.1).1 (record {
      ok = tt;
      err = (wrong.0, wrong.1, wrong.2 ∙ ap (λ d. after_write (g.D.Device.past_of d).disk c.args.n wrong.0) is.device);
      time = rw is.device at c.write.ensures.time;
      counts = record {
        later = omega (arith, before, is.fails, counts.later);
        none = tt;
        failed = λ below. let up : g.D.Device.failures c.args.self.now.device < g.D.Device.failures c.write.new.self = rises (omega (arith, below)) in
            omega (arith, up, is.fails);
      };
      call = record { made = is.call.made; fails_at = is.call.fails_at; which = is.call.which };
      due = λ due. refl;
      otherwise = inr rises;
      new_bytes = inr rises;
    })

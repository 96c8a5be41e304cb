use Rattle.std.proofs.Common.{inl, inr, refl, sym, ◌∙◌, ap, subst, arith, ◌<◌}
use Rattle.std.proofs.lemmas.Bool.{false≢true}
use Rattle.std.proofs.lemmas.Result.{on_ok_weaker, on_err_weaker}
use Rattle.sector_device.specs.Disk.{after_sync}
use Rattle.sector_device.specs.DevicePast.{Elapses}
use Rattle.sector_device.proofs.Within.{reads_none}
use Rattle.sector_device.proofs.fault.FaultDiskDevice.sync.Goals as goal

pub returns-then-count : goal.returns-then-count
returns-then-count g c =
    let is = c.count.ensures in
    let past = g.D.Device.past_of in
    let before = ap g.D.Device.failures is.device in
    let more = rw c.if-count.true at is.fails in
    record {
      ok = tt;
      err = ap (λ d. (past d).disk) is.device;
      time = subst (λ d. Elapses (past c.args.self.now.device) (past d)) (sym is.device) (reads_none (past c.args.self.now.device)).time;
      counts = record { later = omega (arith, before, more); none = tt; failed = λ below. omega (arith, before, more) };
      call = record { made = is.call.made; fails_at = is.call.fails_at; which = is.call.which };
      due = λ due. (refl, is.device);
      otherwise = inl (is.due.0 c.if-count.true);
    }

pub returns : goal.returns
returns g c =
    let is = c.count.ensures in
    let past = g.D.Device.past_of in
    let done = c.sync.ensures in
    let before = ap g.D.Device.failures is.device in
    let same = rw c.if-count.false at is.fails in
    record {
      ok = on_ok_weaker c.sync.result (λ ok. ok ∙ ap (λ d. after_sync (past d).disk) is.device) done.ok;
      err = on_err_weaker c.sync.result (λ err. err ∙ ap (λ d. (past d).disk) is.device) done.err;
      time = rw is.device at done.time;
      counts = record {
        later = omega (arith, before, same, done.counts.later);
        none = on_ok_weaker c.sync.result (λ none. omega (arith, before, same, none)) done.counts.none;
        failed = on_err_weaker c.sync.result (λ rises below.
            let up : g.D.Device.failures c.count.new.self.device < g.D.Device.failures c.sync.new.self = rises (omega (arith, below, before)) in
            omega (arith, up, before, same)) done.counts.failed;
      };
      call = record { made = is.call.made; fails_at = is.call.fails_at; which = is.call.which };
      due = λ due. absurd (false≢true (sym c.if-count.false ∙ is.due.1 due));
      otherwise = on_err_weaker c.sync.result (λ rises. inr (rw is.device at rises)) done.counts.failed;
    }

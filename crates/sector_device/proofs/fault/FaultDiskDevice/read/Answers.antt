use Rattle.std.proofs.Common.{◌≡◌, inr, rules, refl, sym, ◌∙◌, ap, subst, arith, ◌<◌}
use Rattle.std.proofs.lemmas.Result.{on_ok_weaker, on_err_weaker}
use Rattle.sector_device.specs.Disk.{sector}
use Rattle.sector_device.specs.DevicePast.{Elapses}
use Rattle.sector_device.specs.Fault.{fault_count}
use Rattle.sector_device.proofs.Within.{reads_none}
use Rattle.sector_device.proofs.fault.FaultDiskDevice.read.Goals as goal
use Rattle.sector_device.proofs.fault.FaultDiskDevice.read.Goals.{else-eq-via-then-eq+else-count, else-eq-via-else-eq}

pub returns-then-count : goal.returns-then-count
returns-then-count g c =
    let is = c.count.ensures in
    let past = g.D.Device.past_of in
    let before = ap g.D.Device.failures is.device in
    let more = rw c.if-count.true at is.fails in
    record {
      ok = tt;
      err = refl;
      disk = ap (λ d. (past d).disk) is.device;
      time = subst (λ d. Elapses (past c.args.self.now.device) (past d)) (sym is.device) (reads_none (past c.args.self.now.device)).time;
      counts = record { later = omega (arith, before, more); none = tt; failed = λ below. omega (arith, before, more) };
      call = λ all. is.call;
      no_call = search rules;
      due = λ all due. (refl, is.device);
      otherwise = search rules;
    }

pub returns : goal.returns
returns g c =
    let now = c.else-eq.self in
    let was = c.args.self.now in
    let past = g.D.Device.past_of in
    let done = c.read.ensures in
    let device : now.device ≡ was.device = elim c.else-eq.branch [
      | else-eq-via-then-eq+else-count w ↦ ap (λ f. f.device) w.self-is ∙ w.count.ensures.device
      | else-eq-via-else-eq w ↦ ap (λ f. f.device) w.self-is
    ] in
    let same : fault_count now.fails_at now.made ≡ fault_count was.fails_at was.made = elim c.else-eq.branch [
      | else-eq-via-then-eq+else-count w ↦ ap (λ f. fault_count f.fails_at f.made) w.self-is ∙ omega (arith, rw w.if-count.false at w.count.ensures.fails)
      | else-eq-via-else-eq w ↦ ap (λ f. fault_count f.fails_at f.made) w.self-is
    ] in
    let before = ap g.D.Device.failures device in
    record {
      ok = on_ok_weaker c.read.result (λ ok. ok ∙ ap (λ d. sector (past d).disk.content c.args.n) device) done.ok;
      err = done.err;
      disk = done.disk ∙ ap (λ d. (past d).disk) device;
      time = rw device at done.time;
      counts = record {
        later = omega (arith, before, same, done.counts.later);
        none = on_ok_weaker c.read.result (λ none. omega (arith, before, same, none)) done.counts.none;
        failed = on_err_weaker c.read.result (λ rises below.
            let up : g.D.Device.failures now.device < g.D.Device.failures c.read.new.self = rises (omega (arith, below, before)) in
            omega (arith, up, before, same)) done.counts.failed;
      };
      call = search rules;
      no_call = search rules;
      due = search rules;
      otherwise = on_err_weaker c.read.result (λ rises. inr (rw device at rises)) done.counts.failed;
    }

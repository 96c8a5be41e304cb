use Rattle.std.proofs.Common.{◌≡◌, ◌+◌, ◌<◌, ◌≤◌, ℕ}
use Rattle.sector_device.specs.Disk.{sector, SameOutside}
use Rattle.sector_device.specs.DevicePast.{RunsWithin}
use Rattle.gate_log.specs.Steps.{MayDiffer}
use Rattle.gate_log.proofs.slot.write_body.Given as goal

abbrev pub invariant-loop-i : goal.invariant-loop-i
invariant-loop-i g l =
    let h = g.D.Device.past_of in
    let old = h l.initial.device in
    record {
      written : (k : ℕ) → k < l.i → sector (h l.device).disk.content (l.gate + 1 + k) ≡ sector l.sectors k;
      outside : SameOutside (λ n. (l.gate + 1 ≤ n) × (n < l.gate + 8)) old.disk.content (h l.device).disk.content;
      within : RunsWithin (MayDiffer old.disk (l.gate + 1) (l.gate + 8)) old.disk.content old (h l.device);
      failures : g.D.Device.failures l.device ≡ g.D.Device.failures l.initial.device;
    }

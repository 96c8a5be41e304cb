use Rattle.std.proofs.Common.{◌≡◌, ◌+◌, ◌*◌, length, slice_range}
use Rattle.std.specs.List.{concat}
use Rattle.sector_device.specs.DevicePast.{OnlyReads}
use Rattle.gate_log.proofs.slot.read_body.Given as goal

abbrev pub invariant-loop-i : goal.invariant-loop-i
invariant-loop-i g l =
    let h = g.D.Device.past_of in
    record {
      value : l.bytes.items ≡ concat (slice_range (h l.initial.device).disk.content (l.gate + 1) (l.gate + 1 + l.i));
      size : length l.bytes.items ≡ 512 * l.i;
      reads : OnlyReads (h l.initial.device) (h l.device);
      quiet : g.D.Device.failures l.device ≡ g.D.Device.failures l.initial.device;
    }

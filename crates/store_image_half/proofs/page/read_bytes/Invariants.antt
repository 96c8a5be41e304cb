use Rattle.std.proofs.Common.{◌≡◌, ◌*◌, length}
use Rattle.sector_device.specs.DevicePast.{OnlyReads}
use Rattle.store_image_half.specs.Layout.{bytes_of}
use Rattle.store_image_half.proofs.page.read_bytes.Given as goal

abbrev pub invariant-loop-k : goal.invariant-loop-k
invariant-loop-k g l =
    let h = g.D.Device.past_of in
    record {
      value : l.bytes.items ≡ bytes_of (h l.initial.device).disk.content l.at l.k;
      size : length l.bytes.items ≡ 512 * l.k;
      reads : OnlyReads (h l.initial.device) (h l.device);
      quiet : g.D.Device.failures l.device ≡ g.D.Device.failures l.initial.device;
    }

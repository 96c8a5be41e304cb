use Rattle.std.proofs.Common.{◌≡◌, ◌⊎◌, true}
use Rattle.sector_device.specs.Disk.{SameOutside}
use Rattle.sector_device.specs.DevicePast.{RunsWithin}
use Rattle.sector_device.specs.Values.{InRow, AreZeroSectors}
use Rattle.sector_device.proofs.values.write_zeros.Given as goal

abbrev pub invariant-loop-i : goal.invariant-loop-i
invariant-loop-i g l =
    let h = g.D.Device.past_of in
    let old = h l.initial.device in
    record {
      zeros : AreZeroSectors (h l.device).disk.content l.first l.step l.i;
      outside : SameOutside (InRow l.first l.step l.count) old.disk.content (h l.device).disk.content;
      within : RunsWithin (λ n. InRow l.first l.step l.count n ⊎ (old.disk.unsynced n ≡ true)) old.disk.content old (h l.device);
      failures : g.D.Device.failures l.device ≡ g.D.Device.failures l.initial.device;
    }

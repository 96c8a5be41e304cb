use Rattle.std.proofs.Common.{◌≡◌, ◌%◌, ◌<◌}
use Rattle.sector_device.specs.Disk.{sector}
use Rattle.sector_device.specs.DevicePast.{OnlyReads}
use Rattle.record_values.specs.Version.{entries_per_sector}
use Rattle.store_image_half.specs.Layout.{entries_at_in, sector_of_piece}
use Rattle.store_image_half.specs.Steps.{HoldsEntries, IsLastPair}
use Rattle.model.specs.Extended.{index_of}
use Rattle.store_image_half.proofs.read.read_entries.Given as goal

abbrev pub invariant-loop-n : goal.invariant-loop-n
invariant-loop-n g l =
    let h = g.D.Device.past_of in
    let content = (h l.initial.device).disk.content in
    let index = index_of l.entries.items in
    record {
      held : HoldsEntries l.version l.geometry l.first content l.n index;
      last : IsLastPair index l.n l.last;
      buffered : 0 < l.n % entries_per_sector l.version → l.buffer
          ≡ sector content (sector_of_piece (entries_at_in l.version l.geometry l.first) (entries_per_sector l.version) l.n);
      reads : OnlyReads (h l.initial.device) (h l.device);
      quiet : g.D.Device.failures l.device ≡ g.D.Device.failures l.initial.device;
    }

use Rattle.std.proofs.Common.{◌≡◌, ◌+◌, ◌*◌, ◌%◌, ◌<◌, length}
use Rattle.sector_device.specs.Disk.{sector}
use Rattle.sector_device.specs.DevicePast.{OnlyReads}
use Rattle.store_image_half.specs.Layout.{undo_at, items_per_sector, sector_of_piece}
use Rattle.store_image_half.specs.Image.{HoldsListIn}
use Rattle.store_image_half.proofs.read.read_list.Given as goal

abbrev pub invariant-loop-position : goal.invariant-loop-position
invariant-loop-position g l =
    let h = g.D.Device.past_of in
    let content = (h l.initial.device).disk.content in
    let i = 64 * l.h + l.position in
    record {
      held : HoldsListIn l.version l.geometry l.first content l.h l.changes.items;
      count : length l.changes.items ≡ l.position;
      buffered : 0 < i % items_per_sector l.version → l.buffer ≡ sector content (sector_of_piece (undo_at l.first) (items_per_sector l.version) i);
      reads : OnlyReads (h l.initial.device) (h l.device);
      quiet : g.D.Device.failures l.device ≡ g.D.Device.failures l.initial.device;
    }

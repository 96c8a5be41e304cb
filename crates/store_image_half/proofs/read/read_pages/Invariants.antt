use Rattle.std.proofs.Common.{◌≡◌}
use Rattle.sector_device.specs.DevicePast.{OnlyReads}
use Rattle.store_image_half.specs.Steps.{HoldsPages}
use Rattle.model.specs.Extended.{table_of}
use Rattle.store_image_half.proofs.read.read_pages.Given as goal

abbrev pub invariant-loop-page : goal.invariant-loop-page
invariant-loop-page g l =
    let h = g.D.Device.past_of in
    record {
      held : HoldsPages l.version l.geometry l.first (h l.initial.device).disk.content l.page (table_of l.rows.items);
      reads : OnlyReads (h l.initial.device) (h l.device);
      quiet : g.D.Device.failures l.device ≡ g.D.Device.failures l.initial.device;
    }

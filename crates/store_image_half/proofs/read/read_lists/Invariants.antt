use Rattle.std.proofs.Common.{◌≡◌, take}
use Rattle.sector_device.specs.DevicePast.{OnlyReads}
use Rattle.model.specs.Cells.{Cells}
use Rattle.store_image_half.specs.Steps.{HoldsLists}
use Rattle.store_image_half.proofs.read.read_lists.Given as goal

abbrev pub invariant-loop-h : goal.invariant-loop-h
invariant-loop-h g l =
    let h = g.D.Device.past_of in
    let now : Cells = g.S.CellSink.cells l.sink in
    let start : Cells = g.S.CellSink.cells l.initial.sink in
    record {
      held : HoldsLists l.version l.geometry l.first (h l.initial.device).disk.content (take l.h l.heads) now.pending;
      rest : now ≡ record start { pending = now.pending };
      reads : OnlyReads (h l.initial.device) (h l.device);
      quiet : g.D.Device.failures l.device ≡ g.D.Device.failures l.initial.device;
    }

use Rattle.std.proofs.Common.{◌≡◌, ◌<◌, ◌≤◌}
use Rattle.sector_device.specs.Disk.{SameOutside}
use Rattle.sector_device.specs.DevicePast.{OnlyReads}
use Rattle.store_salvage.specs.Copied.{AreCopiedBut, AreUnread}
use Rattle.store_salvage.proofs.copying.copy_readable.Given as goal

abbrev pub invariant-loop-n : goal.invariant-loop-n
invariant-loop-n g l =
    let o = g.O.Device.past_of in
    let w = g.N.Device.past_of in
    let f = g.O.Device.failures in
    record {
      copied : AreCopiedBut l.unread.items l.n (o l.initial.from).disk.content (w l.to).disk.content;
      unread : AreUnread l.unread.items l.n (o l.initial.from).disk.content (w l.to).disk.content (f l.initial.from) (f l.from);
      rest : SameOutside (λ k. k < l.sectors) (w l.initial.to).disk.content (w l.to).disk.content;
      reads : OnlyReads (o l.initial.from) (o l.from);
      later : f l.initial.from ≤ f l.from;
      quiet : g.N.Device.failures l.to ≡ g.N.Device.failures l.initial.to;
    }

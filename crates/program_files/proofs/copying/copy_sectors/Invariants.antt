use Rattle.std.proofs.Common.{◌≡◌, ◌<◌}
use Rattle.sector_device.specs.Disk.{SameOutside}
use Rattle.sector_device.specs.DevicePast.{OnlyReads}
use Rattle.program_files.specs.Copied.{AreCopied}
use Rattle.program_files.proofs.copying.copy_sectors.Given as goal

abbrev pub invariant-loop-n : goal.invariant-loop-n
invariant-loop-n g l =
    let o = g.O.Device.past_of in
    let w = g.N.Device.past_of in
    record {
      copied : AreCopied l.n (o l.initial.from).disk.content (w l.to).disk.content;
      rest : SameOutside (λ k. k < l.sectors) (w l.initial.to).disk.content (w l.to).disk.content;
      reads : OnlyReads (o l.initial.from) (o l.from);
      old_quiet : g.O.Device.failures l.from ≡ g.O.Device.failures l.initial.from;
      new_quiet : g.N.Device.failures l.to ≡ g.N.Device.failures l.initial.to;
    }

use Rattle.std.proofs.Common.{◌≡◌, length, drop}
use Rattle.sector_device.specs.Disk.{IsDiskWhole}
use Rattle.sector_device.specs.Memory.{initial_state, marked_state, state_after}
use Rattle.sector_device.proofs.crash.crash_behind.Given as goal

abbrev pub invariant-loop-call : goal.invariant-loop-call
invariant-loop-call l = record {
  state : state_after (marked_state l.content l.synced l.marks) (drop l.call-index l.calls) ≡ state_after (initial_state l.first) l.calls;
  whole : IsDiskWhole l.content;
  synced_whole : IsDiskWhole l.synced;
  sectors : length l.content ≡ length l.first;
  synced_sectors : length l.synced ≡ length l.first;
  size : length l.marks ≡ length l.first;
}

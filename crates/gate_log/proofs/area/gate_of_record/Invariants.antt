use Rattle.std.proofs.Common.{◌≡◌, ◌+◌, List, length, take}
use Rattle.records.specs.RecordValue.{RecordValue}
use Rattle.sector_device.specs.DevicePast.{OnlyReads}
use Rattle.gate_log.specs.Area.{HoldsGroupsIn, records_of}
use Rattle.gate_log.proofs.area.gate_of_record.Given as goal

abbrev pub invariant-loop-slot : goal.invariant-loop-slot
invariant-loop-slot g l =
    let h = g.D.Device.past_of in
    record {
      left : (groups : List (List RecordValue)) → HoldsGroupsIn l.version (record { first = l.first; slots = l.slots }) (h l.initial.device).disk.content groups
          → length groups ≡ l.slots → length (records_of (take l.slot groups)) + l.left ≡ l.index;
      reads : OnlyReads (h l.initial.device) (h l.device);
      quiet : g.D.Device.failures l.device ≡ g.D.Device.failures l.initial.device;
    }

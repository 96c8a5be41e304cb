use Rattle.std.proofs.Common.{◌≡◌, List, length}
use Rattle.std.specs.List.{flat_map}
use Rattle.records.specs.RecordValue.{RecordValue}
use Rattle.sector_device.specs.DevicePast.{OnlyReads}
use Rattle.gate_log.specs.Area.{HoldsGroupsIn}
use Rattle.gate_log.proofs.area.read_slots.Given as goal

abbrev pub invariant-loop-slot : goal.invariant-loop-slot
invariant-loop-slot g l =
    let h = g.D.Device.past_of in
    record {
      read : (groups : List (List RecordValue)) × HoldsGroupsIn l.version (record { first = l.first; slots = l.slot }) (h l.initial.device).disk.content groups
          × (l.count ≡ length groups) × (l.records.items ≡ flat_map (λ group. group) groups);
      reads : OnlyReads (h l.initial.device) (h l.device);
      quiet : g.D.Device.failures l.device ≡ g.D.Device.failures l.initial.device;
    }

use Rattle.std.proofs.Common.{◌≡◌, ◌⊎◌, true, ap, subst, ◌∙◌}
use Rattle.sector_device.specs.Disk.{SameOutside}
use Rattle.sector_device.specs.DevicePast.{LeavesOnly}
use Rattle.record_values.specs.GeometryValue.{GeometryValue}
use Rattle.gate_log.specs.Area.{Area, IsGate}
use Rattle.flip_image.specs.Layout.{other}
use Rattle.store_reader.specs.Contents.{log_area}
use Rattle.store_writer.proofs.image.closed_log.Goals as goal

pub returns-in-Ok : goal.returns-in-Ok
returns-in-Ok g c =
    let area : c.new-log.result.area ≡ log_area c.args.halves.geometry (other c.args.halves.current) =
    cc (
      c.new-log.ensures.area,
      c.log_first.ensures.value,
      c.from.ensures,
      c.other-half.ensures,
      c.current.ensures,
      c.geometry-geometry.ensures,
      ap (λ (x : GeometryValue). x.slots) c.geometry.view_is,
    ) in
    let old = g.D.Device.past_of c.args.device.now in
    let new = g.D.Device.past_of c.clear.new.device in
    let (outside, any_moment) = subst (λ (a : Area). SameOutside (IsGate a) old.disk.content new.disk.content
    × LeavesOnly old new (SameOutside (λ n. IsGate a n ⊎ (old.disk.unsynced n ≡ true)) old.disk.content)) area
    (c.clear.ensures.outside, c.clear.ensures.any_moment) in
    record {
      area = c.clear.ensures.area ∙ area;
      empty = c.in-Ok.ensures.cleared;
      synced = c.in-Ok.ensures.synced;
      outside = outside;
      any_moment = any_moment;
      counts = record { later = c.clear.ensures.later; none = c.in-Ok.ensures.quiet; failed = tt };
    }

pub returns-in-Err : goal.returns-in-Err
returns-in-Err g c =
    let area : c.new-log.result.area ≡ log_area c.args.halves.geometry (other c.args.halves.current) =
    cc (
      c.new-log.ensures.area,
      c.log_first.ensures.value,
      c.from.ensures,
      c.other-half.ensures,
      c.current.ensures,
      c.geometry-geometry.ensures,
      ap (λ (x : GeometryValue). x.slots) c.geometry.view_is,
    ) in
    let old = g.D.Device.past_of c.args.device.now in
    let new = g.D.Device.past_of c.clear.new.device in
    let (outside, any_moment) = subst (λ (a : Area). SameOutside (IsGate a) old.disk.content new.disk.content
    × LeavesOnly old new (SameOutside (λ n. IsGate a n ⊎ (old.disk.unsynced n ≡ true)) old.disk.content)) area
    (c.clear.ensures.outside, c.clear.ensures.any_moment) in
    record {
      area = tt;
      empty = tt;
      synced = tt;
      outside = outside;
      any_moment = any_moment;
      counts = record { later = c.clear.ensures.later; none = tt; failed = c.in-Err.ensures.refused.1 };
    }

use Rattle.std.proofs.Common.{◌≡◌, ◌+◌, ◌*◌, List, [], Err, length, slice_range, ◌∙◌, ap, subst, refl, arith}
use Rattle.std.specs.Prelude.{slice_index_or}
use Rattle.std.specs.List.{concat}
use Rattle.std.proofs.lemmas.List.{take_all}
use Rattle.std.proofs.lemmas.Result.{err_from_is_err_and}
use Rattle.sector_device.specs.Disk.{Disk}
use Rattle.records.specs.RecordValue.{RecordValue}
use Rattle.sector_device.proofs.Within.{reads_none, reads_then}
use Rattle.gate_log.specs.Group.{IsGroupIn}
use Rattle.gate_log.specs.Area.{Area, records_of}
use Rattle.gate_log.proofs.Areas.{held_there, none_here, records_more, some_here}
use Rattle.gate_log.proofs.Runs.{later_than, not_fewer, refuses_later}
use Rattle.gate_log.proofs.area.gate_of_record.Goals as goal

pub loop-slot-init : goal.loop-slot-init
loop-slot-init g c = record { left = λ groups held all. omega arith; reads = reads_none (g.D.Device.past_of c.args.device.now); quiet = refl }

pub overflow_mul-gate : goal.overflow_mul-gate
overflow_mul-gate g c = omega (arith, c.loop-slot-test.true, c.requires.number)

pub overflow_add-gate : goal.overflow_add-gate
overflow_add-gate g c = omega (arith, c.loop-slot-test.true, c.requires.number)

pub read_group-requires : goal.read_group-requires
read_group-requires g c = record {
  inside = omega (arith, c.loop-slot-test.true, c.requires.inside, ap (λ (d : Disk). length d.content) c.loop-slot.invariant.reads.disk);
  number = omega (arith, c.loop-slot-test.true, c.requires.number);
}

pub returns-in_err-group : goal.returns-in_err-group
returns-in_err-group g c =
    let before = c.loop-slot.invariant in
    let p = err_from_is_err_and c.from_residual.result c.from_residual.ensures.1 in
    rw (p.1 ∙ ap Err p.2) (record {
      found = tt;
      refused = refuses_later _ _ _ _ before.quiet c.in_err-group.ensures.refused;
      reads = reads_then _ _ _ before.reads c.read_group.ensures.reads;
      quiet = tt;
      told = λ other. c.in_err-group.ensures.told other ∙ before.quiet;
      memory = λ _. omega (arith, c.loop-slot-test.true);
      later = later_than _ _ _ before.quiet c.read_group.ensures.later;
    })

-- the slots are open, so each has a group
pub returns-in_default : goal.returns-in_default
returns-in_default g c =
    let slot = c.loop-slot.slot in
    let gate = c.args.first + 8 * slot in
    let before = c.loop-slot.invariant in
    let none = subst (λ (d : Disk). (records : List RecordValue)
    → ¬ IsGroupIn c.args.version records (concat (slice_range d.content (gate + 1) (gate + 8)))) before.reads.disk
    (none_here _ _ _ c.in_default.is c.in_ok-group.ensures.found) in
    let quiet = c.in_ok-group.ensures.quiet ∙ before.quiet in
    record {
      found = λ groups held all. absurd (none (slice_index_or groups slot []) (held.opened slot (omega (arith, all, c.loop-slot-test.true))).1);
      refused = tt;
      reads = reads_then _ _ _ before.reads c.read_group.ensures.reads;
      quiet = quiet;
      told = tt;
      memory = tt;
      later = not_fewer _ _ quiet;
    }

pub returns-then-left-len : goal.returns-then-left-len
returns-then-left-len g c =
    let slot = c.loop-slot.slot in
    let gate = c.args.first + 8 * slot in
    let area : Area = record { first = c.args.first; slots = c.args.slots } in
    let found = subst (λ (d : Disk). IsGroupIn c.args.version c.in-Some.group.items (concat (slice_range d.content (gate + 1) (gate + 8))))
    c.loop-slot.invariant.reads.disk (some_here _ _ _ _ c.in-Some.is c.in_ok-group.ensures.found) in
    let quiet = c.in_ok-group.ensures.quiet ∙ c.loop-slot.invariant.quiet in
    record {
      found = λ groups held all.
          let size = held_there c.args.version area _ groups slot c.in-Some.group.items held (omega (arith, all, c.loop-slot-test.true)) found in
          let more = records_more groups slot (omega (arith, all, c.loop-slot-test.true)) in
          let left = c.loop-slot.invariant.left groups held all in
          record {
            slot = slot;
            gate-is = refl;
            behind = omega (arith, left);
            before = omega (arith, left, more, size, c.len.ensures, c.if-left-len.true);
          };
      refused = tt;
      reads = reads_then _ _ _ c.loop-slot.invariant.reads c.read_group.ensures.reads;
      quiet = quiet;
      told = tt;
      memory = tt;
      later = not_fewer _ _ quiet;
    }

pub loop-slot-preserved : goal.loop-slot-preserved
loop-slot-preserved g c =
    let slot = c.loop-slot.slot in
    let gate = c.args.first + 8 * slot in
    let area : Area = record { first = c.args.first; slots = c.args.slots } in
    let found = subst (λ (d : Disk). IsGroupIn c.args.version c.in-Some.group.items (concat (slice_range d.content (gate + 1) (gate + 8))))
    c.loop-slot.invariant.reads.disk (some_here _ _ _ _ c.in-Some.is c.in_ok-group.ensures.found) in
    record {
      left = λ groups held all.
          let size = held_there c.args.version area _ groups slot c.in-Some.group.items held (omega (arith, all, c.loop-slot-test.true)) found in
          let more = records_more groups slot (omega (arith, all, c.loop-slot-test.true)) in
          let left = c.loop-slot.invariant.left groups held all in
          omega (arith, left, more, size, c.len.ensures, c.len-left.ensures, c.if-left-len.false);
      reads = reads_then _ _ _ c.loop-slot.invariant.reads c.read_group.ensures.reads;
      quiet = c.in_ok-group.ensures.quiet ∙ c.loop-slot.invariant.quiet;
    }

pub returns : goal.returns
returns g c =
    let before = c.loop-slot.invariant in
    record {
      found = λ groups held all.
          let slot = c.loop-slot.slot in
          let left = subst (λ (gs : List (List RecordValue)). length (records_of gs) + c.loop-slot.left ≡ c.args.index)
          (take_all slot groups (omega (arith, all, c.loop-slot-test.false))) (before.left groups held all) in
          omega (arith, left);
      refused = tt;
      reads = before.reads;
      quiet = before.quiet;
      told = tt;
      memory = tt;
      later = not_fewer _ _ before.quiet;
    }

use Rattle.std.proofs.Common.{◌≡◌, inl, inr, ℕ, ◌+◌, ◌*◌, ◌<◌, ◌++◌, ◌∷◌, [], List, Err, length, slice_range, ◌∙◌, ap, subst, refl, arith, length-append}
use Rattle.std.specs.List.{concat}
use Rattle.std.proofs.lemmas.Result.{err_from_is_err_and}
use Rattle.std.proofs.lemmas.Bool.{iff_false}
use Rattle.sector_device.specs.Disk.{Disk, CrashState}
use Rattle.records.specs.RecordValue.{RecordValue}
use Rattle.gate_log.specs.Group.{IsGroupIn}
use Rattle.gate_log.specs.Area.{IsOpen, HoldsGroupsIn}
use Rattle.std.proofs.lemmas.List.{flat_map_more}
use Rattle.sector_device.proofs.Within.{reads_none, reads_then}
use Rattle.gate_log.proofs.Areas.{one_closed, one_open, first_open, first_damaged, none_here, some_here}
use Rattle.gate_log.proofs.Runs.{damaged_not_no_memory, later_than, not_fewer, refuses_later, same_between}
use Rattle.gate_log.proofs.area.read_slots.Goals as goal

pub overflow_mul-gate : goal.overflow_mul-gate
overflow_mul-gate g c = omega (arith, c.loop-slot-test.true, c.requires.number)

pub overflow_add-gate : goal.overflow_add-gate
overflow_add-gate g c = omega (arith, c.loop-slot-test.true, c.requires.number)

pub is_open-requires : goal.is_open-requires
is_open-requires g c = omega (
  arith,
  c.loop-slot-test.true,
  c.requires.inside,
  ap (λ (d : Disk). length d.content) c.loop-slot.invariant.reads.disk,
)

pub read_group-requires : goal.read_group-requires
read_group-requires g c =
    let same = c.is_open.ensures.reads.disk ∙ c.loop-slot.invariant.reads.disk in
    record {
      inside = omega (arith, c.loop-slot-test.true, c.requires.inside, ap (λ (d : Disk). length d.content) same);
      number = omega (arith, c.loop-slot-test.true, c.requires.number);
    }

pub returns-in_err-is_open : goal.returns-in_err-is_open
returns-in_err-is_open g c =
    let before = c.loop-slot.invariant in
    let p = err_from_is_err_and c.from_residual.result c.from_residual.ensures.1 in
    rw (p.1 ∙ ap Err p.2) (record {
      read = tt;
      refused = inl (refuses_later _ _ _ _ before.quiet c.in_err-is_open.ensures.refused);
      reads = reads_then _ _ _ before.reads c.is_open.ensures.reads;
      quiet = tt;
      told = λ other. c.in_err-is_open.ensures.told other ∙ before.quiet;
      memory = λ is. absurd (c.in_err-is_open.ensures.no_memory is);
      later = later_than _ _ _ before.quiet c.is_open.ensures.later;
    })

pub returns-then-count-slot : goal.returns-then-count-slot
returns-then-count-slot g c =
    let slot = c.loop-slot.slot in
    let before = c.loop-slot.invariant in
    let read = before.read in
    let is_open = subst (λ (d : Disk). IsOpen d.content (c.args.first + 8 * slot)) before.reads.disk
    (c.in_ok-is_open.ensures.value.0 c.if-not-branch.false) in
    let less : length read.0 < slot = omega (arith, read.2, c.if-count-slot.true) in
    let quiet = c.in_ok-is_open.ensures.quiet ∙ before.quiet in
    record {
      read = tt;
      refused = inr (
        _,
        refl,
        first_damaged c.args.version c.args.first slot c.args.slots _ read.0 c.loop-slot-test.true read.1 (
          is_open,
          inl (length read.0, less, read.1.closed (length read.0) (omega arith) less),
        ),
      );
      reads = reads_then _ _ _ before.reads c.is_open.ensures.reads;
      quiet = tt;
      told = λ _. quiet;
      memory = λ never. absurd (damaged_not_no_memory _ never);
      later = not_fewer _ _ quiet;
    }

pub returns-in_err-group : goal.returns-in_err-group
returns-in_err-group g c =
    let slot = c.loop-slot.slot in
    let before = c.loop-slot.invariant in
    let read = before.read in
    let is_open = subst (λ (d : Disk). IsOpen d.content (c.args.first + 8 * slot)) before.reads.disk
    (c.in_ok-is_open.ensures.value.0 c.if-not-branch.false) in
    let all : length read.0 ≡ slot = same_between _ _ _ read.2 read.1.room c.if-count-slot.false in
    let quiet = c.in_ok-is_open.ensures.quiet ∙ before.quiet in
    let p = err_from_is_err_and c.from_residual-in_err-group.result c.from_residual-in_err-group.ensures.1 in
    rw (p.1 ∙ ap Err p.2) (record {
      read = tt;
      refused = inl (refuses_later _ _ _ _ quiet c.in_err-group.ensures.refused);
      reads = reads_then _ _ _ before.reads (reads_then _ _ _ c.is_open.ensures.reads c.read_group.ensures.reads);
      quiet = tt;
      told = λ other. c.in_err-group.ensures.told other ∙ quiet;
      memory = λ _. first_open c.args.version c.args.first slot c.args.slots _ read.0 c.loop-slot-test.true read.1 all is_open;
      later = later_than _ _ _ quiet c.read_group.ensures.later;
    })

pub returns-in_default : goal.returns-in_default
returns-in_default g c =
    let slot = c.loop-slot.slot in
    let gate = c.args.first + 8 * slot in
    let before = c.loop-slot.invariant in
    let read = before.read in
    let same = c.is_open.ensures.reads.disk ∙ before.reads.disk in
    let is_open = subst (λ (d : Disk). IsOpen d.content gate) before.reads.disk (c.in_ok-is_open.ensures.value.0 c.if-not-branch.false) in
    let none = subst (λ (d : Disk). (records : List RecordValue)
    → ¬ IsGroupIn c.args.version records (concat (slice_range d.content (gate + 1) (gate + 8)))) same
    (none_here _ _ _ c.in_default.is c.in_ok-group.ensures.found) in
    let quiet = c.in_ok-group.ensures.quiet ∙ (c.in_ok-is_open.ensures.quiet ∙ before.quiet) in
    record {
      read = tt;
      refused = inr (_, refl, first_damaged c.args.version c.args.first slot c.args.slots _ read.0 c.loop-slot-test.true read.1 (is_open, inr none));
      reads = reads_then _ _ _ before.reads (reads_then _ _ _ c.is_open.ensures.reads c.read_group.ensures.reads);
      quiet = tt;
      told = λ _. quiet;
      memory = λ never. absurd (damaged_not_no_memory _ never);
      later = not_fewer _ _ quiet;
    }

pub returns-in_err-append : goal.returns-in_err-append
returns-in_err-append g c =
    let slot = c.loop-slot.slot in
    let before = c.loop-slot.invariant in
    let read = before.read in
    let is_open = subst (λ (d : Disk). IsOpen d.content (c.args.first + 8 * slot)) before.reads.disk
    (c.in_ok-is_open.ensures.value.0 c.if-not-branch.false) in
    let all : length read.0 ≡ slot = same_between _ _ _ read.2 read.1.room c.if-count-slot.false in
    let quiet = c.in_ok-group.ensures.quiet ∙ (c.in_ok-is_open.ensures.quiet ∙ before.quiet) in
    let p = err_from_is_err_and c.from_residual-in_err-append.result c.from_residual-in_err-append.ensures.1 in
    rw p.1 (record {
      read = tt;
      refused = inl (inl p.2);
      reads = reads_then _ _ _ before.reads (reads_then _ _ _ c.is_open.ensures.reads c.read_group.ensures.reads);
      quiet = tt;
      told = λ _. quiet;
      memory = λ _. first_open c.args.version c.args.first slot c.args.slots _ read.0 c.loop-slot-test.true read.1 all is_open;
      later = not_fewer _ _ quiet;
    })

pub loop-slot-init : goal.loop-slot-init
loop-slot-init g c = record {
  read = (
    [],
    record { room = omega arith; opened = λ slot low. absurd (omega (arith, low)); closed = λ slot low high. absurd (omega (arith, high)) },
    refl,
    c.new-records.ensures.items,
  );
  reads = reads_none _;
  quiet = refl;
}

pub loop-slot-preserved : goal.loop-slot-preserved
loop-slot-preserved g c =
    let slot = c.loop-slot.slot in
    let first = c.args.first in
    let gate = first + 8 * slot in
    let read = c.loop-slot.invariant.read in
    let group = c.in-Some.group.items in
    let same = c.is_open.ensures.reads.disk ∙ c.loop-slot.invariant.reads.disk in
    let is_open = subst (λ (d : Disk). IsOpen d.content gate) c.loop-slot.invariant.reads.disk (c.in_ok-is_open.ensures.value.0 c.if-not-branch.false) in
    let found = subst (λ (d : Disk). IsGroupIn c.args.version group (concat (slice_range d.content (gate + 1) (gate + 8)))) same
    (some_here _ _ _ _ c.in-Some.is c.in_ok-group.ensures.found) in
    let all : length read.0 ≡ slot = same_between _ _ _ read.2 read.1.room c.if-count-slot.false in
    record {
      read = (
        read.0 ++ group ∷ [],
        one_open c.args.version first slot _ read.0 group read.1 all is_open found,
        omega (arith, read.2, length-append {A = List RecordValue} read.0 (group ∷ [])),
        c.in_ok-append.ensures.items ∙ ap (λ t. t ++ group) read.3
            ∙ flat_map_more (λ (x : List RecordValue). x) [] read.0 group,
      );
      reads = reads_then _ _ _ c.loop-slot.invariant.reads (reads_then _ _ _ c.is_open.ensures.reads c.read_group.ensures.reads);
      quiet = c.in_ok-group.ensures.quiet ∙ c.in_ok-is_open.ensures.quiet ∙ c.loop-slot.invariant.quiet;
    }

-- a slot that is closed
pub loop-slot-preserved-then-not-branch : goal.loop-slot-preserved-then-not-branch
loop-slot-preserved-then-not-branch g c =
    let before = c.loop-slot.invariant in
    let read = before.read in
    let shut = subst (λ (d : Disk). ¬ IsOpen d.content (c.args.first + 8 * c.loop-slot.slot)) before.reads.disk
    (iff_false c.in_ok-is_open.ensures.value c.if-not-branch.true) in
    record {
      read = (read.0, one_closed c.args.version c.args.first c.loop-slot.slot _ read.0 read.1 shut, read.2, read.3);
      reads = reads_then _ _ _ before.reads c.is_open.ensures.reads;
      quiet = c.in_ok-is_open.ensures.quiet ∙ before.quiet;
    }

pub returns : goal.returns
returns g c =
    let before = c.loop-slot.invariant in
    let read = before.read in
    let all : c.loop-slot.slot ≡ c.args.slots = omega (arith, c.loop-slot-test.false, c.loop-slot.auto.slot-end) in
    let content : CrashState = (g.D.Device.past_of c.args.device.now).disk.content in
    record {
      read = (
        read.0,
        subst (λ (n : ℕ). HoldsGroupsIn c.args.version (record { first = c.args.first; slots = n }) content read.0) all read.1,
        read.2,
        read.3,
      );
      refused = tt;
      reads = before.reads;
      quiet = before.quiet;
      told = tt;
      memory = tt;
      later = not_fewer _ _ before.quiet;
    }

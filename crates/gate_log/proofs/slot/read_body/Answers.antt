use Rattle.std.proofs.Common.{◌≡◌, inl, inr, ◌+◌, ◌*◌, ◌++◌, ℕ, length, slice_range, refl, sym, ◌∙◌, ap, arith, length-append}
use Rattle.std.specs.List.{concat}
use Rattle.std.proofs.lemmas.Result.{err_from_is_err_and}
use Rattle.sector_device.specs.Disk.{Disk, sector}
use Rattle.sector_device.proofs.Sectors.{part_more}
use Rattle.sector_device.proofs.Within.{reads_none, reads_more}
use Rattle.gate_log.proofs.Runs.{from_ok, from_err, later_than, not_fewer, part_none, refuses_later}
use Rattle.gate_log.proofs.slot.read_body.Goals as goal

pub returns-in_err-bytes : goal.returns-in_err-bytes
returns-in_err-bytes g c =
    let p = err_from_is_err_and c.from_residual.result c.from_residual.ensures.1 in
    rw p.1 (record {
      value = tt;
      size = tt;
      reads = reads_none _;
      quiet = tt;
      told = λ _. refl;
      later = not_fewer _ _ refl;
      refused = inl p.2;
    })

pub loop-i-init : goal.loop-i-init
loop-i-init g c =
    let h = g.D.Device.past_of in
    let none = c.in_ok-bytes.ensures.items in
    record {
      value = none ∙ sym (part_none (h c.args.device.now).disk.content (c.args.gate + 1));
      size = omega (arith, ap length none);
      reads = reads_none (h c.args.device.now);
      quiet = refl;
    }

pub overflow_add-gate-in-loop-i : goal.overflow_add-gate-in-loop-i
overflow_add-gate-in-loop-i g c = omega (arith, c.loop-i-test.true, c.requires.number)

pub read-requires : goal.read-requires
read-requires g c = omega (
  arith,
  c.requires.inside,
  c.loop-i-test.true,
  ap (λ (d : Disk). length d.content) c.loop-i.invariant.reads.disk,
)

pub returns-then-is_err : goal.returns-then-is_err
returns-then-is_err g c =
    let so_far = c.loop-i.invariant in
    record {
      value = tt;
      size = tt;
      reads = reads_more _ _ _ so_far.reads c.read.ensures.disk c.read.ensures.time;
      quiet = tt;
      told = λ other. absurd (other refl);
      later = later_than _ _ _ so_far.quiet c.read.ensures.counts.later;
      refused = refuses_later _ _ _ _ so_far.quiet
          (inr (refl, from_err _ c.read.result (sym c.is_err.ensures.value ∙ c.if-is_err.true) c.read.ensures.counts.failed));
    }

pub returns-in_err-extend_from_slice : goal.returns-in_err-extend_from_slice
returns-in_err-extend_from_slice g c =
    let so_far = c.loop-i.invariant in
    let quiet = from_ok _ c.read.result (sym c.is_err.ensures.value ∙ c.if-is_err.false) c.read.ensures.counts.none ∙ so_far.quiet in
    let p = err_from_is_err_and c.from_residual-in_err-extend_from_slice.result c.from_residual-in_err-extend_from_slice.ensures.1 in
    rw p.1 (record {
      value = tt;
      size = tt;
      reads = reads_more _ _ _ so_far.reads c.read.ensures.disk c.read.ensures.time;
      quiet = tt;
      told = λ _. quiet;
      later = not_fewer _ _ quiet;
      refused = inl p.2;
    })

pub loop-i-preserved : goal.loop-i-preserved
loop-i-preserved g c =
    let h = g.D.Device.past_of in
    let content = (h c.args.device.now).disk.content in
    let low = c.args.gate + 1 in
    let i = c.loop-i.i in
    let so_far = c.loop-i.invariant in
    let buffer = c.read.new.buffer in
    let items = c.in_ok-extend_from_slice.ensures.items in
    let there : buffer ≡ sector content (low + i) = from_ok _ c.read.result (sym c.is_err.ensures.value ∙ c.if-is_err.false) c.read.ensures.ok
    ∙ ap (λ d. sector d.content (low + i)) so_far.reads.disk in
    record {
      value = items ∙ ap (λ t. t ++ buffer) so_far.value ∙ ap (λ t. concat (slice_range content low (low + i)) ++ t) there
          ∙ sym (part_more content low i (low + (i + 1)) (omega (arith, c.requires.inside, c.loop-i-test.true)) (omega arith));
      size = omega (arith, ap length items, length-append {A = ℕ} c.loop-i.bytes.items buffer, so_far.size, c.read.array_long);
      reads = reads_more _ _ _ so_far.reads c.read.ensures.disk c.read.ensures.time;
      quiet = from_ok _ c.read.result (sym c.is_err.ensures.value ∙ c.if-is_err.false) c.read.ensures.counts.none ∙ so_far.quiet;
    }

pub returns : goal.returns
returns g c =
    let so_far = c.loop-i.invariant in
    let content = (g.D.Device.past_of c.args.device.now).disk.content in
    let gate = c.args.gate in
    let all : c.loop-i.i ≡ 7 = omega (arith, c.loop-i-test.false, c.loop-i.auto.i-end) in
    record {
      value = so_far.value ∙ ap (λ n. concat (slice_range content (gate + 1) n)) (let e : gate + 1 + c.loop-i.i ≡ gate + 8 = omega (arith, all) in e);
      size = so_far.size ∙ ap (λ n. 512 * n) all;
      reads = so_far.reads;
      quiet = so_far.quiet;
      told = tt;
      later = not_fewer _ _ so_far.quiet;
      refused = tt;
    }

use Rattle.std.proofs.Common.{◌≡◌, inl, inr, ◌+◌, ◌*◌, ◌++◌, List, ℕ, length, refl, sym, ◌∙◌, ap, arith, length-append}
use Rattle.std.proofs.lemmas.Result.{err_from_is_err_and}
use Rattle.sector_device.specs.Disk.{Disk, sector}
use Rattle.sector_device.proofs.Within.{reads_none, reads_more}
use Rattle.store_image_half.specs.Layout.{bytes_of}
use Rattle.store_image_half.proofs.Bytes.{no_bytes, bytes_more}
use Rattle.store_image_half.proofs.Joined.{from_ok, from_err}
use Rattle.store_image_half.proofs.Refusing.{later_than, not_fewer, refuses_later}
use Rattle.store_image_half.proofs.page.read_bytes.Goals as goal

pub returns-in_err-bytes : goal.returns-in_err-bytes
returns-in_err-bytes g c =
    let p = err_from_is_err_and c.from_residual.result c.from_residual.ensures.1 in
    rw p.1 (record {
      value = tt;
      size = tt;
      refused = inl p.2;
      reads = reads_none _;
      quiet = tt;
      told = λ _. refl;
      later = not_fewer _ _ refl;
    })

pub loop-k-init : goal.loop-k-init
loop-k-init g c =
    let h = g.D.Device.past_of in
    let none = c.in_ok-bytes.ensures.items in
    record {
      value = none ∙ sym (no_bytes (h c.args.device.now).disk.content c.args.at);
      size = omega (arith, ap length none);
      reads = reads_none (h c.args.device.now);
      quiet = refl;
    }

pub read-requires : goal.read-requires
read-requires g c = omega (
  arith,
  c.requires.inside,
  c.loop-k-test.true,
  ap (λ (d : Disk). length d.content) c.loop-k.invariant.reads.disk,
)

pub returns-then-is_err : goal.returns-then-is_err
returns-then-is_err g c =
    let so_far = c.loop-k.invariant in
    record {
      value = tt;
      size = tt;
      refused = refuses_later _ _ _ _ so_far.quiet
          (inr (refl, from_err _ c.read.result (sym c.is_err.ensures.value ∙ c.if-is_err.true) c.read.ensures.counts.failed));
      reads = reads_more _ _ _ so_far.reads c.read.ensures.disk c.read.ensures.time;
      quiet = tt;
      told = λ other. absurd (other refl);
      later = later_than _ _ _ so_far.quiet c.read.ensures.counts.later;
    }

pub returns-in_err-extend_from_slice : goal.returns-in_err-extend_from_slice
returns-in_err-extend_from_slice g c =
    let so_far = c.loop-k.invariant in
    let quiet = from_ok _ c.read.result (sym c.is_err.ensures.value ∙ c.if-is_err.false) c.read.ensures.counts.none ∙ so_far.quiet in
    let p = err_from_is_err_and c.from_residual-in_err-extend_from_slice.result c.from_residual-in_err-extend_from_slice.ensures.1 in
    rw p.1 (record {
      value = tt;
      size = tt;
      refused = inl p.2;
      reads = reads_more _ _ _ so_far.reads c.read.ensures.disk c.read.ensures.time;
      quiet = tt;
      told = λ _. quiet;
      later = not_fewer _ _ quiet;
    })

pub loop-k-preserved : goal.loop-k-preserved
loop-k-preserved g c =
    let h = g.D.Device.past_of in
    let content = (h c.args.device.now).disk.content in
    let at = c.args.at in
    let k = c.loop-k.k in
    let so_far = c.loop-k.invariant in
    let buffer : List ℕ = c.read.new.buffer in
    let items = c.in_ok-extend_from_slice.ensures.items in
    let there : buffer ≡ sector content (at + k) = from_ok _ c.read.result (sym c.is_err.ensures.value ∙ c.if-is_err.false) c.read.ensures.ok
    ∙ ap (λ (d : Disk). sector d.content (at + k)) so_far.reads.disk in
    record {
      value = items ∙ ap (λ (t : List ℕ). t ++ buffer) so_far.value ∙ ap (λ (t : List ℕ). bytes_of content at k ++ t) there ∙ sym (bytes_more content at k);
      size = omega (arith, ap length items, length-append {A = ℕ} c.loop-k.bytes.items buffer, so_far.size, c.read.array_long);
      reads = reads_more _ _ _ so_far.reads c.read.ensures.disk c.read.ensures.time;
      quiet = from_ok _ c.read.result (sym c.is_err.ensures.value ∙ c.if-is_err.false) c.read.ensures.counts.none ∙ so_far.quiet;
    }

pub returns : goal.returns
returns g c =
    let so_far = c.loop-k.invariant in
    let all : c.loop-k.k ≡ c.args.sectors = omega (arith, c.loop-k-test.false, c.loop-k.auto.k-end) in
    record {
      value = so_far.value ∙ ap (bytes_of (g.D.Device.past_of c.args.device.now).disk.content c.args.at) all;
      size = so_far.size ∙ ap (λ n. 512 * n) all;
      refused = tt;
      reads = so_far.reads;
      quiet = so_far.quiet;
      told = tt;
      later = not_fewer _ _ so_far.quiet;
    }

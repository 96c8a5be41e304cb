use Rattle.std.proofs.Common.{rules, ◌≡◌, ◌++◌, Err, length, take, drop, refl, sym, ◌∙◌, ap, subst, arith}
use Rattle.std.proofs.lemmas.Result.{err_from_is_err_and}
use Rattle.block_device.specs.Blocks.{CrashFile, run_of}
use Rattle.block_device.proofs.CrashFiles.{written_back}
use Rattle.block_journal.specs.Layout.{area_of, area_start, found_in}
use Rattle.block_journal.specs.Opening.{HasTaken}
use Rattle.block_journal.proofs.Buffers.{empty_buffer}
use Rattle.block_journal.proofs.Crash.{area_before_kept}
use Rattle.block_journal.proofs.reading.read_area.Goals as goal

pub overflow_mul-start : goal.overflow_mul-start
overflow_mul-start g c = omega (arith, area_before_kept c.args.shape c.args.a c.requires.low, c.requires.small)

pub overflow_add-start : goal.overflow_add-start
overflow_add-start g c = omega (arith, area_before_kept c.args.shape c.args.a c.requires.low, c.requires.small)

pub read-requires : goal.read-requires
read-requires g c = omega (
  arith,
  area_before_kept c.args.shape c.args.a c.requires.low,
  c.requires.inside.room,
  c.requires.size,
  ap length c.deref_mut.ensures.value,
)

pub load-requires : goal.load-requires
load-requires g c =
    let b = c.args.buffer.now in
    let image : CrashFile = c.read.new.run in
    let size : length image ≡ length b.area.items = search rules in
    let back : take b.area.len (image ++ drop (length image) b.area.items) ≡ image = written_back image b.area.items b.area.len size b.area.ok.0 in
    record { buffer = empty_buffer b _ c.requires.buffer (ap length back ∙ size) refl refl; none = c.requires.none }

pub returns-in_err-read : goal.returns-in_err-read
returns-in_err-read g c =
    let b = c.args.buffer.now in
    let image : CrashFile = c.read.new.run in
    let size : length image ≡ length b.area.items = search rules in
    let back : take b.area.len (image ++ drop (length image) b.area.items) ≡ image = written_back image b.area.items b.area.len size b.area.ok.0 in
    let p = err_from_is_err_and c.from_residual.result c.from_residual.ensures.1 in
    rw (p.1 ∙ ap Err p.2) (record {
      taken = tt;
      buffer = empty_buffer b _ c.requires.buffer (ap length back ∙ size) refl refl;
      size = ap length back ∙ size ∙ c.requires.size;
      reads = record { file = c.read.ensures.file; time = c.read.ensures.time };
      back = c.read.ensures.back;
      counts = record { later = c.in_err-read.ensures.counts.later; none = tt; failed = c.in_err-read.ensures.counts.failed };
    })

pub returns : goal.returns
returns g c =
    let h = g.B.Blocks.past_of in
    let shape = c.args.shape in
    let a = c.args.a in
    let b = c.args.buffer.now in
    let content : CrashFile = (h c.args.below.now).file.content in
    let image : CrashFile = c.read.new.run in
    let size : length image ≡ length b.area.items = search rules in
    let back : take b.area.len (image ++ drop (length image) b.area.items) ≡ image = written_back image b.area.items b.area.len size b.area.ok.0 in
    let is : image ≡ area_of shape content a =
    c.in_ok-read.ensures.ok ∙ ap (run_of content (area_start shape a)) (sym c.read.ensures.size ∙ size ∙ c.requires.size) in
    record {
      taken = subst (λ (l : CrashFile). HasTaken (found_in l a) a c.load.new.self c.load.result) (back ∙ is) c.load.ensures.taken;
      buffer = c.load.ensures.buffer;
      size = c.load.ensures.size ∙ ap length back ∙ size ∙ c.requires.size;
      reads = record { file = c.read.ensures.file; time = c.read.ensures.time };
      back = c.read.ensures.back;
      counts = record { later = c.in_ok-read.ensures.counts.later; none = c.in_ok-read.ensures.counts.none; failed = tt };
    }

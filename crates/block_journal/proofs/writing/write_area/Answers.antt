use Rattle.std.proofs.Common.{◌≡◌, ℕ, ◌+◌, ◌%◌, ◌<◌, ◌≤◌, [], length, take, ◌∙◌, ap, arith, length-take}
use Rattle.std.proofs.lemmas.List.{get_or-take}
use Rattle.block_device.specs.Blocks.{CrashFile, BlockFile, after_write, block}
use Rattle.block_device.proofs.CrashFiles.{length-with_run}
use Rattle.block_device.proofs.Within.{holds_after_write, within_write}
use Rattle.block_journal.specs.Layout.{area_of, area_start, kept_of}
use Rattle.block_journal.specs.Journal.{MayWrite}
use Rattle.block_journal.proofs.Crash.{area_before_kept}
use Rattle.block_journal.proofs.Results.{on_ok}
use Rattle.block_journal.proofs.Placing.{area_has, area_kept, in_area}
use Rattle.block_journal.proofs.writing.write_area.Goals as goal

pub overflow_mul-start : goal.overflow_mul-start
overflow_mul-start g c = omega (arith, area_before_kept c.args.shape (c.args.number % 2) (omega arith), c.requires.small)

pub overflow_add-start : goal.overflow_add-start
overflow_add-start g c = omega (arith, area_before_kept c.args.shape (c.args.number % 2) (omega arith), c.requires.small)

pub write-requires : goal.write-requires
write-requires g c = omega (
  arith,
  area_before_kept c.args.shape (c.args.number % 2) (omega arith),
  c.requires.inside.room,
  c.requires.buffer.count,
  c.requires.size,
  ap length c.deref.ensures.value,
  length-take (c.args.next.now.count + 1) c.deref.result.now,
)

pub returns : goal.returns
returns g c =
    let h = g.B.Blocks.past_of in
    let shape = c.args.shape in
    let a = c.args.number % 2 in
    let low : a < 2 = omega arith in
    let count = c.args.next.now.count in
    let run : CrashFile = take (count + 1) c.deref.result.now in
    let old : BlockFile = (h c.args.below.now).file in
    let new : BlockFile = (h c.write.new.self).file in
    let long : length run ≡ count + 1 = omega (arith, c.requires.buffer.count, ap length c.deref.ensures.value, length-take (count + 1) c.deref.result.now) in
    let short : length run ≤ shape.area = omega (arith, long, c.requires.buffer.count, c.requires.size) in
    record {
      within = λ entries image start so_far. within_write (MayWrite shape a entries) image start (h c.args.below.now) (h c.write.new.self) so_far
          c.write.ensures.time (area_start shape a) run c.write.result (in_area shape old.content c.requires.inside a run low short entries)
          c.write.ensures.ok c.write.ensures.err;
      written = on_ok (new ≡ after_write old (area_start shape a) run) ((n : ℕ) → n ≤ count → block (area_of shape new.content a) n
          ≡ block c.args.next.now.area.items n) c.write.result
          (λ ok n le. ap (λ (f : BlockFile). block (area_of shape f.content a) n) ok
          ∙ area_has shape old.content c.requires.inside a run low short n (omega (arith, le, long))
          ∙ get_or-take (count + 1) c.deref.result.now n [] (omega (arith, le))
          ∙ ap (λ (l : CrashFile). block l n) c.deref.ensures.value)
          c.write.ensures.ok;
      kept = holds_after_write (λ f. kept_of shape f.content ≡ kept_of shape old.content) old (area_start shape a) run new c.write.result
          c.write.ensures.ok c.write.ensures.err
          (λ some size. area_kept shape old.content c.requires.inside a some low (omega (arith, short, size)));
      size = holds_after_write (λ f. length f.content ≡ length old.content) old (area_start shape a) run new c.write.result
          c.write.ensures.ok c.write.ensures.err (λ some size. length-with_run old.content (area_start shape a) some);
      back = c.write.ensures.back;
      counts = c.write.ensures.counts;
    }
